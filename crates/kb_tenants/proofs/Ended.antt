-- What a look comes to in which something was refused.
use Rattle.std.proofs.Common.{◌≡◌, ℕ, ℤ, Bool, true, false, not, List, Option, refl, subst, sym}
use Rattle.kb_tenant_state.specs.World.{World}
use Rattle.kb_tenant.specs.Told.{AnswersLook}
use Rattle.kb_tenant.specs.declared.answer.Answer.{Answer}
use Rattle.kb_tenant.specs.declared.answer.Answer.TheVariants as answers
use Rattle.kb_tenants.specs.Tenants.{reply_or_shut}

-- its answer tells what was told before it was ended
pub ended_told : (failed : Type 0) (id version : ℤ) (limit : Option ℕ) (w : World) (clock deadline : ℕ) (body : List ℕ) (a b : Answer) → b ≡ reply_or_shut a
    → AnswersLook failed id version limit w clock deadline body a → AnswersLook failed id version limit w clock deadline body b
ended_told failed id version limit w clock deadline body a b is told = subst (AnswersLook failed id version limit w clock deadline body) (sym is) (by a told)
  where
    by : (x : Answer) → AnswersLook failed id version limit w clock deadline body x → AnswersLook failed id version limit w clock deadline body (reply_or_shut x)
    by (answers.Reply bytes) h = h
    by (answers.Wait until kept keys) h = λ q read. absurd (h q read)
    by answers.NoReply h = λ q read. tt
    by answers.Shut h = h

-- what is not refused, and what is
pub unrefused : (calm : Bool) → not calm ≡ false → calm ≡ true
unrefused true h = refl
unrefused false h = sym h

pub refused : (calm : Bool) → not calm ≡ true → calm ≡ false
refused true h = sym h
refused false h = refl
