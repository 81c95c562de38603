-- What the requests of tools come to, which change no group.
use Rattle.std.proofs.Common.{inl, ◌≡◌, ◌∙◌, ℤ, List, ℕ, [], refl, ap, subst, sym}
use Rattle.std.specs.Prelude.{◌++◌, Option, Result, Ok, Err}
use Rattle.kb_wire.specs.declared.fault.WireFault.{WireFault}
use Rattle.kb_wire.specs.declared.fault.ReadFault.{ReadFault}
use Rattle.kb_wire.specs.declared.fault.ReadFault.TheVariants as faults
use Rattle.kb_coordinator.specs.Groups.{Groups, silent}
use Rattle.kb_tenant_state.specs.World.{World}
use Rattle.kb_tenant.specs.Replies.{AreUntil, begun}
use Rattle.kb_tenant_api.specs.Replies.{IsAnswer, short_replies}
use Rattle.kb_tenant_api.specs.Acknowledged.{AreGroupsBy}
use Rattle.kb_tenant_api.specs.Serve.{Outcome, if_read, of_groups, IsOutcome}
use Rattle.kb_tenant_api.specs.declared.answer.Answer.{Answer}

-- whether its body was read or not, nobody is answered by it
pub only_silent : {A : Type 0} (w : World) (gs : Groups) (r : Result A WireFault) (f : A → Outcome) → ((a : A) → (f a).groups ≡ silent gs) → (if_read w gs r f).groups ≡ silent gs
only_silent w gs (Ok a) f each = each a
only_silent w gs (Err fault) f each = refl

-- the groups after it, whatever was refused
pub looked_groups : (old new made : Groups) (r : Result Answer ReadFault) → made ≡ silent old → new ≡ silent old → AreGroupsBy old made r new
looked_groups old new made (Ok answer) a b = b ∙ sym a
looked_groups old new made (Err (faults.Wire fault)) a b = b ∙ sym a
looked_groups old new made (Err faults.Memory) a b = inl (b ∙ sym a)

-- a reply of what was looked at, where the last replies were forgotten first
pub looked : (limit : Option ℕ) (id : ℤ) (w : World) (gs quiet : Groups) (body : Groups → List ℕ) (answer : Answer) → quiet ≡ silent gs → body (silent gs) ≡ body gs
    → IsAnswer id (short_replies limit (body quiet)) answer → IsOutcome id (of_groups w (silent gs) (short_replies limit (body gs))) w quiet [] answer
looked limit id w gs quiet body answer is same h = (refl, is, refl, subst (λ x. IsAnswer id (short_replies limit x) answer) (ap body is ∙ same) h)

-- what was written behind a reply that was begun
pub behind_begun : (most room : ℕ) (id z : ℤ) (front body made : List ℕ) → room ≡ most → front ≡ begun z → z ≡ id → AreUntil room (front ++ body) made → AreUntil most (begun id ++ body) made
behind_begun most room id z front body made is from same until =
    subst (λ m. AreUntil m (begun id ++ body) made) is (subst (λ x. AreUntil room (x ++ body) made) (from ∙ ap begun same) until)
