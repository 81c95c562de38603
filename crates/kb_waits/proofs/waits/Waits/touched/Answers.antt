use Rattle.std.proofs.Common.{◌≡◌, ◌≤◌, [], ◌++◌, length, vec_capacity, sym, ap, ◌∙◌, subst, arith}
use Rattle.std.specs.FinMap as fin
use Rattle.std.proofs.lemmas.Bool.{false≢true}
use Rattle.kb_waits.specs.Queue.{AreParked, IsUnder}
use Rattle.kb_waits.specs.Waiters.{set_has}
use Rattle.kb_waits.specs.Waits.{is_under}
use Rattle.kb_waits.proofs.Answered.{AreParked-ordered, is_under-decides, few_waiters, ordered-none}
use Rattle.kb_waits.proofs.waits.Waits.touched.Goals as goal

pub returns-in_default-clause-touched : goal.returns-in_default-clause-touched
returns-in_default-clause-touched c =
    subst (λ xs. AreParked c.args.self.now (IsUnder c.args.key.now) xs) (sym c.clear.ensures.items)
    (subst (λ q. AreParked q (IsUnder c.args.key.now) []) c.self.view_is
    (AreParked-ordered c.self.inside.entries (is_under c.args.key.now) (IsUnder c.args.key.now) (is_under-decides c.args.key.now) []
    (λ n. ap (set_has n) c.in_default.ensures.value ∙ c.self.invariant.keyed c.args.key.now n) ordered-none))

pub returns-in_err-clear_with_room-clause-succeeds :
    goal.returns-in_err-clear_with_room-clause-succeeds
returns-in_err-clear_with_room-clause-succeeds c = λ h.
    let few : length c.in-Some.set.now.keys ≤ fin.len c.self.inside.entries = few_waiters c.self.inside.entries c.args.key.now c.in-Some.set.now.keys (λ n. ap (set_has n) c.in-Some.ensures.value ∙ c.self.invariant.keyed c.args.key.now n) c.len.ensures.ordered in
    let fits : c.len.result ≤ vec_capacity c.args.out.now = omega (arith, few, ap fin.len c.self.view_is) in
    absurd (false≢true (c.in_err-clear_with_room.ensures.succeeds fits))

pub returns-clause-touched : goal.returns-clause-touched
returns-clause-touched c =
    let all : c.push_all.new.out.items ≡ c.in-Some.set.now.keys = c.push_all.ensures.pushed ∙ ap (λ xs. xs ++ c.in-Some.set.now.keys) c.in_ok-clear_with_room.ensures.cleared in
    subst (λ xs. AreParked c.args.self.now (IsUnder c.args.key.now) xs) (sym all)
    (subst (λ q. AreParked q (IsUnder c.args.key.now) c.in-Some.set.now.keys) c.self.view_is
    (AreParked-ordered c.self.inside.entries (is_under c.args.key.now) (IsUnder c.args.key.now) (is_under-decides c.args.key.now) c.in-Some.set.now.keys
    (λ n. ap (set_has n) c.in-Some.ensures.value ∙ c.self.invariant.keyed c.args.key.now n) c.len.ensures.ordered))
