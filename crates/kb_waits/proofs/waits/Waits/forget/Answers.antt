use Rattle.std.proofs.Common.{◌≡◌, ◌+◌, Some, not, cond, sym, ap, ◌∙◌, subst}
use Rattle.std.specs.Prelude.{◌&&◌}
use Rattle.std.specs.BTreeSet.{btree_set_len}
use Rattle.std.specs.FinMap as fin
use Rattle.kb_waits.specs.Entry.{wait_of}
use Rattle.kb_waits.specs.Waiters.{has, is_one_of}
use Rattle.kb_waits.specs.Waits.{IsIndexed}
use Rattle.kb_waits.proofs.Indexed.{IsIndexed-take, dated-there}
use Rattle.kb_waits.proofs.Queues.{get-remove_other, get-remove_same}
use Rattle.kb_waits.proofs.Slots.{remove-none}
use Rattle.kb_waits.proofs.waits.Waits.forget.Goals as goal

pub invariant_of-self : goal.invariant_of-self
invariant_of-self c =
    let there : fin.get c.self.inside.entries c.args.connection ≡ Some (wait_of c.in-Some.entry) = sym c.in-Some.ensures.entry in
    let had = dated-there c.self.inside.entries c.self.inside.deadlines c.self.inside.waiters c.args.connection (wait_of c.in-Some.entry) c.self.invariant there in
    let count : btree_set_len c.remove-in-Some.new.self + 1 ≡ btree_set_len c.self.inside.deadlines = ap (λ b. btree_set_len c.remove-in-Some.new.self + cond b 1 0) (sym (c.remove-in-Some.ensures.test ∙ had)) ∙ c.remove-in-Some.ensures.len in
    subst (λ q. IsIndexed q c.remove-in-Some.new.self c.remove_all.new.self) (sym c.in-Some.ensures.removed)
    (IsIndexed-take c.self.inside.entries c.self.inside.deadlines c.remove-in-Some.new.self c.self.inside.waiters c.remove_all.new.self c.args.connection (wait_of c.in-Some.entry)
    c.self.invariant there c.remove-in-Some.ensures.updates.0 count
    (λ k n. c.remove_all.ensures k n ∙ ap (λ keys. not (is_one_of keys c.args.connection k n) && has c.self.inside.waiters k n) c.deref.ensures.value))

pub invariant_of-self-in_default : goal.invariant_of-self-in_default
invariant_of-self-in_default c =
    subst (λ q. IsIndexed q c.self.inside.deadlines c.self.inside.waiters) (remove-none c.self.inside.entries c.args.connection (sym c.in_default.ensures.entry) ∙ sym c.in_default.ensures.removed) c.self.invariant

pub returns-in-Some-clause-gone : goal.returns-in-Some-clause-gone
returns-in-Some-clause-gone c = ap (λ q. fin.get q c.args.connection) c.in-Some.ensures.removed ∙ get-remove_same c.self.inside.entries c.args.connection

pub returns-in-Some-clause-others : goal.returns-in-Some-clause-others
returns-in-Some-clause-others c = λ n h. ap (λ q. fin.get q n) c.in-Some.ensures.removed ∙ get-remove_other c.self.inside.entries c.args.connection n h ∙ ap (λ q. fin.get q n) c.self.view_is

pub returns-in_default-clause-gone : goal.returns-in_default-clause-gone
returns-in_default-clause-gone c = ap (λ q. fin.get q c.args.connection) c.in_default.ensures.removed ∙ get-remove_same c.self.inside.entries c.args.connection

pub returns-in_default-clause-others : goal.returns-in_default-clause-others
returns-in_default-clause-others c = λ n h. ap (λ q. fin.get q n) c.in_default.ensures.removed ∙ get-remove_other c.self.inside.entries c.args.connection n h ∙ ap (λ q. fin.get q n) c.self.view_is
