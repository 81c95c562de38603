use Rattle.std.proofs.Common.{◌≡◌, ℕ, List, ◌++◌, ap, ◌∙◌, subst}
use Rattle.std.specs.List.Sorted.{IsPermutation}
use Rattle.kb_waits.specs.Due.{due_of}
use Rattle.kb_waits.specs.Queue.{AreParked, IsDue}
use Rattle.kb_waits.proofs.Answered.{AreParked-sorted, any-due, IsDistinct-due, is_due, is_due-decides}
use Rattle.kb_waits.proofs.waits.Waits.due.Goals as goal

pub returns-clause-due : goal.returns-clause-due
returns-clause-due c =
    let all : c.push_due.new.out.items ≡ due_of c.args.clock c.self.inside.deadlines.keys = c.push_due.ensures.pushed ∙ ap (λ xs. xs ++ due_of c.args.clock c.self.inside.deadlines.keys) c.in_ok-clear_with_room.ensures.cleared in
    let moved : IsPermutation (due_of c.args.clock c.self.inside.deadlines.keys) c.sort_unstable.new.self.items = subst (λ (xs : List ℕ). IsPermutation xs c.sort_unstable.new.self.items) all c.sort_unstable.ensures.permutation in
    subst (λ q. AreParked q (IsDue c.args.clock) c.sort_unstable.new.self.items) c.self.view_is
    (AreParked-sorted c.self.inside.entries (is_due c.args.clock) (IsDue c.args.clock) (is_due-decides c.args.clock) (due_of c.args.clock c.self.inside.deadlines.keys)
    (any-due c.self.inside.entries c.self.inside.deadlines c.self.inside.waiters c.args.clock c.self.invariant)
    c.sort_unstable.new.self.items
    (IsDistinct-due c.self.inside.entries c.self.inside.deadlines c.self.inside.waiters c.args.clock c.self.invariant c.len.ensures.ordered)
    moved c.sort_unstable.ensures.sorted)
