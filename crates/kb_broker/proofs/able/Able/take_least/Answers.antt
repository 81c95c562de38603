use Rattle.std.proofs.Common.{◌∷◌, ◌≤◌, All, map, subst, IsPermutation, heap_items, ℕ}
use Rattle.std.specs.declared.cmp.Reverse.{Reverse}
use Rattle.std.proofs.lemmas.List.Sorted.{IsPermutation-map}
use Rattle.kb_broker.specs.Able.{Numbers}
use Rattle.kb_broker.proofs.Least.{least-of}
use Rattle.kb_broker.proofs.able.Able.take_least.Goals as goal

pub returns-clause-least : goal.returns-clause-least
returns-clause-least c =
    let x = c.in_ok-number.field-0 in
    subst (λ (a : Numbers). All (λ k. x.0 ≤ k) a.items) c.self.view_is
    (least-of x (heap_items c.self.inside.numbers) (c.in_ok-number.ensures.heap_order c.self.invariant).1)

pub returns-clause-others : goal.returns-clause-others
returns-clause-others c =
    let x = c.in_ok-number.field-0 in
    subst (λ (a : Numbers). IsPermutation a.items (x.0 ∷ map (λ (r : Reverse ℕ). r.0) (heap_items c.pop.new.self))) c.self.view_is
    (IsPermutation-map (λ (r : Reverse ℕ). r.0) (heap_items c.self.inside.numbers) (x ∷ heap_items c.pop.new.self) c.in_ok-number.ensures.permutation)
