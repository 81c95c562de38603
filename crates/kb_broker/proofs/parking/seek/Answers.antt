use Rattle.std.proofs.Common.{ℕ, sym, subst}
use Rattle.std.specs.Prelude.{Contains, IsSomeAnd, ◌⊎◌, ◌↔◌}
use Rattle.std.specs.Bool.{OnTrue}
use Rattle.std.specs.FinMap as fin
use Rattle.kb_waits.specs.Queue.{IsDue}
use Rattle.kb_broker.specs.Parked.{AreSought}
use Rattle.kb_broker.proofs.parking.seek.Goals as goal

pub returns-in-Some : goal.returns-in-Some
returns-in-Some c =
    let a = c.args in
    let r = c.due_or_answered.result in
    let ns = c.due_or_answered.new.numbers.items in
    subst (λ o. OnTrue r (AreSought a.waits.now o a.clock ns)) (sym c.in-Some.is)
    (subst (λ xs. OnTrue r ((k : ℕ) → Contains ns k ↔ (IsSomeAnd (fin.get a.waits.now k) (IsDue a.clock) ⊎ Contains xs k))) c.deref.ensures.value c.due_or_answered.ensures)
