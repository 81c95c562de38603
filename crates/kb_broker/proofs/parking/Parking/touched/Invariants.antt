use Rattle.std.proofs.Common.{◌≡◌, ℕ, [], All, take}
use Rattle.std.specs.Prelude.{IsSomeAnd}
use Rattle.std.specs.FinMap as fin
use Rattle.kb_waits.specs.Queue.{IsUnder}
use Rattle.kb_broker.specs.Parked.{key_of}
use Rattle.kb_broker.proofs.parking.Parking.touched.Given as goal

-- nobody waits for those so far
abbrev pub invariant-loop-place : goal.invariant-loop-place
invariant-loop-place l = record {
  none : l.numbers.items ≡ [];
  apart : All (λ place. (k : ℕ) → IsSomeAnd (fin.get l.self k) (IsUnder (key_of l.tenant place)) → ⊥) (take l.place-index l.places);
}
