-- A topic map with nothing in it keeps every partition sound, on any shelf.
use Rattle.std.proofs.Common.{◌≡◌, ℕ, [], None, Some}
use Rattle.std.specs.List.Sorted.{IsStrictlySortedBy}
use Rattle.std.specs.Ordering.{nat_cmp}
use Rattle.kb_store.specs.Disk.{Table}
use Rattle.kb_log.specs.OnShelf.{Log}
use Rattle.kb_tenant_state.specs.Partitions.{AreSound}

nothing : {A : Type 0} (x : A) → None ≡ Some x → ⊥
nothing x e = absurd cc

nothing_sorted : IsStrictlySortedBy nat_cmp []
unfolding IsStrictlySortedBy
nothing_sorted = tt

pub none_sound : {L : Type 0} (log : L → Log) (table : Table) (next : ℕ) → AreSound log [] table next
none_sound log table next = record {
  ordered = nothing_sorted;
  each = λ i p x at. absurd (nothing x at);
  apart = λ i p j q x y at there differ file own other. nothing x at;
}
