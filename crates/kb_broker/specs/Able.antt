-- Which connections may take a turn.
use Rattle.std.specs.Prelude.{ℕ, List, map}
use Rattle.std.specs.BinaryHeap.{heap_capacity, heap_items}
use Rattle.std.specs.declared.alloc.Global.{Global}
use Rattle.std.specs.declared.cmp.Reverse.{Reverse}
use Rattle.std.specs.declared.collections.binary_heap.BinaryHeap.{BinaryHeap}

-- their numbers, in no particular order, and for how many there is room
pub record Numbers : Type 0 where
  pub items : List ℕ
  pub room : ℕ

abbrev pub heap_numbers : BinaryHeap (Reverse ℕ) Global → Numbers
heap_numbers h = record { items = map (λ (r : Reverse ℕ). r.0) (heap_items h); room = heap_capacity h }
