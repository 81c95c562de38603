-- The entries in their slots.
use Rattle.std.specs.Prelude.{◌≡◌, ℕ, List, [], map, Option, Some, None, IsSome}
use Rattle.std.specs.BTreeMap.{is_at}
use Rattle.std.specs.FinMap.{from_entries}
use Rattle.std.specs.Map.{lookup}
use Rattle.std.specs.Ordering.{nat_cmp}
use Rattle.slab.specs.Slab.{Slab, get}
use Rattle.kb_waits.specs.Entry.{wait_of}
use Rattle.kb_waits.specs.Queue.{Queue, Wait}
use Rattle.kb_waits.specs.declared.entry.Entry.{Entry}

-- the queue of the connections of a list, each with a wait that is read from what stands beside it
abbrev pub queue_by : {X : Type 0} → (X → Wait) → List (ℕ × X) → Queue
queue_by read ps = from_entries (map (λ p. (p.0, read p.1)) ps)

-- what stands beside a connection
abbrev pub beside : {X : Type 0} → ℕ → List (ℕ × X) → Option X
beside n ps = lookup (is_at (nat_cmp n)) ps

-- the wait of an entry, if there is one
abbrev pub wait_or : Option Entry → Wait
wait_or (Some e) = wait_of e
wait_or None = record { deadline = 0; keys = [] }

-- the wait in a slot
abbrev pub wait_at : Slab Entry → ℕ → Wait
wait_at slab slot = wait_or (get slab slot)

-- the queue that connections with their slots are
abbrev pub queue_at : Slab Entry → List (ℕ × ℕ) → Queue
queue_at slab slots = queue_by (wait_at slab) slots

-- each connection has an entry in its slot, and a slot of its own
pub record HasSlots (slab : Slab Entry) (slots : List (ℕ × ℕ)) : Type 0 where
  pub filled : (n slot : ℕ) → beside n slots ≡ Some slot → IsSome (get slab slot)
  pub apart : (n m slot : ℕ) → beside n slots ≡ Some slot → beside m slots ≡ Some slot → n ≡ m
