-- What the queue of waiting requests is: a finite map from connections to their waits.
use Rattle.std.specs.Prelude.{◌≡◌, ℕ, ⊤, ◌≤◌, ◌↔◌, List, Option, Some, None, Any, Contains, IsSomeAnd, refl}
use Rattle.std.specs.Coded.{Coded, code_by, coded×, coded_ℕ, coded_list}
use Rattle.std.specs.FinMap.{FinMap, get, code}
use Rattle.std.specs.List.Sorted.{IsStrictlyIncreasing}
use Rattle.std.specs.Ordering.{nat_cmp}
use Rattle.kb_waits.specs.contracts.key.WaitKey.{the_row}
use Rattle.kb_waits.specs.declared.key.WaitKey.{WaitKey}

-- A wait: the moment at which it ends unanswered, in milliseconds, and the keys under which it is parked.
pub record Wait : Type 0 where
  pub deadline : ℕ
  pub keys : List WaitKey

-- The parked connections, each with its one wait.
abbrev pub Queue : Type 0
Queue = FinMap nat_cmp Wait

-- Any wait.
abbrev pub IsAny : Wait → Type 0
IsAny wait = ⊤

-- The deadline of a wait has come: it is the clock or earlier.
abbrev pub IsDue : ℕ → Wait → Type 0
IsDue clock wait = wait.deadline ≤ clock

-- A wait is parked under this key.
abbrev pub IsUnder : WaitKey → Wait → Type 0
IsUnder key wait = Contains wait.keys key

-- A wait is parked under one of these keys at least.
abbrev pub IsUnderAny : List WaitKey → Wait → Type 0
IsUnderAny keys wait = Any (λ key. IsUnder key wait) keys

-- Exactly the connections that are parked with such a wait, each once, ascending.
pub record AreParked (queue : Queue) (IsSuch : Wait → Type 0) (connections : List ℕ) : Type 0 where
  pub exactly : (n : ℕ) → Contains connections n ↔ IsSomeAnd (get queue n) IsSuch
  pub ascending : IsStrictlyIncreasing connections

-- Some connection is parked until this deadline, and none until an earlier one.
pub record IsLeastDeadline (queue : Queue) (deadline : ℕ) : Type 0 where
  pub connection : ℕ
  pub parked : IsSomeAnd (get queue connection) (λ wait. wait.deadline ≡ deadline)
  pub least : (n : ℕ) (wait : Wait) → get queue n ≡ Some wait → deadline ≤ wait.deadline

-- The least deadline of a parked connection, and none exactly where none is parked.
abbrev pub IsFirstDeadline : Queue → Option ℕ → Type 0
IsFirstDeadline queue None = (n : ℕ) → get queue n ≡ None
IsFirstDeadline queue (Some deadline) = IsLeastDeadline queue deadline

-- a wait is stored as the pair of its fields
abbrev pub wait_code : Coded Wait
wait_code =
    code_by (ℕ × List WaitKey) (coded× coded_ℕ (coded_list the_row.coded)) (λ w. (w.deadline, w.keys)) (λ p.
    record { deadline = p.0; keys = p.1 }) (λ _. refl)

-- a queue is stored as its entries
abbrev pub queue_code : Coded Queue
queue_code = code coded_ℕ wait_code
