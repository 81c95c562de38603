-- The deadlines in their order, and those that have come.
use Rattle.std.specs.Prelude.{ℕ, nat_le, List, map, filter}
use Rattle.std.specs.declared.cmp.Ordering.{Ordering}
use Rattle.std.specs.Ordering.{nat_cmp, ordering_then}

-- first by the deadline, then by the connection
abbrev pub by_deadline : ℕ × ℕ → ℕ × ℕ → Ordering
by_deadline a b = ordering_then (nat_cmp a.0 b.0) (nat_cmp a.1 b.1)

-- the connections whose deadline is the clock or earlier
abbrev pub due_of : ℕ → List (ℕ × ℕ) → List ℕ
due_of clock ps = map (λ p. p.1) (filter (λ p. nat_le p.0 clock) ps)
