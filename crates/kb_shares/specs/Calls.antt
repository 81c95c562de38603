-- Lists of calls of a budget, and what is held after them.
use Rattle.std.specs.Prelude.{◌≡◌, ◌≤◌, ◌+◌, ⊤, ◌==◌, ℕ, Bool, true, false, not, List, [], ◌∷◌}
use Rattle.std.specs.List.{sum_by, list_any}
use Rattle.kb_shares.specs.Shares.{Pool, has_room, taken, put, given_back}

-- 1. Calls

-- A call that changes something: the holder's place, and how much.
pub data Call : Type 0 where
  Take : ℕ → ℕ → Call
  Put : ℕ → ℕ → Call
  GiveBack : ℕ → ℕ → Call

-- the budget after a call
abbrev pub after : Call → Pool → Pool
after (Take i n) p = taken i n p
after (Put i n) p = put i n p
after (GiveBack i n) p = given_back i n p

-- the budget after all of them, one after the other
abbrev pub after_all : List Call → Pool → Pool
after_all [] p = p
after_all (call ∷ calls) p = after_all calls (after call p)

-- 2. Which calls

-- whether it is this holder's
abbrev pub is_of : ℕ → Call → Bool
is_of i (Take j n) = i == j
is_of i (Put j n) = i == j
is_of i (GiveBack j n) = i == j

abbrev pub is_put : Call → Bool
is_put (Take i n) = false
is_put (Put i n) = true
is_put (GiveBack i n) = false

-- no call among them is such
abbrev pub none_is : (Call → Bool) → List Call → Bool
none_is is_such calls = not (list_any is_such calls)

-- What is put is a piece of at most this size, and its holder is open before.
abbrev pub IsPiece : ℕ → Call → Pool → Type 0
IsPiece size (Put i n) p = (n ≤ size) × (has_room i 1 p ≡ true)
IsPiece size (Take i n) p = ⊤
IsPiece size (GiveBack i n) p = ⊤

-- so each time
abbrev pub PutsPieces : ℕ → List Call → Pool → Type 0
PutsPieces size [] p = ⊤
PutsPieces size (call ∷ calls) p = IsPiece size call p × PutsPieces size calls (after call p)

-- 3. Sums

-- what all hold together
abbrev pub held : Pool → ℕ
held p = sum_by (λ h. h.used) p.holders

-- the parts of all, and what is no part
abbrev pub total_of : Pool → ℕ
total_of p = p.common + sum_by (λ h. h.share.own) p.holders
