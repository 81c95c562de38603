-- Which connections have something to tell.
use Rattle.std.specs.Prelude.{◌≡◌, ◌<◌, ◌≤◌, ◌==◌, ℕ, List, [], ◌∷◌, length, nat_lt, Bool, if◌then◌else◌, Option, Some, None, true, false}
use Rattle.std.specs.Prelude.{⊤}
use Rattle.std.specs.Vec.{vec_capacity}
use Rattle.std.specs.declared.alloc.Global.{Global}
use Rattle.std.specs.declared.vec.Vec.{Vec}
use Rattle.kb_isolation_spec.specs.Session.{Stage, Greets, BoundTo, Session, Unshaken, Shaken, Bare}
use Rattle.kb_isolation_spec.specs.Machine.{Line}
use Rattle.kb_connection.specs.View.{speaks}

-- the numbers of those that have, in their order
abbrev pub speakers : List Line → List ℕ
speakers [] = []
speakers (l ∷ ls) = if speaks l.session then l.number ∷ speakers ls else speakers ls

-- rising numbers with one of them, or without it
abbrev pub with_number : ℕ → Bool → List ℕ → List ℕ
with_number n b [] = if b then n ∷ [] else []
with_number n b (m ∷ ms) =
    if nat_lt m n then m ∷ with_number n b ms
    else if m == n then (if b then m ∷ ms else ms)
    else if b then n ∷ m ∷ ms
    else m ∷ ms

-- numbers above one, each above the one before it
abbrev pub Ascends : ℕ → List ℕ → Type 0
Ascends low [] = ⊤
Ascends low (n ∷ ns) = (low < n) × Ascends n ns

-- a list of rising numbers has room for what it is to hold
pub record IsRoomy (n : ℕ) (b : Bool) (ns : Vec ℕ Global) : Type 0 where
  pub rises : Ascends 0 ns.items
  pub room : length (with_number n b ns.items) ≤ vec_capacity ns

-- a list has those that have something to tell, and room for all
pub record IsHeard (ns : Vec ℕ Global) (lines : List Line) : Type 0 where
  pub numbers : ns.items ≡ speakers lines
  pub room : length lines ≤ vec_capacity ns

-- whether the frame that comes next on a connection is a login by itself
abbrev pub takes_login_at : Stage → Bool
takes_login_at (Greets Unshaken) = false
takes_login_at (Greets Shaken) = false
takes_login_at (Greets Bare) = true
takes_login_at (BoundTo tenant wait) = false

abbrev pub takes_login_in : Option Session → Bool
takes_login_in None = false
takes_login_in (Some s) = takes_login_at s.stage
