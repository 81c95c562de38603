-- A name that is kept in place: 64 bytes and a length.
use Rattle.std.specs.Prelude.{◌≡◌, ◌≤◌, ◌-◌, ℕ, List, ◌++◌, length, take, drop, replicate}
use Rattle.std.proofs.Common.{◌∙◌, sym, ap, subst, take-append-drop, length-take-le}

-- as much of a name as is kept
abbrev pub kept_name : List ℕ → List ℕ
kept_name name = take 64 name

-- a name of that length begins 64 bytes; behind it stand zeros
abbrev pub IsInPlace : ℕ → List ℕ → Type 0
IsInPlace len bytes = (len ≤ 64) × (length bytes ≡ 64) × (drop len bytes ≡ replicate (64 - len) 0)

-- the 64 bytes of a name
abbrev pub in_place : List ℕ → List ℕ
in_place name = name ++ replicate (64 - length name) 0

-- it gives its length and its bytes back
pub same-length : (len : ℕ) (bytes : List ℕ) → IsInPlace len bytes → length (take len bytes) ≡ len
same-length len bytes h = length-take-le len bytes (subst (λ n. len ≤ n) (sym h.1) h.0)

pub same-bytes : (len : ℕ) (bytes : List ℕ) → IsInPlace len bytes → in_place (take len bytes) ≡ bytes
same-bytes len bytes h =
    ap (λ n. take len bytes ++ replicate (64 - n) 0) (same-length len bytes h) ∙ ap (λ rest. take len bytes ++ rest) (sym h.2)
    ∙ take-append-drop len bytes
