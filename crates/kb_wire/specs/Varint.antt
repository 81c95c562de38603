-- Numbers in groups of seven bits, the low group first.
use Rattle.std.specs.Prelude.{◌≡◌, ◌<◌, ◌≤◌, ◌^◌, ◌+◌, ◌*◌, ◌/◌, ◌%◌, ℕ, zero, suc, ℤ, pos, negsuc, List, [], ◌∷◌, ◌⊎◌, Result, Ok, Err}
use Rattle.std.specs.Prelude.{nat_lt, ◌==◌, if◌then◌else◌, FitsSigned}
use Rattle.std.specs.Int.{Width, w32, w64}
use mir.Val.{bits}
use Rattle.kb_wire.specs.declared.fault.WireFault.{WireFault}
use Rattle.kb_wire.specs.declared.fault.WireFault.TheVariants.{Short, Bad}
use Rattle.kb_wire.specs.Codec.{◌>>=◌, Codec, via, refined}

-- At most k bytes. A byte below 128 is the last; one from 128 on has the low seven bits, and the bytes after it spell the rest.
abbrev pub SpellsGroups : ℕ → List ℕ → ℕ → Type 0
SpellsGroups zero s n = ⊥
SpellsGroups (suc k) [] n = ⊥
SpellsGroups (suc k) (b ∷ s) n =
    ((b < 128) × (s ≡ []) × (n ≡ b)) ⊎ ((128 ≤ b) × ((high : ℕ) × (n ≡ b % 128 + 128 * high) × SpellsGroups k s high))

-- A number that is not ended is Short while fewer than k bytes are there.
unfoldable pub groups_at : ℕ → List ℕ → Result (ℕ × List ℕ) WireFault
groups_at zero s = Err Bad
groups_at (suc k) [] = Err Short
groups_at (suc k) (b ∷ s) = if nat_lt b 128 then Ok (b, s) else (groups_at k s >>= λ high. Ok (b % 128 + 128 * high.0, high.1))

-- as few bytes as can be
unfoldable pub written_groups : ℕ → ℕ → List ℕ
written_groups zero n = []
written_groups (suc k) n = if nat_lt n 128 then n ∷ [] else (n % 128 + 128) ∷ written_groups k (n / 128)

unfoldable pub groups : ℕ → Codec ℕ
groups k = record {
  Spells = SpellsGroups k;
  read = groups_at k;
  written = written_groups k;
  Fits = λ n. Unit {0};
  InRange = λ n. n < 128 ^ k;
}

-- 0, -1, 1, -2, 2, .. are told by 0, 1, 2, 3, 4, ..
unfoldable pub from_zigzag : ℕ → ℤ
from_zigzag n = if n % 2 == 0 then pos (n / 2) else negsuc (n / 2)

unfoldable pub to_zigzag : ℤ → ℕ
to_zigzag (pos n) = 2 * n
to_zigzag (negsuc n) = 2 * n + 1

-- at most that many bytes, and a value of that width
unfoldable pub zigzag : ℕ → Width → Codec ℤ
zigzag k w = record (via from_zigzag to_zigzag (refined (λ n. nat_lt n (2 ^ bits w)) (groups k))) { InRange = λ v. FitsSigned w v }

-- at most 5 bytes, within 32 bits
abbrev pub varint : Codec ℤ
varint = zigzag 5 w32

-- at most 10 bytes, within 64 bits
abbrev pub varlong : Codec ℤ
varlong = zigzag 10 w64
