-- How refusals are counted.
use Rattle.std.specs.Prelude.{◌-◌, ◌^◌, ℕ, ◌≡◌, ◌<◌, ◌+◌, nat_lt, if◌then◌else◌, max, min}

-- where a count of refusals stays
abbrev pub END : ℕ
END = 2 ^ 64 - 1

-- nothing was refused: the count is as before, and can still rise
pub record IsCalm (old new : ℕ) : Type 0 where
  pub same : new ≡ old
  pub below : old < END

-- one refusal more, short of the end
abbrev pub counted_once : ℕ → ℕ
counted_once n = if nat_lt n END then n + 1 else n

-- that many refusals more, up to the end
abbrev pub counted_by : ℕ → ℕ → ℕ
counted_by k n = max n (min (n + k) END)
