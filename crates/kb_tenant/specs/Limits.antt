-- What a tenant may have, and what one request of it may name.
use Rattle.std.specs.Prelude.{ℕ, Bool, false, Option, Some, None, nat_lt, option_map, ◌-◌}
use Rattle.kb_tenant.specs.declared.limits.DataLimits.{DataLimits}

-- what is left of a limit where there are so many; None is no limit
abbrev pub left_of : Option ℕ → ℕ → Option ℕ
left_of limit count = option_map (λ n. n - count) limit

-- whether so many are past what is left; None is no limit
abbrev pub is_past : Option ℕ → ℕ → Bool
is_past None count = false
is_past (Some left) count = nat_lt left count

-- no limit
abbrev pub no_limits : DataLimits
no_limits = record {
  topics = None;
  partitions = None;
  offsets = None;
  group_bytes = None;
  bytes = None;
  request_entries = None;
  fetch_bytes = None;
  reply_bytes = None;
}
