-- What settings let all tenants take together.
use Rattle.std.specs.Prelude.{ℕ, List, [], ◌∷◌, map, ◌+◌, ◌-◌, ◌*◌, ◌^◌, min, max, Option, None, Some, unwrap_or}
use Rattle.kb_settings.specs.Names.{in_order}
use Rattle.kb_settings.specs.Values.{Values, data_of}

-- the names of the tenants
abbrev pub tenants_of : Values → List (List ℕ)
tenants_of v = in_order (map (λ u. u.tenant) v.users)

abbrev pub plus : Option ℕ → Option ℕ → Option ℕ
plus (Some a) (Some b) = Some (a + b)
plus a b = None

-- a number of bytes as it is told: 2^64 - 1 where it is above
abbrev pub told : ℕ → ℕ
told n = min n (2 ^ 64 - 1)

-- how many bytes of batches these tenants may store together; None is no limit, where one of them has none
abbrev pub stored_by : Values → List (List ℕ) → Option ℕ
stored_by v [] = Some 0
stored_by v (name ∷ names) = plus (data_of name v).bytes (stored_by v names)

abbrev pub stored_at_most : Values → Option ℕ
stored_at_most v = stored_by v (tenants_of v)

-- how many bytes of records a reply of Fetch to one of these tenants has at most: 8,388,608 where a tenant has no limit of its own
abbrev pub fetched_by : Values → List (List ℕ) → ℕ
fetched_by v [] = 0
fetched_by v (name ∷ names) = max (unwrap_or (data_of name v).fetch_bytes 8388608) (fetched_by v names)

-- the same of a reply to each connection
abbrev pub fetched_at_most : Values → ℕ
fetched_at_most v = v.connections * fetched_by v (tenants_of v)

-- How many bytes of requests and replies all sockets may hold together: those of replies that are not read, those of requests that are
-- begun, and of each connection those of a request that waits for its answer and 65,536 of the next one
abbrev pub held_at_most : Values → ℕ
held_at_most v = v.output_bytes + v.requests.input_bytes + v.connections * (v.requests.request_bytes + 65536)
