-- How much comes in a second.
use Rattle.std.specs.Prelude.{ℕ, ◌+◌, ◌-◌, ◌^◌, List, ◌++◌, drop, replicate, length, min, Option, None, Some, slice_set, slice_index_or}
use Rattle.std.specs.List.{sum_by}
use Rattle.kb_metrics.specs.declared.rates.Noted.{Noted}

-- How much came in each of the last 120 seconds, the oldest first, and what was noted last.
pub record Series : Type 0 where
  pub samples : List ℕ
  pub noted : Option Noted

abbrev pub none_noted : Series
none_noted = record { samples = replicate 120 0; noted = None }

-- so many seconds are gone where some begin
abbrev pub gone : ℕ → List ℕ → ℕ
gone seconds xs = min seconds (length xs)

-- so many seconds begin, in which nothing came yet: as many of the oldest go
abbrev pub advanced : ℕ → List ℕ → List ℕ
advanced seconds xs = drop (gone seconds xs) xs ++ replicate (gone seconds xs) 0

-- more in the newest second, as far as 64 bits go
abbrev pub added : ℕ → List ℕ → List ℕ
added more xs = slice_set xs 119 (min (slice_index_or xs 119 0 + more) (2 ^ 64 - 1))

-- Nothing is known of what came before the first note. Then what came since the last one is of the second that is noted now; in a second
-- without a note nothing came. A clock that goes back begins no second.
abbrev pub noted_after : Option Noted → Noted → List ℕ → List ℕ
noted_after None now xs = xs
noted_after (Some last) now xs = added (now.total - last.total) (advanced (now.second - last.second) xs)

abbrev pub noted_series : Noted → Series → Series
noted_series now s = record { samples = noted_after s.noted now s.samples; noted = Some now }

-- the samples of the last minute, so many seconds behind the last note
abbrev pub minute_after : ℕ → List ℕ → List ℕ
minute_after seconds xs = drop (60 + min seconds 60) xs

-- what came in the minute up to a second, as far as 64 bits go
abbrev pub in_minute_after : Option Noted → ℕ → List ℕ → ℕ
in_minute_after None second xs = 0
in_minute_after (Some last) second xs = min (sum_by (λ n. n) (minute_after (second - last.second) xs)) (2 ^ 64 - 1)

abbrev pub in_minute : ℕ → Series → ℕ
in_minute second s = in_minute_after s.noted second s.samples

-- Bytes of requests and of responses.
pub record History : Type 0 where
  pub requests : Series
  pub responses : Series

abbrev pub no_history : History
no_history = record { requests = none_noted; responses = none_noted }

abbrev pub noted_both : ℕ → ℕ → ℕ → History → History
noted_both second request_bytes response_bytes h = record {
  requests = noted_series (record { second = second; total = request_bytes }) h.requests;
  responses = noted_series (record { second = second; total = response_bytes }) h.responses;
}
