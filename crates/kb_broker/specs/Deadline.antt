-- When the broker has something to do next.
use Rattle.std.specs.Prelude.{◌≡◌, ◌<◌, ◌+◌, ℕ, ℤ, pos, negsuc, min, max, Option, Some, None}
use Rattle.kb_waits.specs.Queue.{Queue, IsFirstDeadline}
use Rattle.kb_tenant_api.specs.Hosted.{passed}
use Rattle.kb_isolation_spec.specs.Machine.{Moment}
use Rattle.kb_isolation_spec.specs.Broker.{BrokerState, AreUnready, AnyWait, IsStep, kept_of_tenant}
use Rattle.kb_isolation_spec.specs.Calls.{moved}

-- 1. Which moment it is

-- the moment after a clock; 0 after a clock before 1970
abbrev pub moment_after : ℤ → ℕ
moment_after (pos clock) = clock + 1
moment_after (negsuc n) = 0

-- the lesser of a deadline, if there is one, and the moment after a clock
abbrev pub next_deadline : Option ℕ → ℤ → ℕ
next_deadline None quiet_until = moment_after quiet_until
next_deadline (Some deadline) quiet_until = min deadline (moment_after quiet_until)

-- The moment is the first deadline in the queue or the moment after that clock, up to which nothing is due, whichever is earlier.
pub record IsNextDeadline (queue : Queue) (quiet_until : ℤ) (moment : ℕ) : Type 0 where
  pub first : Option ℕ
  pub first_is : IsFirstDeadline queue first
  pub is : moment ≡ next_deadline first quiet_until

-- 2. What it is good for

-- A moment at that time changes nothing but the clock: it leaves each tenant what it keeps, nothing that waits is ready then, and to the
-- machine of each tenant it is that alone. One before the clock acts as one at the clock.
pub record IsQuietAt (now : ℕ) (b : BrokerState) : Type 0 where
  pub kept : (t : ℕ) → passed (max b.clock now) (kept_of_tenant b t) ≡ kept_of_tenant b t
  pub unready : AreUnready AnyWait (moved b now)
  pub step : IsStep (Moment now) b (moved b now)

-- so does each before that one
abbrev pub IsQuietBefore : ℕ → BrokerState → Type 0
IsQuietBefore moment b = (now : ℕ) → max b.clock now < moment → IsQuietAt now b
