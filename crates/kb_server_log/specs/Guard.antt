-- How a guarded clock goes on from one reading to the next. Its times are in halves of a microsecond since the beginning of 1970, so
-- that half of its pace is reckoned without a remainder.
use Rattle.std.specs.Prelude.{ℕ, ◌+◌, ◌-◌, ◌*◌, ◌/◌, ◌^◌, min, max, Bool, ◌&&◌, nat_lt, if◌then◌else◌, Option, Some, None, unwrap_or}
use Rattle.kb_server_log.specs.declared.guard.GuardedClock.{GuardedClock}
use Rattle.kb_server_log.specs.declared.guard.Notice.{Notice}
use Rattle.kb_server_log.specs.declared.guard.Notice.TheVariants.{Ahead, Taken, Back}
use Rattle.kb_server_log.specs.declared.guard.Reading.{Reading}

-- nanoseconds in whole microseconds, at most as many as 64 bits hold
abbrev pub micros_of : ℕ → ℕ
micros_of nanos = min (nanos / 1000) (2 ^ 64 - 1)

-- The reading where the wall clock and the steady one show so many nanoseconds. One that cannot be read counts as 0.
abbrev pub reading_of : Option ℕ → Option ℕ → Reading
reading_of wall steady =
    record { wall = micros_of (unwrap_or wall 0); steady = micros_of (unwrap_or steady 0) }

-- a second, in microseconds of the steady clock
abbrev pub a_second : ℕ
a_second = 1000000

-- half a minute, in halves of a microsecond
abbrev pub half_a_minute : ℕ
half_a_minute = 60000000

-- a minute, in halves of a microsecond
abbrev pub a_minute : ℕ
a_minute = 120000000

-- ten minutes, in microseconds of the steady clock
abbrev pub ten_minutes : ℕ
ten_minutes = 600000000

-- a time, or the last one that can be kept where it is later
abbrev pub capped_time : ℕ → ℕ
capped_time time = min time (2 ^ 64 - 1)

-- the time that the wall clock shows
abbrev pub wall_time : Reading → ℕ
wall_time reading = capped_time (reading.wall * 2)

-- the steady clock, which never goes back, and how many microseconds it went on
abbrev pub steady_after : GuardedClock → Reading → ℕ
steady_after clock reading = max clock.steady reading.steady

abbrev pub elapsed : GuardedClock → Reading → ℕ
elapsed clock reading = reading.steady - clock.steady

-- the time that is expected: as much later as the steady clock went on
abbrev pub expected : GuardedClock → Reading → ℕ
expected clock reading = capped_time (clock.time + elapsed clock reading * 2)

-- the time at half of that pace
abbrev pub at_half_pace : GuardedClock → Reading → ℕ
at_half_pace clock reading = capped_time (clock.time + elapsed clock reading)

-- the time at twice that pace, for which a second counts at most
abbrev pub at_twice_the_pace : GuardedClock → Reading → ℕ
at_twice_the_pace clock reading = capped_time (clock.time + min (elapsed clock reading) a_second * 4)

-- the wall clock is more than a minute ahead of the time that is expected
abbrev pub is_ahead : GuardedClock → Reading → Bool
is_ahead clock reading = nat_lt a_minute (wall_time reading - expected clock reading)

-- since when the wall clock is ahead without a break, if it is so now
abbrev pub since : GuardedClock → Reading → ℕ
since clock reading = unwrap_or clock.ahead_since (steady_after clock reading)

-- it is not so for ten minutes
abbrev pub is_new : GuardedClock → Reading → Bool
is_new clock reading = nat_lt (steady_after clock reading - since clock reading) ten_minutes

-- the wall clock is not followed
abbrev pub is_held : GuardedClock → Reading → Bool
is_held clock reading = is_ahead clock reading && is_new clock reading

-- The time to go on to is the expected one where the wall clock is not followed. Else it is the wall clock's, but later than the last one
-- by half the pace at least.
abbrev pub aim : GuardedClock → Reading → ℕ
aim clock reading =
    if is_held clock reading then expected clock reading else max (wall_time reading) (at_half_pace clock reading)

-- The time goes there at twice the pace at most, but stays no more than half a minute behind.
abbrev pub time_after : GuardedClock → Reading → ℕ
time_after clock reading =
    min (aim clock reading) (max (at_twice_the_pace clock reading) (aim clock reading - half_a_minute))

-- What is told: that the wall clock is ahead, once; and how that ends.
abbrev pub notice : Option ℕ → Bool → Bool → Option Notice
notice None ahead held = if held then Some Ahead else None
notice (Some s) ahead held = if held then None else (if ahead then Some Taken else Some Back)

-- the clock, started where the wall clock is
abbrev pub started_clock : Reading → GuardedClock
started_clock reading = record { time = wall_time reading; steady = reading.steady; ahead_since = None }

-- the clock after a reading, and what is told of it
abbrev pub clock_after : GuardedClock → Reading → GuardedClock
clock_after clock reading =
    record {
      time = time_after clock reading;
      steady = steady_after clock reading;
      ahead_since = (if is_held clock reading then Some (since clock reading) else None);
    }

abbrev pub told : GuardedClock → Reading → Option Notice
told clock reading = notice clock.ahead_since (is_ahead clock reading) (is_held clock reading)
