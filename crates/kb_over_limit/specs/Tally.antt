-- Entries of a reply, counted one after the other (Kafka protocol guide, "Error codes").
use Rattle.std.specs.Prelude.{◌+◌, ◌-◌, ◌^◌, ◌==◌, ℕ, ℤ, pos, min, if◌then◌else◌}
use Rattle.std.specs.Ordering.{int_eq}
use Rattle.kb_wire.specs.ErrorCode.{code_of}
use Rattle.kb_wire.specs.declared.error_code.ErrorCode.TheVariants as codes
use Rattle.kb_over_limit.specs.declared.tally.Tally.{Tally}

-- as far as 64 bits go
abbrev pub counted : ℕ → ℕ
counted n = min n (2 ^ 64 - 1)

-- none yet, where there is so much room
abbrev pub fresh : ℕ → Tally
fresh room = record { room = room; full = 0; beside = 0 }

-- One more entry with that code: 44 (POLICY_VIOLATION) is past a limit, and one without an error takes of the room.
abbrev pub noted : ℤ → Tally → Tally
noted code t =
    if int_eq code (code_of codes.PolicyViolation)
    then (if t.room == 0 then record t { full = counted (t.full + 1) } else record t { beside = counted (t.beside + 1) })
    else if int_eq code (pos 0) then record t { room = t.room - 1 }
    else t
