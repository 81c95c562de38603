-- How long ago a last change was.
use Rattle.std.specs.Prelude.{ℕ, ◌-◌, nat_lt, if◌then◌else◌}
use Rattle.kb_server_log.specs.declared.change.Change.{Change}
use Rattle.kb_server_log.specs.declared.change.Change.TheVariants.{Ahead, Recent, Old}

-- a change that is ahead of the clock, one of the last day, or an older one: both in milliseconds
abbrev pub change_at : ℕ → ℕ → Change
change_at now changed = if nat_lt now changed then Ahead else (if nat_lt 86400000 (now - changed) then Old else Recent)
