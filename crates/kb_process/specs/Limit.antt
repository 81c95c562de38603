-- How many files a process may have open, beside its connections.
use Rattle.std.specs.Prelude.{◌+◌, ◌-◌, ℕ, nat_lt, min, Option, None, Some, if◌then◌else◌}
use Rattle.kb_process.specs.declared.limit.OpenFiles.{OpenFiles}
use Rattle.kb_process.specs.declared.limit.OpenFiles.TheVariants.{Enough, Few, TooFew}

-- too few with less than 32 more than the connections, and enough with 272 more
abbrev pub judged_limit : ℕ → ℕ → OpenFiles
judged_limit limit connections =
    if nat_lt limit (connections + 32) then TooFew (connections + 32)
    else (if nat_lt limit (connections + 272) then Few (connections + 272 - limit) else Enough)

-- as many as it may need, and no more than it may ask for; none where that is less than 32 more than the connections
abbrev pub to_ask_for : ℕ → ℕ → Option ℕ
to_ask_for hard connections = if nat_lt hard (connections + 32) then None else Some (min hard (connections + 272))
