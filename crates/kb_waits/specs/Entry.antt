-- The wait that an entry is.
use Rattle.kb_waits.specs.Queue.{Wait}
use Rattle.kb_waits.specs.declared.entry.Entry.{Entry}

-- The wait that an entry is.
abbrev pub wait_of : Entry → Wait
wait_of e = record { deadline = e.deadline; keys = e.keys.items }
