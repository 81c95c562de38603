-- What the log tells of the replies of a tenant that are not read.
use Rattle.std.specs.Prelude.{ℕ, List, Option, None, Some, slice_get}
use Rattle.kb_node.specs.declared.reader_waits.ReaderWaits.{ReaderWaits}
use Rattle.kb_operator.specs.declared.counts.Unread.{Unread}

-- how a tenant waits for those that read its replies, as it was counted: not at all where it was not
abbrev pub unread_in : Option ReaderWaits → Unread
unread_in None = record { waits = 0; bytes = 0 }
unread_in (Some w) = record { waits = w.times; bytes = w.bytes }

-- ... the tenant at a place
abbrev pub unread_at : ℕ → List ReaderWaits → Unread
unread_at place waits = unread_in (slice_get waits place)
