-- How a tenant waits for those that read its replies.
use Rattle.std.specs.Prelude.{ℕ, ◌+◌, ◌-◌, ◌^◌, min}
use Rattle.kb_node.specs.declared.reader_waits.ReaderWaits.{ReaderWaits}

-- it waited once more, for so many bytes to be read
abbrev pub waited : ℕ → ReaderWaits → ReaderWaits
waited bytes w = record { times = min (w.times + 1) (2 ^ 64 - 1); bytes = bytes }
