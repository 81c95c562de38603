-- A stream of frames (Kafka protocol guide): each an INT32 size and that many bytes. A reader has a limit: the greatest size that it
-- reads.
use Rattle.std.specs.Prelude.{ℕ, ℤ, pos, negsuc, nat_lt, if◌then◌else◌, List, length, take, drop, Result, Ok, Err}
use Rattle.kb_wire.specs.Codec.{int32}
use Rattle.kb_wire.specs.declared.fault.WireFault.{WireFault}

-- ---- what stands in front of bytes

pub data Front : Type 0 where
  -- a whole frame, and the bytes behind it
  Whole : (frame rest : List ℕ) → Front
  -- less than a whole frame, and no bad size
  Partial : Front
  -- a size below 8
  TooSmall : Front
  -- a size above the limit
  TooLarge : Front

-- a size, and the bytes behind it, where no size above the limit is read
abbrev pub front_by : ℕ → ℤ → List ℕ → Front
front_by limit (negsuc n) rest = TooSmall
front_by limit (pos n) rest = if nat_lt n 8 then TooSmall else if nat_lt limit n then TooLarge else if nat_lt (length rest) n then Partial
    else Whole (take n rest) (drop n rest)

abbrev pub front_read : ℕ → Result (ℤ × List ℕ) WireFault → Front
front_read limit (Err fault) = Partial
front_read limit (Ok read) = front_by limit read.0 read.1

-- What bytes begin with.
unfoldable pub front : ℕ → List ℕ → Front
front limit bytes = front_read limit (int32.read bytes)
