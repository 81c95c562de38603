-- Frames as a client here reads them: none of more than 2,097,152 bytes.
use Rattle.std.specs.Prelude.{ℕ, List}
use Rattle.kb_api_group.specs.Frames.{Front}
use Rattle.kb_api_group.specs.Frames as frames

-- the greatest size of a reply that a client reads
abbrev pub REPLY_LIMIT : ℕ
REPLY_LIMIT = 2097152

-- what the bytes begin with that a broker sent
abbrev pub front : List ℕ → Front
front bytes = frames.front REPLY_LIMIT bytes
