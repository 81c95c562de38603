-- How many bytes protocols take, and how bytes are counted.
use Rattle.std.specs.Prelude.{◌+◌, ℕ, List, [], ◌∷◌, length, min}
use Rattle.kb_groups.specs.declared.protocol.Protocol.{Protocol}

-- The names and metadata of protocols.
unfoldable pub protocol_bytes : List Protocol → ℕ
protocol_bytes [] = 0
protocol_bytes (p ∷ ps) = length p.name + length p.metadata + protocol_bytes ps

-- A number of bytes in 64 bits, whose greatest stands for all above.
abbrev pub counted : ℕ → ℕ
counted n = min n 18446744073709551615
