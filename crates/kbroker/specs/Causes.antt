-- Why a broker is not ready.
use Rattle.std.specs.Prelude.{ℕ, ◌++◌, List, [], codes, decimal, nat_le, nat_lt, if◌then◌else◌}

-- the store refused so many calls in the last minute
abbrev pub refused_text : ℕ → List ℕ
refused_text n = if nat_lt 0 n then codes "store refused " ++ decimal n ++ codes " calls in the last minute\n" else []

-- so many sockets are open, and no more may be
abbrev pub sockets_text : ℕ → ℕ → List ℕ
sockets_text sockets limit = if nat_le limit sockets then codes "sockets " ++ decimal sockets ++ codes " of " ++ decimal limit ++ codes "\n" else []

-- a line for each cause
abbrev pub causes_text : ℕ → ℕ → ℕ → List ℕ
causes_text refused sockets limit = refused_text refused ++ sockets_text sockets limit
