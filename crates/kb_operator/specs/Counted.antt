-- What is told of connections that were closed at once.
use Rattle.std.specs.Prelude.{◌++◌, ℕ, zero, suc, List, [], ◌∷◌, codes, decimal}

-- so many, while no more may be open
abbrev pub turned_away_line : ℕ → ℕ → List ℕ
turned_away_line count most = codes "connections closed at once: " ++ decimal count ++ codes ", since " ++ decimal most ++ codes " are open"

-- the line, if any were
abbrev pub turned_away_lines : ℕ → ℕ → List (List ℕ)
turned_away_lines zero most = []
turned_away_lines (suc n) most = turned_away_line (suc n) most ∷ []
