-- Lines that the program writes on standard output.
use Rattle.std.specs.Prelude.{ℕ, List, [], ◌++◌, Option, None, Some, codes}

-- the line of a text, where there is one
abbrev pub line_if : Option (List ℕ) → List ℕ
line_if None = []
line_if (Some text) = text ++ codes "\n"

-- where a broker listens, its version, and its data folder
abbrev pub listening_line : List ℕ → List ℕ → List ℕ → List ℕ
listening_line addresses version folder =
    codes "listening on " ++ addresses ++ codes ": kbroker " ++ version ++ codes ", data in " ++ folder ++ codes "\n"
