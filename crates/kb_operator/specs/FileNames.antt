-- How the files of a data folder are named to a person.
use Rattle.std.specs.Prelude.{◌+◌, ◌++◌, ◌/◌, ◌%◌, ℕ, zero, suc, List, [], ◌∷◌, codes}

-- the last so many decimal digits of a number, with zeros in front
abbrev pub last_digits : ℕ → ℕ → List ℕ
last_digits zero n = []
last_digits (suc k) n = last_digits k (n / 10) ++ (48 + n % 10) ∷ []

-- the name of a file with a number: 20 digits and '.seg'
unfoldable pub name_of : ℕ → List ℕ
name_of file = last_digits 20 file ++ codes ".seg"

-- the path of a file in the folder at a path
abbrev pub path_of : List ℕ → ℕ → List ℕ
path_of folder file = folder ++ (codes "/" ++ name_of file)
