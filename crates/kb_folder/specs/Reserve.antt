-- Whose file may take the room that is kept for a full disk.
use Rattle.std.specs.Prelude.{◌||◌, ℕ, Bool, List, [], ◌∷◌, take, bytes_eq}

-- KBSG, a version and the kind 1, each of two bytes
abbrev pub catalog_front : ℕ → List ℕ
catalog_front version = 75 ∷ 66 ∷ 83 ∷ 71 ∷ 0 ∷ version ∷ 0 ∷ 1 ∷ []

-- a file that begins with these bytes is a catalog's
abbrev pub is_catalogs : List ℕ → Bool
is_catalogs front = bytes_eq (take 8 front) (catalog_front 1) || bytes_eq (take 8 front) (catalog_front 2)
