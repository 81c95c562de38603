-- Which names a topic may have.
use Rattle.std.specs.Prelude.{ℕ, Bool, List, [], ◌∷◌, length, nat_le, ◌==◌, ◌&&◌, ◌||◌, not}
use Rattle.std.specs.List.{list_all}
use Rattle.std.specs.Char.{is_ascii_alphanumeric}
use Rattle.std.specs.Str.{bytes_eq}

-- a letter, a digit, a dot, an underscore or a hyphen
abbrev pub is_name_byte : ℕ → Bool
is_name_byte b = is_ascii_alphanumeric b || b == 46 || b == 95 || b == 45

-- 1 to 249 of them, but neither one dot alone nor two
abbrev pub is_legal : List ℕ → Bool
is_legal name = nat_le 1 (length name) && nat_le (length name) 249 && not (bytes_eq name (46 ∷ [])) && not (bytes_eq name (46 ∷ 46 ∷ []))
    && list_all is_name_byte name
