-- The limits of the settings.
use Rattle.std.specs.Prelude.{ℕ, List, [], ◌∷◌, length, Bool, true, not, ◌==◌, ◌&&◌, ◌||◌, nat_lt, if◌then◌else◌}
use Rattle.std.specs.Prelude.{Option, None, Some}
use Rattle.std.specs.List.{list_all, list_any}
use Rattle.std.specs.Str.{bytes_eq}

-- both included
abbrev pub is_within : ℕ → ℕ → ℕ → Bool
is_within low high n = not (nat_lt n low) && not (nat_lt high n)

-- 1 to 255 bytes
abbrev pub is_host : List ℕ → Bool
is_host text = is_within 1 255 (length text)

abbrev pub is_not_nul : ℕ → Bool
is_not_nul byte = not (byte == 0)

-- a user's name or password: 1 to 255 bytes, none of them NUL
abbrev pub is_credential : List ℕ → Bool
is_credential text = is_within 1 255 (length text) && list_all is_not_nul text

-- one of a-z A-Z 0-9 . _ -
abbrev pub is_name_char : ℕ → Bool
is_name_char c = is_within 97 122 c || is_within 65 90 c || is_within 48 57 c || c == 46 || c == 95 || c == 45

-- a tenant's name: 1 to 64 of these
abbrev pub is_tenant : List ℕ → Bool
is_tenant text = is_within 1 64 (length text) && list_all is_name_char text

-- a limit that holds where it is said, and so much where it is not and stock clients are served
abbrev pub limit_for : ℕ → Bool → Option ℕ → Option ℕ
limit_for standard stock_clients (Some limit) = Some limit
limit_for standard stock_clients None = if stock_clients then Some standard else None

-- no text stands twice
abbrev pub are_different : List (List ℕ) → Bool
are_different [] = true
are_different (text ∷ texts) = not (list_any (bytes_eq text) texts) && are_different texts
