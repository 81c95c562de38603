-- Where metrics are served, and to whom.
use Rattle.std.specs.Prelude.{ℕ, List, length, codes, Bool, false, ◌==◌, ◌&&◌, ◌||◌, Option, None, Some}
use Rattle.std.specs.List.{list_all}
use Rattle.std.specs.Str.{bytes_eq}
use Rattle.kb_settings.specs.Settings.{is_within}
use Rattle.kb_settings.specs.Address.{around, is_digit}

-- a digit or a dot
abbrev pub is_dotted : ℕ → Bool
is_dotted c = is_digit c || c == 46

-- of what stands before the first dot of a host and behind it: 127, and then digits and dots
abbrev pub is_in_127 : Option (List ℕ × List ℕ) → Bool
is_in_127 None = false
is_in_127 (Some parts) = bytes_eq parts.0 (codes "127") && list_all is_dotted parts.1

-- this machine alone: `localhost`, `::1`, or `127.` and then digits and dots
abbrev pub is_loopback : List ℕ → Bool
is_loopback host = bytes_eq host (codes "localhost") || bytes_eq host (codes "::1") || is_in_127 (around 46 host)

-- from `!` to `~`
abbrev pub is_printable : ℕ → Bool
is_printable c = is_within 33 126 c

-- 16 to 255 of these
abbrev pub is_token : List ℕ → Bool
is_token text = is_within 16 255 (length text) && list_all is_printable text

-- this machine alone is served, or who has the token
abbrev pub is_guarded : List ℕ → Bool → Bool
is_guarded host has_token = is_loopback host || has_token
