-- A host, and `HOST:PORT`, as texts.
use Rattle.std.specs.Prelude.{ℕ, List, [], ◌∷◌, length, codes, Bool, false, not, ◌==◌, ◌&&◌, ◌||◌, if◌then◌else◌, nat_lt}
use Rattle.std.specs.Prelude.{Option, None, Some, option_map, option_and_then}
use Rattle.std.specs.List.{list_all, before_first, after_first, position_or_len}
use Rattle.std.specs.Str.{bytes_eq}
use Rattle.std.specs.Str.Parse.{digits_value}
use Rattle.kb_settings.specs.Settings.{is_within, is_host}

-- 1. Parts of a text

-- without this byte in front, where it stands there
abbrev pub behind : ℕ → List ℕ → Option (List ℕ)
behind c [] = None
behind c (b ∷ rest) = if b == c then Some rest else None

-- what stands before and behind the first such byte, where there is one
abbrev pub around : ℕ → List ℕ → Option (List ℕ × List ℕ)
around c text =
    if nat_lt (position_or_len (λ b. b == c) text) (length text)
    then Some (before_first (λ b. b == c) text, after_first (λ b. b == c) text) else None

-- 2. A host

-- every address of the machine
abbrev pub is_wildcard : List ℕ → Bool
is_wildcard host = bytes_eq host (codes "0.0.0.0") || bytes_eq host (codes "::")

-- a host that is listened on: a wildcard only where clients are told another
abbrev pub is_listened : Bool → List ℕ → Bool
is_listened told host = is_host host && (not (is_wildcard host) || told)

abbrev pub bare_of : List ℕ → Option (List ℕ × List ℕ) → List ℕ
bare_of text (Some (host, [])) = host
bare_of text other = text

-- a text without the brackets around all of it
abbrev pub bare : List ℕ → List ℕ
bare text = bare_of text (option_and_then (around 93) (behind 91 text))

-- 3. An address

abbrev pub is_digit : ℕ → Bool
is_digit = is_within 48 57

abbrev pub are_digits : List ℕ → Bool
are_digits text = not (length text == 0) && list_all is_digit text

-- a port: decimal digits alone, 1 to 65,535
abbrev pub port_in : List ℕ → Option ℕ
port_in text = if are_digits text && is_within 1 65535 (digits_value 10 text) then Some (digits_value 10 text) else None

-- behind an opening bracket: a host, the closing one, a colon, and the rest
abbrev pub bracketed : List ℕ → Option (List ℕ × List ℕ)
bracketed text = option_and_then (λ parts. option_map (λ port. (parts.0, port)) (behind 58 parts.1)) (around 93 text)

abbrev pub parts_with : List ℕ → Option (List ℕ) → Option (List ℕ × List ℕ)
parts_with text (Some inside) = bracketed inside
parts_with text None = around 58 text

-- a host and what stands behind its colon; a host with colons of its own stands in brackets
abbrev pub parts : List ℕ → Option (List ℕ × List ℕ)
parts text = parts_with text (behind 91 text)

abbrev pub endpoint_of : List ℕ → Option ℕ → Option (List ℕ × ℕ)
endpoint_of host (Some port) = if is_listened false host then Some (host, port) else None
endpoint_of host None = None

-- `HOST:PORT`, where clients can be told the host
abbrev pub endpoint_in : List ℕ → Option (List ℕ × ℕ)
endpoint_in text = option_and_then (λ parts. endpoint_of parts.0 (port_in parts.1)) (parts text)
