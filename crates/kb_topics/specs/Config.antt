-- The settings that a topic may be given.
use Rattle.std.specs.Prelude.{ℕ, ℤ, pos, negsuc, Bool, List, length, Option, Some, None, nat_le, nat_lt, ◌&&◌, ◌^◌, if◌then◌else◌, codes}
use Rattle.std.specs.Str.{bytes_eq}
use Rattle.std.specs.List.{list_all}
use Rattle.std.specs.Char.{is_ascii_digit}
use Rattle.std.specs.Str.Parse.{digits_value}

-- 1 to 19 decimal digits
abbrev pub is_numeral : List ℕ → Bool
is_numeral text = nat_le 1 (length text) && nat_le (length text) 19 && list_all is_ascii_digit text

-- the number that decimal digits are, if it is an INT64
abbrev pub number_in : List ℕ → Option ℤ
number_in text = if nat_lt (digits_value 10 text) (2 ^ 63) then Some (pos (digits_value 10 text)) else None

-- -1, which stands for no limit, or such a number
abbrev pub limit_in : List ℕ → Option ℤ
limit_in text = if bytes_eq text (codes "-1") then Some (negsuc 0) else (if is_numeral text then number_in text else None)
