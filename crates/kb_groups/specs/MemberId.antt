-- How members are called.
use Rattle.std.specs.Prelude.{ℕ, List, ◌++◌, codes, decimal}

-- The id of member n: `m-` and its number in decimal.
abbrev pub member_id : ℕ → List ℕ
member_id n = codes "m-" ++ decimal n
