-- What a broker lists.
use Rattle.std.specs.Prelude.{ℕ, ℤ, List}

-- a topic: its name, how many partitions it has, and its error code, 0 for none
pub record Topic : Type 0 where
  pub name : List ℕ
  pub partitions : ℕ
  pub error_code : ℤ
