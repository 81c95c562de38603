-- What is written of a text where writing is refused.
use Rattle.std.specs.Prelude.{◌≡◌, ◌++◌, ℕ, List, Option}
use Rattle.std.specs.Io.KnownBytes.{Appends}

-- some front of it
pub record WritesFront (text : List ℕ) (from to : Option (List ℕ)) : Type 0 where
  pub front : List ℕ
  pub rest : List ℕ
  pub split : text ≡ front ++ rest
  pub wrote : Appends from to front
