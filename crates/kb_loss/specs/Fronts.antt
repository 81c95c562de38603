-- Lists that go on.
use Rattle.std.specs.Prelude.{◌≡◌, ◌++◌, List}

-- The second list begins with all of the first.
pub record IsFrontOf {A : Type 0} (front list : List A) : Type 0 where
  pub rest : List A
  pub split : list ≡ front ++ rest
