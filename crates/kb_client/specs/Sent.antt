-- Whom a client logs in as, and what it sends.
use Rattle.std.specs.Prelude.{◌≤◌, ℕ, ℤ, List, length}

-- a line that is to be sent, and the moment at which it was handed in
pub record Line : Type 0 where
  pub value : List ℕ
  pub timestamp : ℤ

-- a user with its password, and the partition that is spoken of
pub record Target : Type 0 where
  pub user : List ℕ
  pub password : List ℕ
  pub topic : List ℕ
  pub partition : ℤ

-- each text has at most 255 bytes
pub record HasShortTexts (t : Target) : Type 0 where
  pub user : length t.user ≤ 255
  pub password : length t.password ≤ 255
  pub topic : length t.topic ≤ 255
