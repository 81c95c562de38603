-- What a command line says, by the words.
use Rattle.std.specs.Prelude.{◌≡◌, ◌≤◌, ◌<◌, ◌+◌, ◌^◌, ◌++◌, ℕ, ℤ, pos, Bool, true, false, List, length, string_bytes, codes, decimal, Some, None}
use Rattle.std.specs.Prelude.{Ok}
use Rattle.std.specs.Str.Parse.{ParsesUnsigned}
use Rattle.clap.specs.Words.{Row, Text, first_of, one_of, subcommand_of}
use Rattle.kb_client.specs.Sent.{Target}
use Rattle.kconsole.specs.Usage.{console}
use Rattle.kconsole.specs.declared.console.ConsoleLine.{ConsoleLine}
use Rattle.kconsole.specs.declared.console.Task.{Task}
use Rattle.kconsole.specs.declared.console.Task.TheVariants as tasks
use Rattle.kconsole.specs.declared.link.Link.{Link}
use Rattle.kconsole.specs.declared.place.Place.{Place}

-- the text that was found for a name
abbrev pub IsTextOf : List Row → Text → Text → Type 0
IsTextOf rows name text = first_of name rows ≡ Some text

-- the number whose decimal digits were found for a name
abbrev pub IsNumberOf : List Row → Text → ℕ → Type 0
IsNumberOf rows name n = (text : Text) × IsTextOf rows name text × ParsesUnsigned {E = ℕ} 64 10 text (Ok n)

-- the same as a signed number, below a power of two
abbrev pub IsIntOf : ℕ → List Row → Text → ℤ → Type 0
IsIntOf bits rows name z = (n : ℕ) × (z ≡ pos n) × IsNumberOf rows name n × (n < 2 ^ bits)

-- the host, and the port whose decimal digits stand behind the colon, that were found for the broker
abbrev pub IsAddressOf : List Row → Text → ℕ → Type 0
IsAddressOf rows host port = (digits : Text) × IsTextOf rows (codes "broker") (host ++ codes ":" ++ digits)
    × ParsesUnsigned {E = ℕ} 16 10 digits (Ok port)

-- whether a flag was found
abbrev pub IsFlagOf : List Row → Text → Bool → Type 0
IsFlagOf rows name is_on = (one_of name rows ≡ Some (codes "true") → is_on ≡ true)
    × (one_of name rows ≡ Some (codes "false") → is_on ≡ false) × (one_of name rows ≡ None → is_on ≡ false)

-- what a subcommand asks for, by what was found for its names
abbrev pub IsTaskOf : Text → List Row → Task → Type 0
IsTaskOf name rows (tasks.Produce None) = (name ≡ codes "produce") × (first_of (codes "create") rows ≡ None)
IsTaskOf name rows (tasks.Produce (Some create)) = (name ≡ codes "produce") × IsIntOf 31 rows (codes "create") create
IsTaskOf name rows (tasks.Consume from None follow) = (name ≡ codes "consume") × IsIntOf 63 rows (codes "from") from
    × IsFlagOf rows (codes "follow") follow × (first_of (codes "max") rows ≡ None)
IsTaskOf name rows (tasks.Consume from (Some max) follow) = (name ≡ codes "consume") × IsIntOf 63 rows (codes "from") from
    × IsFlagOf rows (codes "follow") follow × IsNumberOf rows (codes "max") max × (max < 2 ^ 63)

-- each number and text is within its limits
pub record IsWithin (line : ConsoleLine) : Type 0 where
  pub host : 1 ≤ length (string_bytes line.host)
  pub short : length (string_bytes line.host) ≤ 255
  pub port : 1 ≤ line.port
  pub user : length (string_bytes line.login.user) ≤ 255
  pub password : length (string_bytes line.login.password) ≤ 255
  pub topic : length (string_bytes line.topic) ≤ 255
  pub retries : line.retries < 2 ^ 31

-- a line says what was found for the names of a subcommand
pub record IsLineOf (name : Text) (rows : List Row) (line : ConsoleLine) : Type 0 where
  pub within : IsWithin line
  pub broker : IsAddressOf rows (string_bytes line.host) line.port
  pub user : IsTextOf rows (codes "user") (string_bytes line.login.user)
  pub password : IsTextOf rows (codes "password") (string_bytes line.login.password)
  pub topic : IsTextOf rows (codes "topic") (string_bytes line.topic)
  pub partition : IsIntOf 31 rows (codes "partition") line.partition
  pub retries : IsNumberOf rows (codes "retries") line.retries
  pub task : IsTaskOf name rows line.task

-- a line says what the words say: the subcommand that they name, and what they have for each of its names
abbrev pub IsReadOf : List Text → ConsoleLine → Type 0
IsReadOf words line =
    (name : Text) × (rows : List Row) × (subcommand_of console words ≡ Some (name, rows)) × IsLineOf name rows line

-- ---- what a line says of a client

-- whom it logs in as, and the partition
abbrev pub target_of : ConsoleLine → Target
target_of line = record {
  user = string_bytes line.login.user;
  password = string_bytes line.login.password;
  topic = string_bytes line.topic;
  partition = line.partition;
}

-- the broker's address, as a connection is asked for
abbrev pub address_text : ConsoleLine → Text
address_text line = string_bytes line.host ++ codes ":" ++ decimal line.port

abbrev pub address_of : Link → Text
address_of link = string_bytes link.address

-- a place has what a line says
pub record IsPlaceOf (line : ConsoleLine) (place : Place) : Type 0 where
  pub address : address_of place.link ≡ address_text line
  pub tries : place.link.tries ≡ line.retries + 1
  pub login : place.login ≡ line.login
  pub topic : place.topic ≡ line.topic
  pub partition : place.partition ≡ line.partition
