-- What is told of logins is a function of addresses and of what is known of users: of no password.
use Rattle.std.specs.Prelude.{◌≡◌, ℕ, List, map}
use Rattle.std.specs.declared.net.SocketAddr.{SocketAddr}
use Rattle.kb_settings.specs.declared.settings.Settings.{Settings}
use Rattle.kb_operator.specs.declared.bucket.Bucket.{Bucket}
use Rattle.kb_operator.specs.declared.journal.Account.{Account}
use Rattle.kb_operator.specs.Known.{known_account, known_user, known_users}
use Rattle.kb_operator.specs.Logins.{known_at, login_lines}

-- settings whose users have the same names and tenants, whatever passwords they have, and that tell of logins or not, both
pub record AlikeButPasswords (s t : Settings) : Type 0 where
  pub users : map known_user s.users.items ≡ map known_user t.users.items
  pub logins : s.logins ≡ t.logins

-- Two journals of such settings tell a login in the same lines.
abbrev pub TellsNoPassword : Type 0
TellsNoPassword = (s t : Settings) (users others : List Account) → AlikeButPasswords s t
    → map known_account users ≡ known_users s → map known_account others ≡ known_users t
    → (address : SocketAddr) (place second : ℕ) (told : Bucket)
    → login_lines address (known_at users place) second told ≡ login_lines address (known_at others place) second told
