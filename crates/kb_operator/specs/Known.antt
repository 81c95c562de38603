-- Which users a journal knows whose logins it tells: their names and their tenants, and nothing else of them.
use Rattle.std.specs.Prelude.{ℕ, List, [], map, string_bytes, if◌then◌else◌}
use Rattle.kb_settings.specs.declared.settings.Settings.{Settings}
use Rattle.kb_settings.specs.declared.settings.User.{User}
use Rattle.kb_operator.specs.declared.journal.Account.{Account}

-- a user as he is known
pub record KnownUser : Type 0 where
  pub name : List ℕ
  pub tenant : List ℕ

abbrev pub known_account : Account → KnownUser
known_account a = record { name = string_bytes a.name; tenant = string_bytes a.tenant }

-- a user of settings, without his password
abbrev pub known_user : User → KnownUser
known_user u = record { name = string_bytes u.name; tenant = string_bytes u.tenant }

-- those of settings in their order; none where logins are not told
abbrev pub known_users : Settings → List KnownUser
known_users s = if s.logins then map known_user s.users.items else []
