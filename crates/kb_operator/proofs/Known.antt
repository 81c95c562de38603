-- What is known of users, and told of names.
use Rattle.std.proofs.Common.{◌≡◌, ◌∙◌, ℕ, List, [], ◌∷◌, Bool, true, false, map, refl, sym, ap, if◌then◌else◌}
use Rattle.std.specs.Prelude.{slice_get}
use Rattle.std.specs.Char.{is_ascii_graphic}
use Rattle.std.specs.List.{AllByRecursion}
use Rattle.std.specs.declared.net.SocketAddr.{SocketAddr}
use Rattle.std.proofs.lemmas.Option.{slice_get-map}
use Rattle.kb_settings.specs.declared.settings.Settings.{Settings}
use Rattle.kb_operator.specs.declared.bucket.Bucket.{Bucket}
use Rattle.kb_operator.specs.declared.journal.Account.{Account}
use Rattle.kb_operator.specs.Known.{KnownUser, known_account, known_user, known_users}
use Rattle.kb_operator.specs.KnownLaws.{AlikeButPasswords, TellsNoPassword}
use Rattle.kb_operator.specs.Logins.{known_at, login_lines, shown}

alike_known : (s t : Settings) → AlikeButPasswords s t → known_users s ≡ known_users t
alike_known s t a =
    ap (λ (us : List KnownUser). if s.logins then us else []) a.users ∙ ap (λ (b : Bool). if b then map known_user t.users.items else []) a.logins

same_at : (users others : List Account) (place : ℕ) → map known_account users ≡ map known_account others → known_at users place ≡ known_at others place
same_at users others place e =
    sym (slice_get-map known_account users place) ∙ ap (λ us. slice_get us place) e ∙ slice_get-map known_account others place

pub no_password : TellsNoPassword
no_password s t users others a u o address place second told =
    ap (λ k. login_lines address k second told) (same_at users others place (u ∙ alike_known s t a ∙ sym o))

printable : (b : ℕ) (is : Bool) → is_ascii_graphic b ≡ is → is_ascii_graphic (if is then b else 63) ≡ true
printable b true e = e
printable b false e = refl

pub names_are_printable : (name : List ℕ) → AllByRecursion (λ b. is_ascii_graphic b ≡ true) (shown name)
names_are_printable [] = tt
names_are_printable (b ∷ name) = (printable b (is_ascii_graphic b) refl, names_are_printable name)
