use Rattle.std.proofs.Common.{◌≡◌, ◌∙◌, ◌++◌, ◌==◌, ◌∷◌, ℕ, List, [], Bool, false, ap, append_assoc, codes, length, refl, subst, sym}
use Rattle.std.specs.Prelude.{IfOk, string_bytes}
use Rattle.std.specs.Net.Text.{socket_text}
use Rattle.std.specs.declared.net.SocketAddr.{SocketAddr}
use Rattle.kb_operator.specs.Logins.{failed_line, shown}
use Rattle.kb_operator.proofs.journal.logins.failed_text.Goals as goal

-- the words of the line, one behind the other
words : (address name : List ℕ)
    → codes "login failed from " ++ (address ++ (codes " as " ++ name)) ≡ codes "login failed from " ++ address ++ codes " as " ++ name
words address name = sym (simp append_assoc)

-- a name that is not empty
named : (address : SocketAddr) (name : List ℕ) → (length name == 0) ≡ false
    → codes "login failed from " ++ socket_text address ++ codes " as " ++ shown name ≡ failed_line address name
named address [] e = absurd cc
named address (b ∷ name) e = refl

pub returns : goal.returns
returns c =
    let address = socket_text c.args.address in
    let line = words address (string_bytes c.in_ok-name.name)
    ∙ ap (λ n. codes "login failed from " ++ address ++ codes " as " ++ n) c.in_ok-name.ensures
    ∙ named c.args.address c.args.name.now (sym c.is_empty.ensures ∙ c.if-is_empty.false) in
    subst (λ text. IfOk c.format-2.result (λ it. string_bytes it ≡ text)) line c.format-2.ensures.ok
