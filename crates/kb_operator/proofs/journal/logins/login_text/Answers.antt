use Rattle.std.proofs.Common.{◌≡◌, ◌∙◌, ◌++◌, ℕ, List, ap, append_assoc, codes, subst, sym}
use Rattle.std.specs.Prelude.{IfOk, string_bytes}
use Rattle.std.specs.Net.Text.{socket_text}
use Rattle.kb_operator.specs.Logins.{shown}
use Rattle.kb_operator.proofs.journal.logins.login_text.Goals as goal

-- the words of the line, one behind the other
words : (name address tenant : List ℕ)
    → codes "login of " ++ (name ++ (codes " from " ++ (address ++ (codes ", tenant " ++ tenant))))
    ≡ codes "login of " ++ name ++ codes " from " ++ address ++ codes ", tenant " ++ tenant
words name address tenant = sym (simp append_assoc)

pub returns : goal.returns
returns c =
    let address = socket_text c.args.address in
    let tenant = c.as_str-tenant.result.now in
    let line = words (string_bytes c.in_ok-name.name) address tenant
    ∙ ap (λ n. codes "login of " ++ n ++ codes " from " ++ address ++ codes ", tenant " ++ tenant) (c.in_ok-name.ensures ∙ ap shown c.as_bytes.ensures.value)
    ∙ ap (λ t. codes "login of " ++ shown (string_bytes c.args.user.now.name) ++ codes " from " ++ address ++ codes ", tenant " ++ t) c.as_str-tenant.ensures.value in
    subst (λ text. IfOk c.format.result (λ it. string_bytes it ≡ text)) line c.format.ensures.ok
