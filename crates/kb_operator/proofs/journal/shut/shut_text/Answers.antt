use Rattle.std.proofs.Common.{◌≡◌, ◌∙◌, ◌++◌, ℕ, List, Bor, ap, append_assoc, codes, subst, sym}
use Rattle.std.specs.Prelude.{IfOk, option_map, string_bytes}
use Rattle.std.specs.Net.Text.{socket_text}
use Rattle.kb_operator.specs.Logged.{bytes_or_none}
use Rattle.kb_operator.specs.Logins.{shut_line}
use Rattle.kb_operator.proofs.journal.shut.shut_text.Goals as goal

-- the words of the line of a tenant, one behind the other
words : (address name cause : List ℕ)
    → codes "closed " ++ (address ++ (codes " of tenant " ++ (name ++ (codes ": " ++ cause))))
    ≡ codes "closed " ++ address ++ codes " of tenant " ++ name ++ codes ": " ++ cause
words address name cause = sym (simp append_assoc)

-- the same of a stranger
few_words : (address cause : List ℕ) → codes "closed " ++ (address ++ (codes ": " ++ cause)) ≡ codes "closed " ++ address ++ codes ": " ++ cause
few_words address cause = sym (simp append_assoc)

pub returns-in-Some : goal.returns-in-Some
returns-in-Some c =
    let address = socket_text c.args.address in
    let line = words address c.in-Some.name.now (string_bytes c.in_ok-cause.cause)
    ∙ ap (λ t. shut_line c.args.address (option_map (λ (name : Bor (List ℕ)). name.now) t) (string_bytes c.in_ok-cause.cause)) (sym c.in-Some.is)
    ∙ ap (λ r. shut_line c.args.address (option_map (λ (name : Bor (List ℕ)). name.now) c.args.tenant) (bytes_or_none r)) (sym c.in_ok-cause.was) in
    subst (λ text. IfOk c.format.result (λ it. string_bytes it ≡ text)) line c.format.ensures.ok

pub returns : goal.returns
returns c =
    let address = socket_text c.args.address in
    let line = few_words address (string_bytes c.in_ok-cause.cause)
    ∙ ap (λ t. shut_line c.args.address (option_map (λ (name : Bor (List ℕ)). name.now) t) (string_bytes c.in_ok-cause.cause)) (sym c.in-None.is)
    ∙ ap (λ r. shut_line c.args.address (option_map (λ (name : Bor (List ℕ)). name.now) c.args.tenant) (bytes_or_none r)) (sym c.in_ok-cause.was) in
    subst (λ text. IfOk c.format-in-None.result (λ it. string_bytes it ≡ text)) line c.format-in-None.ensures.ok
