use Rattle.std.proofs.Common.{◌≡◌, ◌∙◌, ◌++◌, rules, ap, codes, subst, sym, to_z, of_z}
use Rattle.std.proofs.lemmas.Int.{to_z-of_z}
use Rattle.std.specs.Prelude.{IfOk, string_bytes}
use Rattle.std.specs.Fmt.{signed_decimal}
use Rattle.std.specs.Int.{w16}
use Rattle.kbroker.specs.Shut.{api_text, shut_words}
use Rattle.kbroker.proofs.causes.text_of.Goals as goal

pub returns-in_ok-api-in-Unanswerable : goal.returns-in_ok-api-in-Unanswerable
returns-in_ok-api-in-Unanswerable c =
    let key : to_z w16 (of_z w16 c.in-Unanswerable.api_key) ≡ c.in-Unanswerable.api_key = search (rules, to_z-of_z) in
    let version : to_z w16 (of_z w16 c.in-Unanswerable.api_version) ≡ c.in-Unanswerable.api_version = search (rules, to_z-of_z) in
    let rest = codes " does not match or names more than request_entries, or there was no room for its reply" in
    let name = string_bytes c.in_ok-api-in-Unanswerable.api in
    let line = ap (λ v. codes "the body of " ++ (name ++ (codes " " ++ (signed_decimal v ++ rest)))) version
    ∙ ap (λ api. codes "the body of " ++ (api ++ (codes " " ++ (signed_decimal c.in-Unanswerable.api_version ++ rest))))
    (subst (λ k. name ≡ api_text k) key c.in_ok-api-in-Unanswerable.ensures)
    ∙ ap (λ cause. shut_words cause c.args.request_bytes) (sym c.in-Unanswerable.is) in
    subst (λ text. IfOk c.format-in-Unanswerable.result (λ it. string_bytes it ≡ text)) line c.format-in-Unanswerable.ensures.ok

pub returns-in_ok-api-in-NotLoggedIn : goal.returns-in_ok-api-in-NotLoggedIn
returns-in_ok-api-in-NotLoggedIn c =
    let key : to_z w16 (of_z w16 c.in-NotLoggedIn.api_key) ≡ c.in-NotLoggedIn.api_key = search (rules, to_z-of_z) in
    let version : to_z w16 (of_z w16 c.in-NotLoggedIn.api_version) ≡ c.in-NotLoggedIn.api_version = search (rules, to_z-of_z) in
    let name = string_bytes c.in_ok-api-in-NotLoggedIn.api in
    let line = ap (λ v. name ++ (codes " " ++ (signed_decimal v ++ codes " before a login"))) version
    ∙ ap (λ api. api ++ (codes " " ++ (signed_decimal c.in-NotLoggedIn.api_version ++ codes " before a login")))
    (subst (λ k. name ≡ api_text k) key c.in_ok-api-in-NotLoggedIn.ensures)
    ∙ ap (λ cause. shut_words cause c.args.request_bytes) (sym c.in-NotLoggedIn.is) in
    subst (λ text. IfOk c.format-in-NotLoggedIn.result (λ it. string_bytes it ≡ text)) line c.format-in-NotLoggedIn.ensures.ok
