use Rattle.std.proofs.Common.{◌≡◌, ◌∙◌, ◌++◌, [], ℕ, List, ap, map, sym}
use Rattle.std.proofs.lemmas.Simd.{map-map}
use Rattle.kb_settings.specs.Limits.{limits_in}
use Rattle.kb_settings.specs.Values.{account_of, values_of}
use Rattle.kb_operator.specs.Others.{others}
use Rattle.kb_operator.specs.Report.{lines_text}
use Rattle.kb_operator.specs.Shown.{key_lines, others_lines, tenant_line, total_lines, user_line}
use Rattle.kb_operator.specs.Sums.{told}
use Rattle.kb_operator.proofs.Pushed.{lines_more}
use Rattle.kb_operator.proofs.shown.settings_text.Goals as goal

pub returns : goal.returns
returns c =
    let s = c.args.settings.now in
    let v = values_of s in
    let keys = key_lines v c.args.folder.now in
    let users : List (List ℕ) = map user_line v.users in
    let tenants : List (List ℕ) = map tenant_line v.tenants in
    let others_of = others_lines v (told (others v)) in
    let a = c.push_keys.new.text.items in
    let b = c.push_users.new.text.items in
    let d = c.push_tenants.new.text.items in
    let e = c.push_others.new.text.items in
    let first : a ≡ [] ++ lines_text keys = c.in_ok-push_keys.ensures ∙ ap (λ x. x ++ lines_text keys) c.new-text.ensures.items in
    let named : b ≡ a ++ lines_text users = c.in_ok-push_users.ensures
    ∙ ap (λ us. a ++ lines_text (map (λ u. user_line (account_of u)) us)) c.deref.ensures.value
    ∙ ap (λ ls. a ++ lines_text ls) (sym (map-map user_line account_of s.users.items)) in
    let limited : d ≡ b ++ lines_text tenants = c.in_ok-push_tenants.ensures
    ∙ ap (λ ts. b ++ lines_text (map (λ t. tenant_line (limits_in t)) ts)) c.deref-2.ensures.value
    ∙ ap (λ ls. b ++ lines_text ls) (sym (map-map tenant_line limits_in s.tenants.items)) in
    lines_more [] e c.push_totals.new.text.items (keys ++ users ++ tenants ++ others_of) (total_lines v)
    (lines_more [] d e (keys ++ users ++ tenants) others_of
    (lines_more [] b d (keys ++ users) tenants
    (lines_more [] a b keys users first named) limited) c.in_ok-push_others.ensures) c.in_ok-push_totals.ensures
