use Rattle.std.proofs.Common.{◌≡◌, ◌∙◌, ◌++◌, ◌∷◌, [], ap, codes, length, option_map, rules, subst, sym}
use Rattle.std.specs.Prelude.{OnOk}
use Rattle.std.proofs.lemmas.List.{length-map}
use Rattle.kb_settings.specs.Values.{account_of, values_of}
use Rattle.kb_operator.specs.Shown.{fetched_line, members_line, sockets_line, stored_line}
use Rattle.kb_operator.specs.Sums.{fetched_at_most, held_at_most, stored_at_most, tenants_of, told}
use Rattle.kb_operator.proofs.Pushed.{line_more, line_ok, line_one}
use Rattle.kb_operator.proofs.shown.push_totals.Goals as goal

pub returns : goal.returns
returns c =
    let s = c.args.settings.now in
    let v = values_of s in
    let t = c.args.text.now.items in
    let a = c.push_members.new.text.items in
    let b = c.push_stored.new.text.items in
    let d = c.push_fetched.new.text.items in
    let new = c.push_sockets.new.text.items in
    let members = members_line (length v.users) (length (tenants_of v)) in
    let stored = stored_line (option_map told (stored_at_most v)) in
    let fetched = fetched_line (told (fetched_at_most v)) in
    let long : c.len-users.result ≡ length s.users.items = search rules in
    let users : c.len-users.result ≡ length v.users = long ∙ sym (length-map s.users.items account_of) in
    let first : a ≡ t ++ (members ++ codes "\n") = c.in_ok-push_members.ensures
    ∙ ap (λ u. t ++ (members_line u c.in_ok-tenants.tenants ++ codes "\n")) users
    ∙ ap (λ n. t ++ (members_line (length v.users) n ++ codes "\n")) c.in_ok-tenants.ensures in
    let second : b ≡ a ++ (stored ++ codes "\n") = c.in_ok-push_stored.ensures
    ∙ ap (λ o. a ++ (stored_line o ++ codes "\n")) c.in_ok-stored_at_most.ensures in
    let third : d ≡ b ++ (fetched ++ codes "\n") = c.in_ok-push_fetched.ensures
    ∙ ap (λ n. b ++ (fetched_line n ++ codes "\n")) c.in_ok-fetched_at_most.ensures in
    line_ok c.push_sockets.result t d new (members ∷ stored ∷ fetched ∷ []) (sockets_line (told (held_at_most v)))
    (line_more t b d (members ∷ stored ∷ []) fetched (line_more t a b (members ∷ []) stored (line_one t a members first) second) third)
    (subst (λ n. OnOk c.push_sockets.result (new ≡ d ++ (sockets_line n ++ codes "\n"))) c.held_at_most.ensures c.push_sockets.ensures)
