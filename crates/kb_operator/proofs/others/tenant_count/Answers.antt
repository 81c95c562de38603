use Rattle.std.proofs.Common.{◌≡◌, ◌∙◌, ap, length, map, rules, string_bytes, sym}
use Rattle.std.proofs.lemmas.List.{length-map}
use Rattle.kb_settings.specs.Names.{in_order}
use Rattle.kb_operator.proofs.Counted.{names_same}
use Rattle.kb_operator.proofs.others.tenant_count.Goals as goal

pub returns : goal.returns
returns c =
    let named : map (λ name. name.now) c.in_ok-names.names.items ≡ in_order (map (λ u. string_bytes u.tenant) c.args.settings.now.users.items) =
    c.in_ok-names.ensures ∙ ap (λ us. in_order (map (λ u. string_bytes u.tenant) us)) c.deref.ensures.value in
    let long : c.len.result ≡ length c.in_ok-names.names.items = search rules in
    long ∙ sym (length-map c.in_ok-names.names.items (λ name. name.now))
    ∙ ap length (named ∙ names_same c.args.settings.now)
