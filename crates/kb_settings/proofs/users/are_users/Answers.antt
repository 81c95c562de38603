use Rattle.std.proofs.Common.{ap, arith, length, sym, ◌∙◌, ◌≡◌, map, string_bytes}
use Rattle.std.proofs.Math.ListN.{length-map}
use Rattle.kb_settings.specs.Names.{in_order}
use Rattle.kb_settings.proofs.Entries.{some-there, users-twice, users-once}
use Rattle.kb_settings.proofs.users.are_users.Goals as goal

pub returns-then-len-users : goal.returns-then-len-users
returns-then-len-users c =
    let count : length (in_order (map (λ u. string_bytes u.name) c.args.users.now)) ≡ c.len.result =
    ap length (sym c.in_ok-user_names.ensures) ∙ omega (arith, length-map c.in_ok-user_names.field-0.items (λ name. name.now), c.in_ok-user_names.field-0.ok.0) in
    users-twice c.args.users.now (λ same. c.if-len-users.true (sym count ∙ same))

pub returns : goal.returns
returns c =
    let names : length (in_order (map (λ u. string_bytes u.name) c.args.users.now)) ≡ c.len.result =
    ap length (sym c.in_ok-user_names.ensures) ∙ omega (arith, length-map c.in_ok-user_names.field-0.items (λ name. name.now), c.in_ok-user_names.field-0.ok.0) in
    let tenants : c.len-2.result ≡ length (in_order (map (λ u. string_bytes u.tenant) c.args.users.now)) =
    omega (arith, length-map c.in_ok-tenant_names.field-0.items (λ name. name.now), c.in_ok-tenant_names.field-0.ok.0) ∙ ap length c.in_ok-tenant_names.ensures in
    users-once c.args.users.now c.len-2.result (some-there c.is_empty.result _ c.is_empty.ensures c.if-is_empty.false) (omega arith) (names ∙ omega arith) tenants
