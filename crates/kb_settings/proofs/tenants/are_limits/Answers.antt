use Rattle.std.proofs.Common.{◌≡◌, ◌&&◌, ap, arith, length, sym, ◌∙◌, map, refl, string_bytes}
use Rattle.std.proofs.Common.{nat_lt}
use Rattle.std.specs.List.{sum_by}
use Rattle.std.proofs.Math.ListN.{length-map}
use Rattle.kb_settings.specs.Names.{in_order}
use Rattle.kb_settings.proofs.AllowedConnections.{limits_many, limits_twice, limits_once}
use Rattle.kb_settings.proofs.tenants.are_limits.Goals as goal

pub returns-then-tenants-gt256 : goal.returns-then-tenants-gt256
returns-then-tenants-gt256 c = limits_many c.args.connections _ c.args.tenants.now (omega arith)

pub returns-then-len-tenants : goal.returns-then-len-tenants
returns-then-len-tenants c =
    let count : length (in_order (map (λ t. string_bytes t.name) c.args.tenants.now)) ≡ c.len.result =
    ap length (sym c.in_ok-limited_names.ensures) ∙ omega (arith, length-map c.in_ok-limited_names.field-0.items (λ name. name.now), c.in_ok-limited_names.field-0.ok.0) in
    limits_twice c.args.connections _ c.args.tenants.now (λ same. c.if-len-tenants.true (sym count ∙ same))

pub returns-then-are_allowed : goal.returns-then-are_allowed
returns-then-are_allowed c =
    let count : length (in_order (map (λ t. string_bytes t.name) c.args.tenants.now)) ≡ c.len.result =
    ap length (sym c.in_ok-limited_names.ensures) ∙ omega (arith, length-map c.in_ok-limited_names.field-0.items (λ name. name.now), c.in_ok-limited_names.field-0.ok.0) in
    ap (λ a. a && c.leaves_one.result) (sym c.if-are_allowed.true)
    ∙ limits_once c.args.connections _ c.args.tenants.now c.are_allowed.result c.leaves_one.result c.are_allowed.ensures c.leaves_one.ensures (omega arith) (count ∙ omega arith)

pub returns-else-are_allowed : goal.returns-else-are_allowed
returns-else-are_allowed c =
    let count : length (in_order (map (λ t. string_bytes t.name) c.args.tenants.now)) ≡ c.len.result =
    ap length (sym c.in_ok-limited_names.ensures) ∙ omega (arith, length-map c.in_ok-limited_names.field-0.items (λ name. name.now), c.in_ok-limited_names.field-0.ok.0) in
    let leaves = nat_lt (sum_by (λ t. t.reserved_connections) c.args.tenants.now) c.args.connections in
    c.if-are_allowed.false
    ∙ ap (λ a. a && leaves) (sym c.if-are_allowed.false)
    ∙ limits_once c.args.connections _ c.args.tenants.now c.are_allowed.result leaves c.are_allowed.ensures refl (omega arith) (count ∙ omega arith)
