use Rattle.std.proofs.Common.{◌≡◌, Some, false, true, map, rules, string_bytes}
use Rattle.toml.specs.Data.{array}
use Rattle.toml.specs.View.{view, items_view}
use Rattle.toml.specs.declared.value.Value.{the_lemmas}
use Rattle.toml.proofs.Views.{view-Array}
use Rattle.kb_settings.specs.Limits.{limits_in, are_limits}
use Rattle.kb_settings.specs.Document.{all_limits}
use Rattle.kb_settings.proofs.AllowedConnections.{limits_right, limits_wrong}
use Rattle.kb_settings.proofs.tenants.tenants_in.Goals as goal

pub returns-then-branch-clause-says : goal.returns-then-branch-clause-says
returns-then-branch-clause-says c =
    let is : view c.args.value.now ≡ array (items_view c.in-Array.entries.items) = search (rules, the_lemmas, view-Array) in
    let all : all_limits c.args.connections (items_view c.in-Array.entries.items) ≡ Some (map limits_in c.in-Some.tenants.items) = search rules in
    let right : are_limits c.args.connections (map (λ u. string_bytes u.tenant) c.args.users.now) (map limits_in c.in-Some.tenants.items) ≡ true = search (rules, c.if-branch.true, c.in_ok-are_limits.ensures, c.deref-2.ensures.value) in
    limits_right c.args.connections c.args.users.now _ _ _ is all right

pub returns-else-branch-clause-says : goal.returns-else-branch-clause-says
returns-else-branch-clause-says c =
    let is : view c.args.value.now ≡ array (items_view c.in-Array.entries.items) = search (rules, the_lemmas, view-Array) in
    let all : all_limits c.args.connections (items_view c.in-Array.entries.items) ≡ Some (map limits_in c.in-Some.tenants.items) = search rules in
    let wrong : are_limits c.args.connections (map (λ u. string_bytes u.tenant) c.args.users.now) (map limits_in c.in-Some.tenants.items) ≡ false = search (rules, c.if-branch.false, c.in_ok-are_limits.ensures, c.deref-2.ensures.value) in
    limits_wrong c.args.connections c.args.users.now _ _ _ is all wrong
