use Rattle.std.proofs.Common.{ℕ, List, subst, sym, map}
use Rattle.std.specs.List.{Contains}
use Rattle.kb_broker.specs.Opening.{tenants_of, tenant_of}
use Rattle.kb_settings.proofs.NamesInOrder.{Rises, rises-in_order}
use Rattle.kb_broker.proofs.OpeningParts.{tenant-in}
use Rattle.kb_broker.proofs.opening.logins_of.Goals as goal

pub place_of-tenant-requires-clause-rise : goal.place_of-tenant-requires-clause-rise
place_of-tenant-requires-clause-rise c = subst Rises (sym c.requires) (rises-in_order (map tenant_of c.args.users.now))

pub place_of-tenant-requires-clause-named : goal.place_of-tenant-requires-clause-named
place_of-tenant-requires-clause-named c =
    let named : Contains (tenants_of c.args.users.now) (tenant_of c.user-item.result) = tenant-in c.args.users.now c.loop-user.user-index c.user-item.result c.loop-user-test.true c.user-item.is in
    let named : Contains (tenants_of c.args.users.now) c.as_str.result.now = subst (λ (name : List ℕ). Contains (tenants_of c.args.users.now) name) (sym c.as_str.ensures.value) named in
    subst (λ (names : List (List ℕ)). Contains names c.as_str.result.now) (sym c.requires) named
