use Rattle.std.proofs.Common.{◌≡◌, drop, nat_lt}
use Rattle.std.specs.List.{sum_by}
use Rattle.kb_settings.proofs.tenants.leaves_one.Given as goal

abbrev pub invariant-tenants : goal.invariant-tenants
invariant-tenants l =
    nat_lt (sum_by (λ t. t.reserved_connections) l.tenants) l.fn.connections
    ≡ nat_lt (sum_by (λ t. t.reserved_connections) (drop l.limits-index l.tenants)) l.free
