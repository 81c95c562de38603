use Rattle.std.proofs.Common.{◌≡◌, map, take}
use Rattle.kb_topics.specs.Catalog.{known}
use Rattle.kb_restart.proofs.opening.next_instances.Given as goal

-- those of the first tenants
abbrev pub invariant-loop-tenant : goal.invariant-loop-tenant
invariant-loop-tenant l = l.next.items ≡ map (λ k. k.creates) (map (λ p. known p.catalog) (take l.tenant-index l.tenants))
