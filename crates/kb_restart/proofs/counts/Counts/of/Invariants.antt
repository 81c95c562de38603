use Rattle.std.proofs.Common.{◌≡◌, length, take}
use Rattle.std.specs.List.{sum_by}
use Rattle.kb_topics.specs.Catalog.{known}
use Rattle.kb_restart.specs.Counts.{partitions_of, told}
use Rattle.kb_restart.proofs.counts.Counts.of.Given as goal

-- what the first tenants have
abbrev pub invariant-loop-tenant : goal.invariant-loop-tenant
invariant-loop-tenant l = record {
  topics : l.topics ≡ told (sum_by (λ p. length (known p.catalog).topics) (take l.tenant-index l.tenants));
  partitions : l.partitions ≡ told (sum_by (λ p. partitions_of (known p.catalog)) (take l.tenant-index l.tenants));
}
