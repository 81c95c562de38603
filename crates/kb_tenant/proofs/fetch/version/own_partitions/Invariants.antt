use Rattle.std.proofs.Common.{◌≡◌, take}
use Rattle.kb_tenant.proofs.fetch.version.own_partitions.Given as goal

-- those so far
abbrev pub invariant-loop-wanted : goal.invariant-loop-wanted
invariant-loop-wanted l = l.own ≡ take l.wanted-index l.entries
