use Rattle.std.proofs.Common.{◌≡◌, ◌<◌, ◌≤◌, ◌++◌, ℕ, length, map, take, drop, slice_index_or}
use Rattle.kb_tenants.specs.Members.{HasNoGroup, renumbered}
use Rattle.kb_tenants.specs.declared.tenants.Tenant.{Tenant}
use Rattle.kb_tenants.proofs.tenants.members.number_each.Given as goal

-- those up to here are numbered, and those after are to be
abbrev pub invariant-loop-i : goal.invariant-loop-i
invariant-loop-i g l = record {
  done : take l.i l.tenants ++ map (renumbered l.first) (drop l.i l.tenants) ≡ map (renumbered l.first) l.initial.tenants;
  early : (k : ℕ) (d : Tenant g.row.L.Denot) → l.i ≤ k → k < length l.tenants → HasNoGroup (slice_index_or l.tenants k d);
}
