use Rattle.std.proofs.Common.{◌≡◌, ◌++◌, take, map}
use Rattle.std.specs.List.{flat_map}
use Rattle.kb_tenants.specs.Tenants.{connection_of}
use Rattle.kb_tenants.proofs.tenants.Tenants.push_answered.Given as goal

-- the replies of the groups so far
abbrev pub invariant-loop-replies : goal.invariant-loop-replies
invariant-loop-replies g l = l.numbers.items ≡ l.fn.numbers.items ++ map connection_of (flat_map (λ v. v.items) (take l.replies-index l.released))
