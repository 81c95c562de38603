use Rattle.std.proofs.Common.{◌≡◌, take}
use Rattle.kb_broker.specs.Limited.{limited_by}
use Rattle.kb_broker.proofs.engine.Engine.limit_groups.Given as goal

-- those up to here have their limits
abbrev pub invariant-loop-tenant : goal.invariant-loop-tenant
invariant-loop-tenant g l = l.self ≡ record l.initial.self { state = limited_by (take l.tenant l.limits) l.initial.self.state }
