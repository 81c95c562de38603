use Rattle.std.proofs.Common.{ap, ◌∙◌}
use Rattle.std.specs.Prelude.{not}
use Rattle.kb_tenants.specs.Tenants.{shelf_is_honest}
use Rattle.kb_broker.proofs.Fields.{queue-waits}
use Rattle.kb_broker.proofs.Honest.{state-is}
use Rattle.kb_broker.proofs.engine.Engine.any_waits.Goals as goal

pub returns : goal.returns
returns g c = ap not c.is_empty.ensures ∙ queue-waits (shelf_is_honest g.S.Store.disk c.self.inside.tenants) c.self.inside.parking _ c.args.self.now.state (state-is _ _ c.self.view_is) c.self.invariant.1 c.requires
