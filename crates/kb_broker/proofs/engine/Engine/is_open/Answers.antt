use Rattle.std.proofs.Common.{◌∙◌}
use Rattle.kb_broker.proofs.Placed.{open-found}
use Rattle.kb_broker.proofs.engine.Engine.is_open.Goals as goal

pub returns : goal.returns
returns g c = c.is_some.ensures ∙ open-found c.args.self.now.state c.args.number c.place_of.result c.requires c.place_of.ensures.none c.place_of.ensures.within c.place_of.ensures.some
