use Rattle.std.proofs.Common.{◌∙◌}
use Rattle.kb_node.proofs.Many.{counted_for_nobody}
use Rattle.kb_node.proofs.edge.Edge.open_strangers.Goals as goal

pub returns : goal.returns
returns g c = c.strangers.ensures.used ∙ counted_for_nobody c.args.self.now.host c.args.self.now.shares c.args.self.now.sockets.items
    c.args.self.now.seated c.strangers.ensures.ordered
