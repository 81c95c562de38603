use Rattle.std.proofs.Common.{◌∙◌}
use Rattle.kb_node.proofs.Many.{counted_for_tenant}
use Rattle.kb_node.proofs.edge.Edge.open_sockets.Goals as goal

pub returns : goal.returns
returns g c = λ below. c.used.ensures.used ∙ counted_for_tenant c.args.self.now.host c.args.self.now.shares c.args.self.now.sockets.items
    c.args.self.now.seated c.used.ensures.ordered c.args.tenant below
