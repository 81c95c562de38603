use Rattle.std.proofs.Common.{◌∙◌, sym}
use Rattle.kb_groups.proofs.Waiting.{none_dropped}
use Rattle.kb_groups.proofs.group.Group.dropped.Goals as goal

pub returns-then-not-self : goal.returns-then-not-self
returns-then-not-self c = rw (← c.self.view_is) (none_dropped c.args.clock c.args.connection c.self.inside.state (sym c.self.invariant.1 ∙ c.if-not-self.true))
