use Rattle.kb_groups.proofs.Quiet.{due_after}
use Rattle.kb_groups.proofs.Sizes.{bytes_after}
use Rattle.kb_groups.proofs.Waiting.{waits_after}
use Rattle.kb_groups.proofs.group.Group.may_commit.Goals as goal

pub invariant_of-self : goal.invariant_of-self
invariant_of-self c = (
  due_after _ c.args.clock c.args.number c.self.inside.quiet_until _ c.self.inside.state _ c.may_commit.ensures.after c.sooner_due-self-inside.ensures c.self.invariant.0,
  waits_after _ c.args.clock c.args.number c.self.inside.state _ c.self.inside.has_waiting c.may_commit.ensures.after c.self.invariant.1,
  bytes_after _ c.args.clock c.args.number c.self.inside.state _ c.self.inside.bytes c.may_commit.ensures.after c.self.invariant.2,
)
