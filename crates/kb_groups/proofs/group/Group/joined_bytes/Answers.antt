use Rattle.std.proofs.Common.{arith}
use Rattle.kb_groups.proofs.Sizes.{replaced_within}
use Rattle.kb_groups.proofs.group.Group.joined_bytes.Goals as goal

pub overflow_sub-others : goal.overflow_sub-others
overflow_sub-others c = omega (arith, c.replaced_bytes.ensures, c.self.invariant.2, replaced_within c.args.request.now c.self.inside.state)
