use Rattle.std.proofs.Common.{arith}
use Rattle.kb_groups.proofs.Sizes.{none_bytes}
use Rattle.kb_groups.proofs.Waiting.{none_waits}
use Rattle.kb_groups.proofs.group.Group.with_generation.Goals as goal

pub invariant_of-result : goal.invariant_of-result
invariant_of-result c = (omega arith, none_waits _ c.new.result c.new.ensures, none_bytes _ c.new.result c.new.ensures)
