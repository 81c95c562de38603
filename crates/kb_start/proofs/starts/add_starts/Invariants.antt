use Rattle.std.proofs.Common.{List, length}
use Rattle.kb_survey.specs.Whole.{batches_among}
use Rattle.kb_topics.specs.declared.command.MoveStart.{MoveStart}
use Rattle.kb_start.specs.Starts.{RecordsEach}
use Rattle.kb_start.proofs.starts.add_starts.Given as goal

-- whatever is recorded behind these starts is recorded behind the first ones
abbrev pub invariant-loop-rest : goal.invariant-loop-rest
invariant-loop-rest l = (after : List MoveStart) → RecordsEach (batches_among l.rest) l.starts.items after
    → RecordsEach (batches_among l.fn.bytes) l.initial.starts.items after

abbrev pub decreases-loop-rest : goal.decreases-loop-rest
decreases-loop-rest l = length l.rest
