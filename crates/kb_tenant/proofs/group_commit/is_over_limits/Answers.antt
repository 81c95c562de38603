use Rattle.kb_tenant_state.specs.Parts.{world_of}
use Rattle.kb_tenant.proofs.Committing.{over_by_one, over_by_text}
use Rattle.kb_tenant.proofs.group_commit.is_over_limits.Goals as goal

pub returns-then-is_one_too_many : goal.returns-then-is_one_too_many
returns-then-is_one_too_many g c = λ table next files sound.
    let w = world_of g.L.PartitionLog.log c.args.parts.now files in
    over_by_one c.args.limits w c.args.place c.args.group.now c.args.metadata.now c.is_one_too_many.result (c.is_one_too_many.ensures table next files sound) c.if-is_one_too_many.true

pub returns-else-is_one_too_many : goal.returns-else-is_one_too_many
returns-else-is_one_too_many g c = λ table next files sound.
    let w = world_of g.L.PartitionLog.log c.args.parts.now files in
    over_by_text c.args.limits w c.args.place c.args.group.now c.args.metadata.now c.is_one_too_many.result c.brings_too_much.result
    (c.is_one_too_many.ensures table next files sound) c.if-is_one_too_many.false (c.brings_too_much.ensures table next files sound)
