use Rattle.kb_tenant_state.specs.Parts.{world_of}
use Rattle.kb_tenant_state.specs.Stored.{texts_in}
use Rattle.kb_tenant.proofs.Committing.{much_brought, much_refused}
use Rattle.kb_tenant.proofs.group_commit.brings_too_much.Goals as goal

pub returns-then-is_takeable : goal.returns-then-is_takeable
returns-then-is_takeable g c = λ table next files sound.
    let w = world_of g.L.PartitionLog.log c.args.parts.now files in
    much_brought c.args.limits w c.args.place c.args.group.now c.args.metadata.now c.is_takeable.result c.is_past.result c.left_of.result c.text_brought-brought.result
    (c.is_takeable.ensures files) c.if-is_takeable.true (c.left_of.ensures.most (texts_in w.known) (c.texts.ensures table next sound)) (c.text_brought-brought.ensures files) c.is_past.ensures

pub returns-else-is_takeable : goal.returns-else-is_takeable
returns-else-is_takeable g c = λ table next files sound.
    let w = world_of g.L.PartitionLog.log c.args.parts.now files in
    much_refused c.args.limits w c.args.place c.args.group.now c.args.metadata.now c.is_takeable.result (c.is_takeable.ensures files) c.if-is_takeable.false
