use Rattle.kb_tenant_state.specs.Parts.{world_of}
use Rattle.kb_tenant_state.specs.Stored.{offsets_in}
use Rattle.kb_tenant.proofs.Committing.{none_more, none_taken, one_more}
use Rattle.kb_tenant.proofs.group_commit.is_one_too_many.Goals as goal

pub returns-then-is_some : goal.returns-then-is_some
returns-then-is_some g c = λ table next files sound.
    let w = world_of g.L.PartitionLog.log c.args.parts.now files in
    none_more c.args.limits w c.args.place c.args.group.now c.args.metadata.now c.committed.result c.is_some.result c.is_some.ensures c.if-is_some.true (c.committed.ensures files)

pub returns-then-is_takeable : goal.returns-then-is_takeable
returns-then-is_takeable g c = λ table next files sound.
    let w = world_of g.L.PartitionLog.log c.args.parts.now files in
    one_more c.args.limits w c.args.place c.args.group.now c.args.metadata.now c.committed.result c.is_some.result c.is_takeable.result c.is_reached.result c.in-Some.limit
    c.in-Some.is c.is_some.ensures c.if-is_some.false (c.committed.ensures files) (c.is_takeable.ensures files) c.if-is_takeable.true
    (c.is_reached.ensures (offsets_in w.known) (c.offsets.ensures table next sound))

pub returns : goal.returns
returns g c = λ table next files sound.
    let w = world_of g.L.PartitionLog.log c.args.parts.now files in
    none_taken c.args.limits w c.args.place c.args.group.now c.args.metadata.now c.is_takeable.result (c.is_takeable.ensures files) c.if-is_takeable.false
