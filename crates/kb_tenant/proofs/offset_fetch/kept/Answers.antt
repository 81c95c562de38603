use Rattle.std.proofs.Common.{◌∙◌, w32}
use Rattle.std.proofs.lemmas.Int.{to_z-of_z}
use Rattle.kb_tenant_state.specs.Parts.{world_of}
use Rattle.kb_tenant.proofs.OffsetsKept.{kept_at}
use Rattle.kb_tenant.proofs.offset_fetch.kept.Goals as goal

pub returns : goal.returns
returns g c files =
    c.committed.ensures files
    ∙ kept_at (world_of g.L.PartitionLog.log c.args.parts.now files) c.args.group.now c.args.topic c.args.partition _ c.in_ok-place.place (to_z-of_z w32 c.args.partition c.ranges.partition) c.in_ok-place.ensures
