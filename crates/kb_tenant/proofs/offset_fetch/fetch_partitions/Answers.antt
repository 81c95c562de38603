use Rattle.std.proofs.Common.{◌≡◌, ◌∙◌, rules, ap, sym, pos, to_z, of_z, w32, ◌++◌}
use Rattle.std.specs.Prelude.{slice_index_or}
use Rattle.std.specs.Option.{option_copied}
use Rattle.kb_tenant_state.specs.Parts.{world_of}
use Rattle.kb_tenant.specs.OffsetFetch.{fetched, kept, partition_reply, told}
use Rattle.kb_tenant.proofs.Serving.{get_or_any, write_next, write_over}
use Rattle.kb_tenant.proofs.offset_fetch.fetch_partitions.Goals as goal

pub loop-partition-preserved : goal.loop-partition-preserved
loop-partition-preserved g c files =
    let w = world_of g.L.PartitionLog.log c.args.parts.now files in
    let f = fetched w c.args.group.now c.args.topic in
    let write = (partition_reply c.args.has_epochs).written in
    let out = c.loop-partition.sink.bytes in
    let i = c.loop-partition.partition-index in
    let p = slice_index_or c.args.partitions.now i (pos 0) in
    let is : to_z w32 (of_z w32 p) ≡ p = search rules in
    write_next write f out c.put_told.new.sink.bytes c.args.partitions.now i p c.loop-partition-test.true (get_or_any c.args.partitions.now i (pos 0) p c.loop-partition-test.true)
    (c.in_ok-put_told.ensures ∙ ap (λ z. out ++ write (told z (option_copied c.kept-kept.result))) is ∙ ap (λ o. out ++ write (told p o)) (c.kept-kept.ensures files ∙ ap (kept w c.args.group.now c.args.topic) is)) ∙ c.loop-partition.invariant files

pub returns : goal.returns
returns g c files =
    let f = fetched (world_of g.L.PartitionLog.log c.args.parts.now files) c.args.group.now c.args.topic in
    let write = (partition_reply c.args.has_epochs).written in
    sym (write_over write f c.loop-partition.sink.bytes c.args.partitions.now c.loop-partition.partition-index c.loop-partition-test.false) ∙ c.loop-partition.invariant files
