use Rattle.std.proofs.Common.{◌≡◌, ◌∙◌, ◌<◌, ◌^◌, ◌++◌, ap, arith, w32}
use Rattle.std.specs.List.{flat_map}
use Rattle.std.specs.Option.{option_copied}
use Rattle.std.proofs.lemmas.Int.{to_z_pos}
use Rattle.kb_tenant_state.specs.Parts.{world_of}
use Rattle.kb_tenant.specs.OffsetFetch.{partition_reply, told_in}
use Rattle.kb_tenant.proofs.AllOffsets.{in_more}
use Rattle.kb_tenant.proofs.all_offsets.put_in.Goals as goal

pub loop-number-preserved : goal.loop-number-preserved
loop-number-preserved g c files =
    let n = c.loop-number.number in
    let small : n < 2 ^ 31 = omega (arith, c.loop-number-test.true, c.requires) in
    in_more c.args.has_epochs (world_of g.L.PartitionLog.log c.args.parts.now files) c.args.group.now c.args.instance n _ (option_copied c.committed-committed.result) c.args.sink.now.bytes c.loop-number.sink.bytes c.put_if.new.sink.bytes
    (to_z_pos w32 n small) (c.committed-committed.ensures files) (c.loop-number.invariant files) c.in_ok-put_if.ensures

pub returns : goal.returns
returns g c files =
    let last : c.loop-number.number ≡ c.args.partitions = omega (arith, c.loop-number-test.false, c.loop-number.auto.number-end) in
    c.loop-number.invariant files
    ∙ ap (λ n. c.args.sink.now.bytes ++ flat_map (partition_reply c.args.has_epochs).written (told_in (world_of g.L.PartitionLog.log c.args.parts.now files) c.args.group.now c.args.instance n)) last
