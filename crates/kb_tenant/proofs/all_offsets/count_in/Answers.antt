use Rattle.std.proofs.Common.{◌≡◌, ◌∙◌, ap, length, pos, arith}
use Rattle.std.specs.Option.{option_copied}
use Rattle.kb_tenant_state.specs.Parts.{world_of}
use Rattle.kb_tenant.specs.OffsetFetch.{told_in}
use Rattle.kb_tenant.proofs.AllOffsets.{counted_more}
use Rattle.kb_tenant.proofs.all_offsets.count_in.Goals as goal

pub loop-number-preserved : goal.loop-number-preserved
loop-number-preserved g c = record {
  counted = λ files. counted_more (world_of g.L.PartitionLog.log c.args.parts.now files) c.args.group.now c.args.instance c.loop-number.number c.count_of-count.result c.loop-number.count
      (option_copied c.committed.result) (c.committed.ensures files) (c.count_of-count.ensures.exact (pos c.loop-number.number)) (c.loop-number.invariant.counted files);
  few = omega (arith, c.count_of-count.ensures.few, c.loop-number.invariant.few);
}

pub returns-clause-exact : goal.returns-clause-exact
returns-clause-exact g c files =
    let last : c.loop-number.number ≡ c.args.partitions = omega (arith, c.loop-number-test.false, c.loop-number.auto.number-end) in
    c.loop-number.invariant.counted files ∙ ap (λ n. length (told_in (world_of g.L.PartitionLog.log c.args.parts.now files) c.args.group.now c.args.instance n)) last
