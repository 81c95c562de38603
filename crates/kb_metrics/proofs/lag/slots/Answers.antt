use Rattle.std.proofs.Common.{◌≡◌, ◌∙◌, ℤ, Option, map, ap, sym, subst, arith, slice_get}
use Rattle.std.specs.List.{All, range_with_len}
use Rattle.std.specs.Option.{option_and_then, option_copied}
use Rattle.std.proofs.lemmas.List.Elements.{All-push}
use Rattle.kb_topics.specs.Known.{PartitionState}
use Rattle.kb_tenant_state.specs.Calls.{end_of, numbered}
use Rattle.kb_tenant_state.specs.Parts.{world_of}
use Rattle.kb_metrics.specs.Slots.{AreCommitted, slot_at, slot_of}
use Rattle.kb_metrics.proofs.Steps.{row_of_number}
use Rattle.kb_metrics.proofs.lag.slots.Goals as goal

pub loop-number-preserved : goal.loop-number-preserved
loop-number-preserved g c = record {
  seen = λ files.
      let w = world_of g.L.PartitionLog.log c.args.parts.now files in
      let n = c.loop-number.number in
      let known = c.partition_in-partition.ensures ∙ ap (option_and_then (λ t. slice_get t.partitions n)) (c.topic-topic.ensures files) in
      let make : Option ℤ → Option PartitionState → Option ℤ × Option PartitionState = λ e p. (e, p) in
      row_of_number slot_of (slot_at w c.args.instance) c.loop-number.slots.items c.push.new.self.items n _ (c.loop-number.invariant.seen files)
      c.in_ok-push.ensures.items
      (ap (λ e. make e (option_copied c.partition_in-partition.result)) (c.end.ensures files) ∙ ap (make (end_of w (numbered c.args.instance n))) known);
  kept = subst (All (AreCommitted (map (λ g. g.now) c.args.groups.now))) (sym c.in_ok-push.ensures.items)
      (All-push (AreCommitted (map (λ g. g.now) c.args.groups.now)) c.loop-number.slots.items _ c.loop-number.invariant.kept c.in_ok-offsets_in.ensures);
}

pub returns-clause-seen : goal.returns-clause-seen
returns-clause-seen g c files =
    let w = world_of g.L.PartitionLog.log c.args.parts.now files in
    let same : c.loop-number.number ≡ c.args.count = omega (arith, c.loop-number-test.false, c.loop-number.auto.number-end) in
    c.loop-number.invariant.seen files ∙ ap (λ n. map (slot_at w c.args.instance) (range_with_len 0 n)) same
