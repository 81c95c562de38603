use Rattle.std.proofs.Common.{◌≡◌, ◌∷◌, ◌++◌, ◌∙◌, [], ap, arith, length, length-append, subst, sym, pos, to_z, w32, w64}
use Rattle.std.proofs.lemmas.Int.{ints}
use Rattle.std.specs.List.{All}
use Rattle.std.proofs.lemmas.List.Elements.{All-append, All-cons, All-nil}
use Rattle.kb_tenant_state.specs.Made.{AreNumbered, IsEmptyPartition}
use Rattle.kb_tenant_state.specs.Partitions.{partition_identity}
use Rattle.kb_tenant_state.proofs.Made.{numbered_more, partition_id}
use Rattle.kb_tenant_state.proofs.topic.new_partitions.Goals as goal

pub loop-number-preserved : goal.loop-number-preserved
loop-number-preserved g c =
    let P = IsEmptyPartition g.L.PartitionLog.log in
    let was = c.loop-number.partitions.items in
    let more = c.in_ok-push.ensures.items in
    let new : P c.new.result = record { begun = c.new.ensures.log; unproduced = c.new.ensures.producers } in
    let longer : length c.push.new.self.items ≡ length (was ++ c.new.result ∷ []) = ap (λ xs. length xs) more in
    let one = length-append was (c.new.result ∷ []) in
    let instance : to_z w64 c.args.instance ≡ pos c.args.instance = omega (arith, ints, c.requires.instance) in
    let number : to_z w32 c.loop-number.number ≡ pos c.loop-number.number = omega (arith, ints, c.requires.count, c.loop-number-test.true) in
    let named : (g.L.PartitionLog.log c.new.result.log).identity ≡ partition_identity c.args.tenant.now c.args.instance (length was) c.args.segment_bytes =
    c.new.ensures.identity ∙ partition_id c.in_ok-from_str.field-0 (to_z w64 c.args.instance) (to_z w32 c.loop-number.number) c.args.tenant.now c.args.instance (length was) c.args.segment_bytes
    c.in_ok-from_str.ensures.ok instance (number ∙ ap pos (sym c.loop-number.invariant.count)) in
    record {
      count = omega (arith, longer, one, c.loop-number.invariant.count);
      empty = subst (λ xs. All P xs) (sym more) (All-append P was (c.new.result ∷ []) c.loop-number.invariant.empty (All-cons P c.new.result [] new (All-nil P)));
      numbered = subst (λ xs. AreNumbered g.L.PartitionLog.log c.args.tenant.now c.args.instance c.args.segment_bytes xs) (sym more)
          (numbered_more g.L.PartitionLog.log c.args.tenant.now c.args.instance c.args.segment_bytes was c.new.result c.loop-number.invariant.numbered named);
    }
