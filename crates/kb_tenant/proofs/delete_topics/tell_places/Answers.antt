use Rattle.std.proofs.Common.{◌∙◌, ◌++◌, ap, arith, length}
use Rattle.kb_tenant.specs.DeleteTopics.{places}
use Rattle.kb_tenant.proofs.Deleting.{places_more, none_told, all_told}
use Rattle.kb_tenant.proofs.delete_topics.tell_places.Goals as goal

pub loop-number-preserved : goal.loop-number-preserved
loop-number-preserved g c = record {
  told = places_more c.loop-number.touched.items c.push.new.self.items _ c.args.instance c.loop-number.number c.in_ok-push.ensures.items c.loop-number.invariant.told;
  room = omega (arith, c.loop-number-test.true, c.loop-number.invariant.room, c.in_ok-push.ensures.len, c.in_ok-push.ensures.capacity);
}

pub returns-in_default-clause-told : goal.returns-in_default-clause-told
returns-in_default-clause-told g c = λ files. none_told c.args.touched.now.items c.args.instance _ (c.in_default.ensures files)

pub returns-clause-told : goal.returns-clause-told
returns-clause-told g c = λ files.
    let n = c.loop-number.number in
    let told = c.loop-number.invariant.told ∙ ap (λ l. l ++ places c.args.instance n) c.try_reserve.ensures.items in
    all_told c.args.touched.now.items c.loop-number.touched.items c.args.instance n _ c.in-Some.topic.now _ told (omega arith) (ap length c.partitions-count.ensures) (c.in-Some.ensures files)
