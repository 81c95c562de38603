use Rattle.std.proofs.Common.{◌∙◌, IsErr, ap, rules}
use Rattle.std.proofs.lemmas.Result.{on_ok_weaker}
use Rattle.kb_topics.specs.Known.{named}
use Rattle.kb_tenant_state.specs.Parts.{scene}
use Rattle.kb_tenant.specs.Produce.{progress}
use Rattle.kb_tenant.specs.Room.{length_due, topic_length}
use Rattle.kb_tenant_state.specs.Steps.{meets_so}
use Rattle.kb_tenant.specs.Told.{FailedBy}
use Rattle.kb_tenant.proofs.Acknowledging.{topic_told_so}
use Rattle.kb_tenant.proofs.Produced.{name_fits, entries_fit, topic_told}
use Rattle.kb_tenant.proofs.Room.{count_refused, handed_on, name_refused, topic_put}
use Rattle.kb_tenant.proofs.produce.serve_topic.Goals as goal

pub put_string-requires : goal.put_string-requires
put_string-requires g c = name_fits c.args.topic.now c.as_str.result.now c.as_str.ensures c.requires.fits

pub put_count-requires : goal.put_count-requires
put_count-requires g c = entries_fit c.args.topic.now c.len.result c.len.ensures c.requires.fits

pub returns-clause-meets : goal.returns-clause-meets
returns-clause-meets g c =
    let log = g.L.PartitionLog.log in
    let disk = g.S.Store.disk in
    let a = scene log disk c.args.parts.now c.args.shelf.now in
    let b = scene log disk c.serve_entries.new.parts c.serve_entries.new.shelf in
    let p = progress a.state.world c.args.touched.now.items in
    let topic = c.args.topic.now in
    let terms = c.args.terms in
    let named_so = c.topic_named-instance.ensures a.disk.files ∙ ap (λ n. named n a.state.world.known.topics) c.as_str-2.ensures in
    on_ok_weaker c.serve_entries.result
    (meets_so a b _ _ (topic_told terms.has_starts terms.due terms.bytes terms.refusal c.topic_named-instance.result p topic c.as_str.result.now c.as_slice.result.now c.len.result
    c.args.sink.now.bytes c.put_string.new.sink.bytes c.put_count.new.sink.bytes _
    c.as_str.ensures c.as_slice.ensures c.len.ensures named_so c.in_ok-put_string.ensures.bytes c.in_ok-put_count.ensures.bytes))
    c.serve_entries.ensures.meets

pub returns-clause-told : goal.returns-clause-told
returns-clause-told g c =
    let log = g.L.PartitionLog.log in
    let disk = g.S.Store.disk in
    let a = scene log disk c.args.parts.now c.args.shelf.now in
    let b = scene log disk c.serve_entries.new.parts c.serve_entries.new.shelf in
    let p = progress a.state.world c.args.touched.now.items in
    let q = progress b.state.world c.serve_entries.new.touched.items in
    let terms = c.args.terms in
    let named_so = c.topic_named-instance.ensures a.disk.files ∙ ap (λ n. named n a.state.world.known.topics) c.as_str-2.ensures in
    on_ok_weaker c.serve_entries.result
    (λ told before now next since until later honest agree. topic_told_so (FailedBy before now next) terms.has_starts terms.due terms.bytes terms.refusal c.topic_named-instance.result p q c.args.topic.now c.as_str.result.now c.as_slice.result.now c.len.result
    c.args.sink.now.bytes c.put_string.new.sink.bytes c.put_count.new.sink.bytes c.serve_entries.new.sink.bytes
    c.as_str.ensures c.as_slice.ensures c.len.ensures named_so c.in_ok-put_string.ensures.bytes c.in_ok-put_count.ensures.bytes (told before now next since until later honest agree))
    c.serve_entries.ensures.told

pub returns-in_err-put_string-clause-put : goal.returns-in_err-put_string-clause-put
returns-in_err-put_string-clause-put g c =
    let err : IsErr c.from_residual.result = search rules in
    handed_on (length_due c.args.terms.due (topic_length c.args.terms.has_starts c.args.topic.now)) c.args.sink.now c.put_string.new.sink _ c.from_residual.result err
    (name_refused c.args.terms.has_starts c.args.terms.due c.args.topic.now c.as_str.result.now c.args.sink.now c.put_string.new.sink _ c.as_str.ensures c.in_err-put_string.ensures.put)

pub returns-in_err-put_count-clause-put : goal.returns-in_err-put_count-clause-put
returns-in_err-put_count-clause-put g c =
    let err : IsErr c.from_residual-in_err-put_count.result = search rules in
    handed_on (length_due c.args.terms.due (topic_length c.args.terms.has_starts c.args.topic.now)) c.args.sink.now c.put_count.new.sink _ c.from_residual-in_err-put_count.result err
    (count_refused c.args.terms.has_starts c.args.terms.due c.args.topic.now c.as_str.result.now c.args.sink.now c.put_string.new.sink c.put_count.new.sink _ c.as_str.ensures c.in_ok-put_string.ensures.put c.in_err-put_count.ensures.put)

pub returns-clause-put : goal.returns-clause-put
returns-clause-put g c =
    topic_put c.args.terms.has_starts c.args.terms.due c.args.topic.now c.as_str.result.now c.as_slice.result.now c.args.sink.now c.put_string.new.sink c.put_count.new.sink c.serve_entries.new.sink c.serve_entries.result
    c.as_str.ensures c.as_slice.ensures c.in_ok-put_string.ensures.put c.in_ok-put_count.ensures.put c.serve_entries.ensures.put
