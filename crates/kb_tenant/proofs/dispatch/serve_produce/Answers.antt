use Rattle.std.proofs.Common.{rules, ◌≡◌, ◌∙◌, ◌++◌, [], true, Ok, ap, sym, subst}
use Rattle.std.specs.Prelude.{if◌then◌else◌}
use Rattle.kb_tenant_state.specs.Parts.{scene, world_of}
use Rattle.kb_tenant.specs.Produce.{is_due, produced, produced_in, reply_bytes, reply_written, tells_starts, where_due}
use Rattle.kb_tenant.specs.Replies.{begun, IsAnswer, Replies, Silent}
use Rattle.kb_tenant.specs.Serve.{if_read, of_produce, IsServed}
use Rattle.kb_tenant.specs.Told.{HasFailed, IsAcknowledged}
use Rattle.kb_tenant.proofs.Acknowledging.{acknowledged_by, spared_by}
use Rattle.kb_tenant.proofs.dispatch.serve_produce.Goals as goal

pub returns-clause-meets : goal.returns-clause-meets
returns-clause-meets g c = λ honest agree calm.
    let w = world_of g.L.PartitionLog.log c.args.parts.now (g.S.Store.disk c.args.shelf.now.store).files in
    let v = world_of g.L.PartitionLog.log c.produce.new.parts (g.S.Store.disk c.produce.new.shelf.store).files in
    let asked = c.in_ok-asked.asked in
    let id = c.args.request.now.correlation_id in
    let version = c.args.request.now.api_version in
    let limit = c.args.limits.bytes in
    let starts = c.tells_starts-has_starts.result in
    let old = c.in_ok-sink.sink.bytes in
    let new = c.produce.new.sink.bytes in
    let places = c.produce.new.touched.items in
    let from : old ≡ begun id = search rules in
    let due : is_due asked.acks ≡ true = search rules in
    let form : starts ≡ tells_starts version = search rules in
    let p = produced limit w [] asked in
    let met : (v ≡ p.0.world) × (places ≡ p.0.touched) × (new ≡ old ++ reply_bytes starts asked.acks p.1) =
    subst (λ before. let r = produced limit w before asked in (v ≡ r.0.world) × (places ≡ r.0.touched) × (new ≡ old ++ reply_bytes starts asked.acks r.1)) c.requires.untouched
    (c.in_ok-produce.ensures.meets honest agree calm) in
    let bytes : new ≡ begun id ++ produced_in version p.1 =
    met.2 ∙ ap (λ d. old ++ where_due d (reply_written starts p.1)) due ∙ ap (λ f. old ++ reply_written f p.1) form
    ∙ ap (λ b. b ++ produced_in version p.1) from in
    subst (λ x. IsServed id (if_read w x (of_produce version limit w)) v places (Ok c.finish.result)) (sym c.in_ok-asked.ensures.exact)
    (met.0, met.1, subst (λ d. IsAnswer id (if d then Replies (produced_in version p.1) else Silent) c.finish.result) (sym due) (c.finish.ensures id (produced_in version p.1) bytes))

pub returns-clause-acknowledged : goal.returns-clause-acknowledged
returns-clause-acknowledged g c = λ honest agree r read.
    let w = world_of g.L.PartitionLog.log c.args.parts.now (g.S.Store.disk c.args.shelf.now.store).files in
    let v = world_of g.L.PartitionLog.log c.produce.new.parts (g.S.Store.disk c.produce.new.shelf.store).files in
    let asked = c.in_ok-asked.asked in
    let id = c.args.request.now.correlation_id in
    let both : Ok asked ≡ Ok r = sym c.in_ok-asked.ensures.spelled ∙ read in
    let same : asked ≡ r = cc in
    let from : c.in_ok-sink.sink.bytes ≡ begun id = search rules in
    let due : is_due asked.acks ≡ true = search rules in
    let form : c.tells_starts-has_starts.result ≡ tells_starts c.args.request.now.api_version = search rules in
    let a = scene g.L.PartitionLog.log g.S.Store.disk c.args.parts.now c.args.shelf.now in
    let b = scene g.L.PartitionLog.log g.S.Store.disk c.produce.new.parts c.produce.new.shelf in
    let failed = HasFailed a b in
    subst (λ x. IsAcknowledged failed c.args.limits.bytes id c.args.request.now.api_version w x v c.produce.new.touched.items c.finish.result) same
    (acknowledged_by failed c.args.limits.bytes c.tells_starts-has_starts.result id c.args.request.now.api_version w asked v c.args.touched.now.items c.produce.new.touched.items c.in_ok-sink.sink.bytes c.produce.new.sink.bytes c.finish.result from due c.requires.untouched form (c.in_ok-produce.ensures.told honest agree) c.finish.ensures)

pub returns-clause-shut : goal.returns-clause-shut
returns-clause-shut g c =
    let w = world_of g.L.PartitionLog.log c.args.parts.now (g.S.Store.disk c.args.shelf.now.store).files in
    let v = world_of g.L.PartitionLog.log c.produce.new.parts (g.S.Store.disk c.produce.new.shelf.store).files in
    let asked = c.in_ok-asked.asked in
    let id = c.args.request.now.correlation_id in
    let from : c.in_ok-sink.sink.bytes ≡ begun id = search rules in
    let due : is_due asked.acks ≡ true = search rules in
    let form : c.tells_starts-has_starts.result ≡ tells_starts c.args.request.now.api_version = search rules in
    spared_by c.tells_starts-has_starts.result id c.args.request.now.api_version w c.args.request.now.body.now asked v c.in_ok-sink.sink.bytes c.produce.new.sink.bytes c.finish.result from due c.in_ok-asked.ensures.spelled form c.in_ok-produce.ensures.longer c.finish.ensures
