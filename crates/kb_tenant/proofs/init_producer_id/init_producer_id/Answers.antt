use Rattle.std.proofs.Common.{◌∙◌, ap, ◌++◌, inl, inr, ⊎_elim}
use Rattle.std.proofs.lemmas.Result.{on_ok_weaker}
use Rattle.kb_api_data.specs.Layouts.{init_producer_id_reply}
use Rattle.kb_api_data.specs.declared.init_producer_id.InitProducerIdReply.{InitProducerIdReply}
use Rattle.kb_store.proofs.Seen.{on_err}
use Rattle.kb_tenant_state.specs.Parts.{scene}
use Rattle.kb_tenant_state.specs.Scene.{WhereHonest}
use Rattle.kb_tenant_state.specs.World.{World}
use Rattle.kb_tenant.specs.Told.{IsIssueCut}
use Rattle.kb_tenant.proofs.Wanted.{issue_told_so}
use Rattle.kb_tenant.proofs.init_producer_id.init_producer_id.Goals as goal

pub returns-clause-meets : goal.returns-clause-meets
returns-clause-meets g c = on_ok_weaker c.write.result (λ wrote honest agree calm.
    let given = c.give_id.ensures.meets honest agree calm in
    (ap (λ (r : World × InitProducerIdReply). r.0) given, wrote ∙ ap (λ (r : World × InitProducerIdReply). c.args.sink.now.bytes ++ init_producer_id_reply.written r.1) given)) c.write.ensures.ok

pub returns-clause-told : goal.returns-clause-told
returns-clause-told g c =
    let log = g.L.PartitionLog.log in
    let disk = g.S.Store.disk in
    let a = scene log disk c.args.parts.now c.args.shelf.now in
    let b = scene log disk c.give_id.new.parts c.give_id.new.shelf in
    on_ok_weaker c.write.result (λ wrote honest agree.
    (c.give_id.result, (wrote, issue_told_so a b c.args.request.now c.give_id.result c.give_id.ensures.step c.give_id.ensures.told honest agree))) c.write.ensures.ok

pub returns-clause-cut : goal.returns-clause-cut
returns-clause-cut g c =
    let log = g.L.PartitionLog.log in
    let disk = g.S.Store.disk in
    let a = scene log disk c.args.parts.now c.args.shelf.now in
    let b = scene log disk c.give_id.new.parts c.give_id.new.shelf in
    let is : WhereHonest a b (IsIssueCut a.state.world c.args.request.now b.state.world) = λ honest agree.
    ⊎_elim (λ done. inr (ap (λ (r : World × InitProducerIdReply). r.0) (done.met honest agree))) (λ refused. inl (refused.stays honest agree))
    c.give_id.ensures.told in
    on_err _ is
