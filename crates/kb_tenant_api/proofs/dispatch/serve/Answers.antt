use Rattle.std.proofs.Common.{ap, subst, sym}
use Rattle.kb_tenant_state.specs.Parts.{scene}
use Rattle.kb_tenant_state.specs.Scene.{WhereHonest}
use Rattle.kb_tenant_state.specs.Steps.{IsStep}
use Rattle.kb_tenant_state.specs.Told.{IsLogFull}
use Rattle.kb_tenant.specs.Told.{HasFailed}
use Rattle.kb_tenant_api.specs.Acknowledged.{IsTruthful}
use Rattle.kb_tenant_state.proofs.Lifted.{refused_step}
use Rattle.kb_tenant_api.proofs.Answered.{told_on}
use Rattle.kb_tenant_api.proofs.Deleting.{answered_groups, refused_groups}
use Rattle.kb_tenant_api.proofs.dispatch.serve.Goals as goal

pub returns-in-Ok-clause-told : goal.returns-in-Ok-clause-told
returns-in-Ok-clause-told g c = λ honest agree.
    told_on _ _ _ _ _ _ _ _ _ _ _ _ _ _ _ _ _ (ap (λ x. x.items) c.served_with.ensures.touched) c.served_with.ensures.answer (c.in-Ok.ensures.told honest agree)

pub returns-in-Err-Wire-clause-told : goal.returns-in-Err-Wire-clause-told
returns-in-Err-Wire-clause-told g c = λ honest agree.
    told_on _ _ _ _ _ _ _ _ _ _ _ _ _ _ _ _ _ (ap (λ x. x.items) c.served_with-in-Err-Wire.ensures.touched) c.served_with-in-Err-Wire.ensures.answer
    (c.in-Err-Wire.ensures.told honest agree)

pub returns-in-Err-Memory-clause-told : goal.returns-in-Err-Memory-clause-told
returns-in-Err-Memory-clause-told g c =
    let log = g.L.PartitionLog.log in
    let disk = g.S.Store.disk in
    let shelf = c.serve_by_key.new.shelf in
    let a = scene log disk c.args.parts.now c.args.shelf.now in
    let b = scene log disk c.serve_by_key.new.parts shelf in
    let r = c.args.request.now in
    let out = c.served_with-in-Err-Memory.result in
    let told : WhereHonest a b (IsTruthful (HasFailed a b) (IsLogFull b) c.args.node.now c.args.clock r.connection r.api_key r.api_version
    r.correlation_id r.body.now a.state.world c.args.groups.now b.state.world c.serve_by_key.new.groups out.touched.items out.answer) = λ honest agree.
    told_on _ _ _ _ _ _ _ _ _ _ _ _ _ _ _ _ _ (ap (λ x. x.items) c.served_with-in-Err-Memory.ensures.touched)
    c.served_with-in-Err-Memory.ensures.answer (c.in-Err-Memory.ensures.told honest agree) in
    subst (λ p. let d = scene log disk p shelf in WhereHonest a d (IsTruthful (HasFailed a d) (IsLogFull d) c.args.node.now c.args.clock
    r.connection r.api_key r.api_version r.correlation_id r.body.now a.state.world c.args.groups.now d.state.world c.serve_by_key.new.groups
    out.touched.items out.answer)) (sym c.refuse.ensures) told

pub returns-in-Err-Memory-clause-step : goal.returns-in-Err-Memory-clause-step
returns-in-Err-Memory-clause-step g c =
    let log = g.L.PartitionLog.log in
    let disk = g.S.Store.disk in
    let a = scene log disk c.args.parts.now c.args.shelf.now in
    let after = c.serve_by_key.new.shelf in
    subst (λ p. IsStep a (scene log disk p after)) (sym c.refuse.ensures)
    (refused_step log a c.serve_by_key.new.parts (disk after.store) after.next c.in-Err-Memory.ensures.step)

pub returns-in-Ok-clause-groups : goal.returns-in-Ok-clause-groups
returns-in-Ok-clause-groups g c =
    answered_groups c.args.request.now.api_key c.args.groups.now _ c.serve_by_key.new.groups _ _ c.served_with.ensures.answer c.in-Ok.ensures.groups

pub returns-in-Err-Wire-clause-groups : goal.returns-in-Err-Wire-clause-groups
returns-in-Err-Wire-clause-groups g c =
    refused_groups c.args.request.now.api_key c.args.groups.now _ c.serve_by_key.new.groups _ c.in-Err-Wire.field-0 c.served_with-in-Err-Wire.ensures.answer
    c.in-Err-Wire.ensures.groups

pub returns-in-Err-Memory-clause-groups : goal.returns-in-Err-Memory-clause-groups
returns-in-Err-Memory-clause-groups g c =
    refused_groups c.args.request.now.api_key c.args.groups.now _ c.serve_by_key.new.groups _ c.in-Err-Memory.field-0
    c.served_with-in-Err-Memory.ensures.answer c.in-Err-Memory.ensures.groups
