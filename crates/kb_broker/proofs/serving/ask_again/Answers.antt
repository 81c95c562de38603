use Rattle.std.proofs.Common.{⊎_elim, inl, inr, ap, ◌≡◌, FitsSigned, rules, subst, sym, w32}
use Rattle.std.proofs.lemmas.Int.{to_z-of_z}
use Rattle.kb_tenant_api.specs.Hosted.{kept_of, refusals_of}
use Rattle.kb_tenant_api.specs.Replies.{told_to}
use Rattle.kb_tenant.specs.Replies.{IsAnswer, Silent}
use Rattle.kb_tenant.specs.Serve.{looked}
use Rattle.kb_tenant.specs.Told.{AnswersLook, FailedBy}
use Rattle.kb_isolation_spec.specs.Tenant.{is_members, ready_for, ready}
use Rattle.kb_connection.specs.View.{awaited_of, wait_of}
use Rattle.kb_broker.specs.Hosts.{tenants_in}
use Rattle.kb_broker.specs.Places.{TellsAwaited}
use Rattle.kb_broker.proofs.TenantTurns.{calm-or, refused-answer}
use Rattle.kb_tenants.specs.Tenants.{shelf_is_honest}
use Rattle.kb_broker.proofs.Counted.{later-called, later-told}
use Rattle.kb_broker.proofs.serving.ask_again.Goals as goal

pub returns-in-Records-clause-meets : goal.returns-in-Records-clause-meets
unfolding ready
returns-in-Records-clause-meets g c = λ honest calm.
    let a = c.args in
    let w = a.waiting.now in
    let f = c.in-Records in
    let k = kept_of (tenants_in g.L.PartitionLog.log g.S.Store.disk a.tenants.now) a.tenant in
    let fits : FitsSigned w32 w.head.correlation_id = search rules in
    let met = c.look.ensures.meets honest calm in
    (met.0, subst (λ x. IsAnswer w.head.correlation_id (ready_for k a.clock a.number (awaited_of x)) c.look.result) (sym f.is) (subst (λ z. IsAnswer z (looked k.world a.clock f.deadline f.fetch.version f.fetch.limit f.fetch.body) c.look.result) (to_z-of_z w32 w.head.correlation_id fits) met.1))

pub returns-in-Group-clause-meets : goal.returns-in-Group-clause-meets
unfolding ready
returns-in-Group-clause-meets g c = λ honest calm.
    let a = c.args in
    let w = a.waiting.now in
    let k = kept_of (tenants_in g.L.PartitionLog.log g.S.Store.disk a.tenants.now) a.tenant in
    let fits : FitsSigned w32 w.head.correlation_id = search rules in
    let met = c.tell.ensures.meets honest calm in
    (met.0, subst (λ x. IsAnswer w.head.correlation_id (ready_for k a.clock a.number (awaited_of x)) c.tell.result) (sym c.in-Group.is) (subst (λ z. IsAnswer z (told_to a.number k.groups) c.tell.result) (to_z-of_z w32 w.head.correlation_id fits) met.1))

pub returns-in-Records-clause-answers : goal.returns-in-Records-clause-answers
returns-in-Records-clause-answers g c = λ honest.
    let t = c.args.tenant in
    let ts = tenants_in g.L.PartitionLog.log g.S.Store.disk c.args.tenants.now in
    let us = tenants_in g.L.PartitionLog.log g.S.Store.disk c.look.new.self in
    calm-or (refusals_of ts t) (refusals_of us t)
    (λ calm. inl (returns-in-Records-clause-meets g c honest calm).1)
    (λ loud. refused-answer t c.args.clock c.args.number ts us (wait_of c.args.waiting.now) c.look.result
    (ap (λ x. is_members (awaited_of x)) c.in-Records.is) loud (c.look.ensures.answered loud))

pub returns-in-Group-clause-answers : goal.returns-in-Group-clause-answers
unfolding ready
returns-in-Group-clause-answers g c = λ honest.
    let a = c.args in
    let w = a.waiting.now in
    let k = kept_of (tenants_in g.L.PartitionLog.log g.S.Store.disk a.tenants.now) a.tenant in
    let fits : FitsSigned w32 w.head.correlation_id = search rules in
    ⊎_elim
    (λ says. inl (subst (λ x. IsAnswer w.head.correlation_id (ready_for k a.clock a.number (awaited_of x)) c.tell.result) (sym c.in-Group.is) (subst (λ z. IsAnswer z (told_to a.number k.groups) c.tell.result) (to_z-of_z w32 w.head.correlation_id fits) says)))
    (λ gone. inr (inl (gone.0, λ own none. gone.1 (subst (λ x. ready_for k a.clock a.number (awaited_of x) ≡ Silent) c.in-Group.is none))))
    c.tell.ensures.answers

pub returns-in-Records-clause-told : goal.returns-in-Records-clause-told
returns-in-Records-clause-told g c = λ honest.
    let a = c.args in
    let w = a.waiting.now in
    let f = c.in-Records in
    let disk = g.S.Store.disk in
    let shelf = c.look.new.self.shelf in
    let k = kept_of (tenants_in g.L.PartitionLog.log disk a.tenants.now) a.tenant in
    let r = c.look.result in
    let failed = FailedBy (disk a.tenants.now.shelf.store).failures (disk shelf.store).failures shelf.next in
    let fits : FitsSigned w32 w.head.correlation_id = search rules in
    let told = subst (λ z. AnswersLook failed z f.fetch.version f.fetch.limit k.world a.clock f.deadline f.fetch.body r) (to_z-of_z w32 w.head.correlation_id fits) (c.look.ensures.told honest) in
    subst (λ x. TellsAwaited failed w.head.correlation_id a.clock k (awaited_of x) r) (sym f.is) told

pub returns-in-Group-clause-told : goal.returns-in-Group-clause-told
returns-in-Group-clause-told g c = λ honest.
    let a = c.args in
    let disk = g.S.Store.disk in
    let shelf = c.tell.new.self.shelf in
    let k = kept_of (tenants_in g.L.PartitionLog.log disk a.tenants.now) a.tenant in
    let failed = FailedBy (disk a.tenants.now.shelf.store).failures (disk shelf.store).failures shelf.next in
    subst (λ x. TellsAwaited failed a.waiting.now.head.correlation_id a.clock k (awaited_of x) c.tell.result) (sym c.in-Group.is) tt

pub returns-in-Records-clause-later : goal.returns-in-Records-clause-later
returns-in-Records-clause-later g c =
    let s = c.look.ensures in
    later-called g.L.PartitionLog.log g.S.Store.disk c.args.tenants.now c.look.new.self c.args.tenant (shelf_is_honest g.S.Store.disk c.look.new.self) c.requires.tenant s.honest s.failures s.turn s.accounted s.strays s.left_alone

pub returns-in-Group-clause-later : goal.returns-in-Group-clause-later
returns-in-Group-clause-later g c =
    let s = c.tell.ensures in
    later-told g.L.PartitionLog.log g.S.Store.disk c.args.tenants.now c.tell.new.self c.args.tenant (shelf_is_honest g.S.Store.disk c.tell.new.self) c.requires.tenant s.turn s.accounted s.strays s.shelf
