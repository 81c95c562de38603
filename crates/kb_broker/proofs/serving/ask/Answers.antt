use Rattle.kb_isolation_spec.specs.Greeting.{node_of}
use Rattle.std.proofs.Common.{subst, sym, ◌∙◌}
use Rattle.kb_tenant_api.specs.Hosted.{kept_of}
use Rattle.kb_tenant_api.specs.Serve.{IsOutcome, served}
use Rattle.kb_tenant.specs.Told.{FailedBy}
use Rattle.kb_tenants.specs.Tenants.{shelf_is_honest, IsCatalogFull}
use Rattle.kb_broker.specs.Hosts.{tenants_in}
use Rattle.kb_broker.proofs.TenantTurns.{answered-now, asked-on, released-now, touched-now}
use Rattle.kb_broker.specs.Places.{IsTrueAnswer}
use Rattle.kb_broker.proofs.Counted.{later-called}
use Rattle.kb_broker.proofs.serving.ask.Goals as goal

pub returns-then-released-clause-meets : goal.returns-then-released-clause-meets
returns-then-released-clause-meets g c = λ honest calm.
    let a = c.args in
    let q = a.request.now in
    let k = kept_of (tenants_in g.L.PartitionLog.log g.S.Store.disk a.tenants.now) a.tenant in
    let l = kept_of (tenants_in g.L.PartitionLog.log g.S.Store.disk c.serve-answer.new.self) a.tenant in
    let r = c.serve-answer.result in
    answered-now (node_of a.setup.now a.tenant) k l a.clock q.connection q.correlation_id q.api_key q.api_version q.body.now r.touched.items r.answer
    (subst (λ n. IsOutcome q.correlation_id (served n k.world a.clock k.groups q.connection q.api_key q.api_version q.body.now) l.world l.groups r.touched.items r.answer) c.node-node.ensures.node (c.serve-answer.ensures.meets honest calm))

pub returns-then-released-clause-asked : goal.returns-then-released-clause-asked
returns-then-released-clause-asked g c = λ honest.
    let a = c.args in
    let q = a.request.now in
    let r = c.serve-answer.result in
    asked-on g.L.PartitionLog.log g.S.Store.disk (shelf_is_honest g.S.Store.disk c.serve-answer.new.self) honest a.tenants.now (c.serve-answer.ensures.honest honest) c.node-node.result (tenants_in g.L.PartitionLog.log g.S.Store.disk c.serve-answer.new.self) a.clock a.tenant q.connection q.correlation_id q.api_key q.api_version q.body.now r.touched.items r.answer c.requires.hosted c.serve-answer.ensures.turn c.serve-answer.ensures.meets

pub returns-then-released-clause-touched : goal.returns-then-released-clause-touched
returns-then-released-clause-touched g c = λ honest.
    let a = c.args in
    let q = a.request.now in
    let r = c.serve-answer.result in
    let calm = c.serve-answer.ensures.calm c.if-refused.false in
    released-now g.L.PartitionLog.log g.S.Store.disk (shelf_is_honest g.S.Store.disk c.serve-answer.new.self) honest c.node-node.result a.tenants.now (tenants_in g.L.PartitionLog.log g.S.Store.disk c.serve-answer.new.self) a.clock a.tenant q.connection q.correlation_id q.api_key q.api_version q.body.now r.touched.items r.answer c.requires.hosted c.serve-answer.ensures.meets calm (sym c.serve-answer.ensures.released ∙ c.if-released.true)

pub returns-else-released-clause-meets : goal.returns-else-released-clause-meets
returns-else-released-clause-meets g c = λ honest calm.
    let a = c.args in
    let q = a.request.now in
    let k = kept_of (tenants_in g.L.PartitionLog.log g.S.Store.disk a.tenants.now) a.tenant in
    let l = kept_of (tenants_in g.L.PartitionLog.log g.S.Store.disk c.serve-answer.new.self) a.tenant in
    let r = c.serve-answer.result in
    answered-now (node_of a.setup.now a.tenant) k l a.clock q.connection q.correlation_id q.api_key q.api_version q.body.now r.touched.items r.answer
    (subst (λ n. IsOutcome q.correlation_id (served n k.world a.clock k.groups q.connection q.api_key q.api_version q.body.now) l.world l.groups r.touched.items r.answer) c.node-node.ensures.node (c.serve-answer.ensures.meets honest calm))

pub returns-else-released-clause-asked : goal.returns-else-released-clause-asked
returns-else-released-clause-asked g c = λ honest.
    let a = c.args in
    let q = a.request.now in
    let r = c.serve-answer.result in
    asked-on g.L.PartitionLog.log g.S.Store.disk (shelf_is_honest g.S.Store.disk c.serve-answer.new.self) honest a.tenants.now (c.serve-answer.ensures.honest honest) c.node-node.result (tenants_in g.L.PartitionLog.log g.S.Store.disk c.serve-answer.new.self) a.clock a.tenant q.connection q.correlation_id q.api_key q.api_version q.body.now r.touched.items r.answer c.requires.hosted c.serve-answer.ensures.turn c.serve-answer.ensures.meets

pub returns-else-released-clause-touched : goal.returns-else-released-clause-touched
returns-else-released-clause-touched g c = λ honest.
    let a = c.args in
    let q = a.request.now in
    let r = c.serve-answer.result in
    let calm = c.serve-answer.ensures.calm c.if-refused.false in
    touched-now g.L.PartitionLog.log g.S.Store.disk (shelf_is_honest g.S.Store.disk c.serve-answer.new.self) honest c.node-node.result a.tenants.now (tenants_in g.L.PartitionLog.log g.S.Store.disk c.serve-answer.new.self) a.clock a.tenant q.connection q.correlation_id q.api_key q.api_version q.body.now r.touched.items r.answer c.requires.hosted c.serve-answer.ensures.meets calm (sym c.serve-answer.ensures.released ∙ c.if-released.false)

pub returns-then-refused-clause-meets : goal.returns-then-refused-clause-meets
returns-then-refused-clause-meets g c = λ honest calm.
    let a = c.args in
    let q = a.request.now in
    let k = kept_of (tenants_in g.L.PartitionLog.log g.S.Store.disk a.tenants.now) a.tenant in
    let l = kept_of (tenants_in g.L.PartitionLog.log g.S.Store.disk c.serve-answer.new.self) a.tenant in
    let r = c.serve-answer.result in
    answered-now (node_of a.setup.now a.tenant) k l a.clock q.connection q.correlation_id q.api_key q.api_version q.body.now r.touched.items r.answer
    (subst (λ n. IsOutcome q.correlation_id (served n k.world a.clock k.groups q.connection q.api_key q.api_version q.body.now) l.world l.groups r.touched.items r.answer) c.node-node.ensures.node (c.serve-answer.ensures.meets honest calm))

pub returns-then-refused-clause-asked : goal.returns-then-refused-clause-asked
returns-then-refused-clause-asked g c = λ honest.
    let a = c.args in
    let q = a.request.now in
    let r = c.serve-answer.result in
    asked-on g.L.PartitionLog.log g.S.Store.disk (shelf_is_honest g.S.Store.disk c.serve-answer.new.self) honest a.tenants.now (c.serve-answer.ensures.honest honest) c.node-node.result (tenants_in g.L.PartitionLog.log g.S.Store.disk c.serve-answer.new.self) a.clock a.tenant q.connection q.correlation_id q.api_key q.api_version q.body.now r.touched.items r.answer c.requires.hosted c.serve-answer.ensures.turn c.serve-answer.ensures.meets

-- what is told of the answer
pub returns-then-released-clause-truthful : goal.returns-then-released-clause-truthful
returns-then-released-clause-truthful g c = λ honest.
    let a = c.args in
    let q = a.request.now in
    let log = g.L.PartitionLog.log in
    let disk = g.S.Store.disk in
    let us = c.serve-answer.new.self in
    let r = c.serve-answer.result in
    let failed = FailedBy (disk a.tenants.now.shelf.store).failures (disk us.shelf.store).failures us.shelf.next in
    (r.touched.items, subst (λ node. IsTrueAnswer failed (IsCatalogFull log us a.tenant) node a.clock q.connection q.api_key q.api_version q.correlation_id q.body.now (kept_of (tenants_in log disk a.tenants.now) a.tenant) (kept_of (tenants_in log disk us) a.tenant) r.touched.items r.answer) c.node-node.ensures.node (record { truthful = c.serve-answer.ensures.truthful honest; groups = c.serve-answer.ensures.groups honest }))

pub returns-else-released-clause-truthful : goal.returns-else-released-clause-truthful
returns-else-released-clause-truthful g c = λ honest.
    let a = c.args in
    let q = a.request.now in
    let log = g.L.PartitionLog.log in
    let disk = g.S.Store.disk in
    let us = c.serve-answer.new.self in
    let r = c.serve-answer.result in
    let failed = FailedBy (disk a.tenants.now.shelf.store).failures (disk us.shelf.store).failures us.shelf.next in
    (r.touched.items, subst (λ node. IsTrueAnswer failed (IsCatalogFull log us a.tenant) node a.clock q.connection q.api_key q.api_version q.correlation_id q.body.now (kept_of (tenants_in log disk a.tenants.now) a.tenant) (kept_of (tenants_in log disk us) a.tenant) r.touched.items r.answer) c.node-node.ensures.node (record { truthful = c.serve-answer.ensures.truthful honest; groups = c.serve-answer.ensures.groups honest }))

pub returns-then-refused-clause-truthful : goal.returns-then-refused-clause-truthful
returns-then-refused-clause-truthful g c = λ honest.
    let a = c.args in
    let q = a.request.now in
    let log = g.L.PartitionLog.log in
    let disk = g.S.Store.disk in
    let us = c.serve-answer.new.self in
    let r = c.serve-answer.result in
    let failed = FailedBy (disk a.tenants.now.shelf.store).failures (disk us.shelf.store).failures us.shelf.next in
    (r.touched.items, subst (λ node. IsTrueAnswer failed (IsCatalogFull log us a.tenant) node a.clock q.connection q.api_key q.api_version q.correlation_id q.body.now (kept_of (tenants_in log disk a.tenants.now) a.tenant) (kept_of (tenants_in log disk us) a.tenant) r.touched.items r.answer) c.node-node.ensures.node (record { truthful = c.serve-answer.ensures.truthful honest; groups = c.serve-answer.ensures.groups honest }))

pub returns-then-released-clause-later : goal.returns-then-released-clause-later
returns-then-released-clause-later g c =
    let s = c.serve-answer.ensures in
    later-called g.L.PartitionLog.log g.S.Store.disk c.args.tenants.now c.serve-answer.new.self c.args.tenant (shelf_is_honest g.S.Store.disk c.serve-answer.new.self) c.requires.tenant s.honest s.failures s.turn s.accounted s.strays s.left_alone

pub returns-else-released-clause-later : goal.returns-else-released-clause-later
returns-else-released-clause-later g c =
    let s = c.serve-answer.ensures in
    later-called g.L.PartitionLog.log g.S.Store.disk c.args.tenants.now c.serve-answer.new.self c.args.tenant (shelf_is_honest g.S.Store.disk c.serve-answer.new.self) c.requires.tenant s.honest s.failures s.turn s.accounted s.strays s.left_alone

pub returns-then-refused-clause-later : goal.returns-then-refused-clause-later
returns-then-refused-clause-later g c =
    let s = c.serve-answer.ensures in
    later-called g.L.PartitionLog.log g.S.Store.disk c.args.tenants.now c.serve-answer.new.self c.args.tenant (shelf_is_honest g.S.Store.disk c.serve-answer.new.self) c.requires.tenant s.honest s.failures s.turn s.accounted s.strays s.left_alone
