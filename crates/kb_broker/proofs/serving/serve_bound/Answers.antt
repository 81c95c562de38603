use Rattle.kb_isolation_spec.specs.Greeting.{node_of}
use Rattle.std.proofs.Common.{arith, inl, inr, refl, sym, true, ◌≡◌, ap, subst}
use Rattle.std.specs.Prelude.{IfNone, IfSome}
use Rattle.std.specs.FinMap as fin
use Rattle.kb_tenant_api.specs.Hosted.{kept_of, nothing}
use Rattle.kb_tenant_api.specs.Turns.{IsMet}
use Rattle.kb_tenant_api.specs.Replies.{IsAnswer, Rebalances}
use Rattle.kb_tenant_api.specs.Waiters.{AreServed, IsWaitTold}
use Rattle.kb_tenant.specs.declared.request.Request.{Request}
use Rattle.kb_isolation_spec.specs.Machine.{Line}
use Rattle.kb_isolation_spec.specs.Tenant.{reaction_to, kept_after}
use Rattle.kb_isolation_spec.specs.Session.{in_front}
use Rattle.kb_connection.specs.Fronts.{IsAsked, IsOwn, head_at}
use Rattle.kb_tenant.specs.Told.{FailedBy}
use Rattle.kb_tenants.specs.Tenants.{shelf_is_honest, IsCatalogFull, numbers_in}
use Rattle.kb_broker.specs.Hosts.{tenants_in}
use Rattle.kb_broker.specs.Places.{IsTrueAnswer}
use Rattle.kb_broker.proofs.TenantTurns.{member-told, spent-shut, spent-served, asked-now}
use Rattle.kb_broker.proofs.Served.{dated-none, keyed-answered, keyed-none, owned-none, owned-shut, own-free, own-touched, turned-touched}
use Rattle.kb_broker.proofs.PutOut.{told-asked, told-own, told-shut}
use Rattle.kb_tenants.specs.Counts.{all_counts}
use Rattle.kb_broker.proofs.Honest.{later-none}
use Rattle.kb_broker.proofs.serving.serve_bound.Goals as goal

pub returns-in_err-serve-in-Ok-None-clause-spent : goal.returns-in_err-serve-in-Ok-None-clause-spent
returns-in_err-serve-in-Ok-None-clause-spent g c = spent-shut c.args.connection.now c.serve.new.self c.requires.able c.in_err-serve-in-Ok-None.ensures.err

pub returns-in-Ok-None-clause-number : goal.returns-in-Ok-None-clause-number
returns-in-Ok-None-clause-number g c = ap (λ (x : Line). x.number) (c.in_ok-serve-in-Ok-None.ensures.ok 0 nothing 0 0)

pub returns-in-Ok-None-clause-spent : goal.returns-in-Ok-None-clause-spent
returns-in-Ok-None-clause-spent g c = spent-served c.serve.result c.args.setup.now c.args.connection.now c.serve.new.self c.requires.able c.serve.ensures.ok c.serve.ensures.err

pub returns-in-Ok-None-clause-dated : goal.returns-in-Ok-None-clause-dated
returns-in-Ok-None-clause-dated g c =
    let a = c.args in
    let own = subst (λ found. IfNone found (IsOwn a.setup.now a.connection.now.session)) c.in-Ok-None.field-0-is c.in-Ok-None.ensures.none in
    dated-none (fin.get a.parking.now a.connection.now.number) c.serve.new.self.session.stage c.requires.free (own-free a.setup.now a.tenant a.connection.now c.serve.new.self c.requires.bound own c.in_ok-serve-in-Ok-None.ensures.ok)

pub returns-in_err-serve-in-Ok-None-clause-owned : goal.returns-in_err-serve-in-Ok-None-clause-owned
returns-in_err-serve-in-Ok-None-clause-owned g c = owned-shut c.args.connection.now c.serve.new.self (fin.get c.args.parking.now c.args.connection.now.number) c.in_err-serve-in-Ok-None.ensures.err

pub returns-in-Ok-None-clause-owned : goal.returns-in-Ok-None-clause-owned
returns-in-Ok-None-clause-owned g c =
    let a = c.args in
    let own = subst (λ found. IfNone found (IsOwn a.setup.now a.connection.now.session)) c.in-Ok-None.field-0-is c.in-Ok-None.ensures.none in
    owned-none c.serve.new.self.session.stage (fin.get a.parking.now a.connection.now.number) (own-free a.setup.now a.tenant a.connection.now c.serve.new.self c.requires.bound own c.in_ok-serve-in-Ok-None.ensures.ok)

pub returns-in-Err-clause-owned : goal.returns-in-Err-clause-owned
returns-in-Err-clause-owned g c = owned-shut c.args.connection.now c.shut_down.new.self (fin.get c.args.parking.now c.args.connection.now.number) c.shut_down.ensures

pub returns-in-Ok-None-clause-keyed : goal.returns-in-Ok-None-clause-keyed
returns-in-Ok-None-clause-keyed g c = λ honest.
    let a = c.args in
    let own = subst (λ found. IfNone found (IsOwn a.setup.now a.connection.now.session)) c.in-Ok-None.field-0-is c.in-Ok-None.ensures.none in
    keyed-none (tenants_in g.L.PartitionLog.log g.S.Store.disk a.tenants.now) a.connection.now.number c.serve.new.self.session.stage (fin.get a.parking.now a.connection.now.number) (own-free a.setup.now a.tenant a.connection.now c.serve.new.self c.requires.bound own c.in_ok-serve-in-Ok-None.ensures.ok)

pub returns-in-Ok-None-clause-touched : goal.returns-in-Ok-None-clause-touched
returns-in-Ok-None-clause-touched g c = λ honest.
    let a = c.args in
    let own = subst (λ found. IfNone found (IsOwn a.setup.now a.connection.now.session)) c.in-Ok-None.field-0-is c.in-Ok-None.ensures.none in
    own-touched a.setup.now a.tenant a.clock a.connection.now.number (tenants_in g.L.PartitionLog.log g.S.Store.disk a.tenants.now) a.connection.now c.serve.new.self c.new.result.items c.requires.bound own c.in_ok-serve-in-Ok-None.ensures.ok

pub returns-in-Err-clause-spent : goal.returns-in-Err-clause-spent
returns-in-Err-clause-spent g c = spent-shut c.args.connection.now c.shut_down.new.self c.requires.able c.shut_down.ensures

pub returns-clause-ok : goal.returns-clause-ok
returns-clause-ok g c = λ honest calm.
    let a = c.args in
    let q = c.in-Ok-Some.request in
    let s = a.connection.now.session in
    let h = head_at a.setup.now.versions (in_front s) in
    let asked = subst (λ found. IfSome found (λ (r : Request). IsAsked a.setup.now s r.api_key r.api_version h r.body.now)) c.in-Ok-Some.field-0-is c.in-Ok-Some.ensures.asked in
    let numbered : q.correlation_id ≡ h.correlation_id = subst (λ found. IfSome found (λ (r : Request). r.correlation_id ≡ h.correlation_id)) c.in-Ok-Some.field-0-is c.in-Ok-Some.ensures.numbered in
    let same : q.connection ≡ a.connection.now.number = subst (λ found. IfSome found (λ (r : Request). r.connection ≡ a.connection.now.number)) c.in-Ok-Some.field-0-is c.in-Ok-Some.ensures.number in
    let meets = subst (λ n. IsMet a.tenant (shelf_is_honest g.S.Store.disk c.ask.new.tenants) (tenants_in g.L.PartitionLog.log g.S.Store.disk a.tenants.now) (tenants_in g.L.PartitionLog.log g.S.Store.disk c.ask.new.tenants)
    (λ k l. (l ≡ kept_after (node_of a.setup.now a.tenant) k a.clock n q.api_key q.api_version q.body.now) × IsAnswer h.correlation_id (reaction_to (node_of a.setup.now a.tenant) k a.clock n q.api_key q.api_version q.body.now) c.ask.result.0)) same
    (subst (λ id. IsMet a.tenant (shelf_is_honest g.S.Store.disk c.ask.new.tenants) (tenants_in g.L.PartitionLog.log g.S.Store.disk a.tenants.now) (tenants_in g.L.PartitionLog.log g.S.Store.disk c.ask.new.tenants)
    (λ k l. (l ≡ kept_after (node_of a.setup.now a.tenant) k a.clock q.connection q.api_key q.api_version q.body.now) × IsAnswer id (reaction_to (node_of a.setup.now a.tenant) k a.clock q.connection q.api_key q.api_version q.body.now) c.ask.result.0)) numbered c.ask.ensures.meets) in
    let done = meets honest calm in
    asked-now a.setup.now a.tenant a.clock a.connection.now.number (kept_of (tenants_in g.L.PartitionLog.log g.S.Store.disk a.tenants.now) a.tenant) (kept_of (tenants_in g.L.PartitionLog.log g.S.Store.disk c.ask.new.tenants) a.tenant) a.connection.now c.hand_over.new.connection q.api_key q.api_version h q.body.now c.ask.result.0 asked done.0 done.1 c.in_ok-hand_over.ensures.ok

pub returns-clause-keyed : goal.returns-clause-keyed
returns-clause-keyed g c = λ honest.
    let a = c.args in
    let q = c.in-Ok-Some.request in
    let s = a.connection.now.session in
    let h = head_at a.setup.now.versions (in_front s) in
    let asked = subst (λ found. IfSome found (λ (r : Request). IsAsked a.setup.now s r.api_key r.api_version h r.body.now)) c.in-Ok-Some.field-0-is c.in-Ok-Some.ensures.asked in
    let numbered : q.correlation_id ≡ h.correlation_id = subst (λ found. IfSome found (λ (r : Request). r.correlation_id ≡ h.correlation_id)) c.in-Ok-Some.field-0-is c.in-Ok-Some.ensures.numbered in
    let same : q.connection ≡ a.connection.now.number = subst (λ found. IfSome found (λ (r : Request). r.connection ≡ a.connection.now.number)) c.in-Ok-Some.field-0-is c.in-Ok-Some.ensures.number in
    let meets = subst (λ n. IsMet a.tenant (shelf_is_honest g.S.Store.disk c.ask.new.tenants) (tenants_in g.L.PartitionLog.log g.S.Store.disk a.tenants.now) (tenants_in g.L.PartitionLog.log g.S.Store.disk c.ask.new.tenants)
    (λ k l. (l ≡ kept_after (node_of a.setup.now a.tenant) k a.clock n q.api_key q.api_version q.body.now) × IsAnswer h.correlation_id (reaction_to (node_of a.setup.now a.tenant) k a.clock n q.api_key q.api_version q.body.now) c.ask.result.0)) same
    (subst (λ id. IsMet a.tenant (shelf_is_honest g.S.Store.disk c.ask.new.tenants) (tenants_in g.L.PartitionLog.log g.S.Store.disk a.tenants.now) (tenants_in g.L.PartitionLog.log g.S.Store.disk c.ask.new.tenants)
    (λ k l. (l ≡ kept_after (node_of a.setup.now a.tenant) k a.clock q.connection q.api_key q.api_version q.body.now) × IsAnswer id (reaction_to (node_of a.setup.now a.tenant) k a.clock q.connection q.api_key q.api_version q.body.now) c.ask.result.0)) numbered c.ask.ensures.meets) in
    keyed-answered (shelf_is_honest g.S.Store.disk c.ask.new.tenants) honest a.setup.now a.tenant a.clock a.connection.now.number (tenants_in g.L.PartitionLog.log g.S.Store.disk a.tenants.now) (tenants_in g.L.PartitionLog.log g.S.Store.disk c.ask.new.tenants) a.connection.now c.hand_over.new.connection q.api_key q.api_version h q.body.now c.ask.result.0 (fin.get c.hand_over.new.parking a.connection.now.number) c.requires.bound c.hand_over.ensures.spent asked c.ask.ensures.turn meets c.in_ok-hand_over.ensures.ok c.in_ok-hand_over.ensures.keyed

pub returns-clause-touched : goal.returns-clause-touched
returns-clause-touched g c =
    let a = c.args in
    turned-touched (shelf_is_honest g.S.Store.disk c.ask.new.tenants) a.setup.now a.tenant a.clock a.connection.now.number (tenants_in g.L.PartitionLog.log g.S.Store.disk a.tenants.now) (tenants_in g.L.PartitionLog.log g.S.Store.disk c.ask.new.tenants) a.connection.now.session c.hand_over.new.connection.session c.ask.result.1 c.ask.ensures.touched (returns-clause-ok g c)

-- 2. Members that wait

pub returns-in_err-serve-in-Ok-None-clause-waits : goal.returns-in_err-serve-in-Ok-None-clause-waits
returns-in_err-serve-in-Ok-None-clause-waits g c = inr refl

pub returns-in-Ok-None-clause-waits : goal.returns-in-Ok-None-clause-waits
returns-in-Ok-None-clause-waits g c = inr refl

pub returns-in-Ok-None-clause-member : goal.returns-in-Ok-None-clause-member
returns-in-Ok-None-clause-member g c = inr (omega arith)

pub returns-in-Err-clause-waits : goal.returns-in-Err-clause-waits
returns-in-Err-clause-waits g c = inr refl

pub returns-clause-waits : goal.returns-clause-waits
returns-clause-waits g c =
    let a = c.args in
    let t = a.tenant in
    let same = subst (λ found. IfSome found (λ (r : Request). r.connection ≡ a.connection.now.number)) c.in-Ok-Some.field-0-is c.in-Ok-Some.ensures.number in
    inl (subst (λ n. AreServed n true (kept_of (tenants_in g.L.PartitionLog.log g.S.Store.disk a.tenants.now) t).groups (kept_of (tenants_in g.L.PartitionLog.log g.S.Store.disk c.ask.new.tenants) t).groups) same c.ask.ensures.waits)

pub returns-in_err-hand_over-clause-waits : goal.returns-in_err-hand_over-clause-waits
returns-in_err-hand_over-clause-waits g c =
    let a = c.args in
    let t = a.tenant in
    let same = subst (λ found. IfSome found (λ (r : Request). r.connection ≡ a.connection.now.number)) c.in-Ok-Some.field-0-is c.in-Ok-Some.ensures.number in
    inl (subst (λ n. AreServed n true (kept_of (tenants_in g.L.PartitionLog.log g.S.Store.disk a.tenants.now) t).groups (kept_of (tenants_in g.L.PartitionLog.log g.S.Store.disk c.ask.new.tenants) t).groups) same c.ask.ensures.waits)

pub returns-clause-member : goal.returns-clause-member
returns-clause-member g c =
    let a = c.args in
    let t = a.tenant in
    let q = c.in-Ok-Some.request in
    let s = a.connection.now.session in
    let h = head_at a.setup.now.versions (in_front s) in
    let asked = subst (λ found. IfSome found (λ (r : Request). IsAsked a.setup.now s r.api_key r.api_version h r.body.now)) c.in-Ok-Some.field-0-is c.in-Ok-Some.ensures.asked in
    let numbered : q.correlation_id ≡ h.correlation_id = subst (λ found. IfSome found (λ (r : Request). r.correlation_id ≡ h.correlation_id)) c.in-Ok-Some.field-0-is c.in-Ok-Some.ensures.numbered in
    let same = subst (λ found. IfSome found (λ (r : Request). r.connection ≡ a.connection.now.number)) c.in-Ok-Some.field-0-is c.in-Ok-Some.ensures.number in
    let told = subst (λ n. IsWaitTold n (kept_of (tenants_in g.L.PartitionLog.log g.S.Store.disk a.tenants.now) t).groups c.ask.result.0 (kept_of (tenants_in g.L.PartitionLog.log g.S.Store.disk c.ask.new.tenants) t).groups) same c.ask.ensures.told in
    member-told a.tenant a.connection.now c.hand_over.new.connection c.ask.result.0 h q.api_version q.body.now _ c.requires.bound
    (λ rebalance. c.in_ok-hand_over.ensures.ok q.api_key q.api_version h q.body.now Rebalances asked (subst (IsAnswer h.correlation_id Rebalances) (sym rebalance) tt)) told

-- 3. What is told

pub returns-in_err-serve-in-Ok-None-clause-told : goal.returns-in_err-serve-in-Ok-None-clause-told
returns-in_err-serve-in-Ok-None-clause-told g c = λ honest.
    let a = c.args in
    let us = a.tenants.now in
    let disk = g.S.Store.disk in
    let failures = (disk us.shelf.store).failures in
    told-shut (FailedBy failures failures us.shelf.next) (IsCatalogFull g.L.PartitionLog.log us) a.setup.now a.clock
    a.connection.now.number a.tenant (tenants_in g.L.PartitionLog.log disk us) a.connection.now c.serve.new.self
    c.in_err-serve-in-Ok-None.ensures.err

pub returns-in-Ok-None-clause-told : goal.returns-in-Ok-None-clause-told
returns-in-Ok-None-clause-told g c = λ honest.
    let a = c.args in
    let us = a.tenants.now in
    let disk = g.S.Store.disk in
    let ts = tenants_in g.L.PartitionLog.log disk us in
    let failures = (disk us.shelf.store).failures in
    let own = subst (λ found. IfNone found (IsOwn a.setup.now a.connection.now.session)) c.in-Ok-None.field-0-is
    c.in-Ok-None.ensures.none in
    told-own (FailedBy failures failures us.shelf.next) (IsCatalogFull g.L.PartitionLog.log us) a.setup.now a.clock
    a.connection.now.number a.tenant ts a.connection.now c.serve.new.self own
    (c.in_ok-serve-in-Ok-None.ensures.ok a.tenant (kept_of ts a.tenant) a.clock a.connection.now.number)

pub returns-in-Err-clause-told : goal.returns-in-Err-clause-told
returns-in-Err-clause-told g c = λ honest.
    let a = c.args in
    let us = a.tenants.now in
    let disk = g.S.Store.disk in
    let failures = (disk us.shelf.store).failures in
    told-shut (FailedBy failures failures us.shelf.next) (IsCatalogFull g.L.PartitionLog.log us) a.setup.now a.clock a.connection.now.number a.tenant (tenants_in g.L.PartitionLog.log disk us) a.connection.now c.shut_down.new.self c.shut_down.ensures

pub returns-clause-told : goal.returns-clause-told
returns-clause-told g c = λ honest.
    let a = c.args in
    let t = a.tenant in
    let q = c.in-Ok-Some.request in
    let s = a.connection.now.session in
    let us = c.ask.new.tenants in
    let log = g.L.PartitionLog.log in
    let disk = g.S.Store.disk in
    let ts = tenants_in log disk a.tenants.now in
    let failed = FailedBy (disk a.tenants.now.shelf.store).failures (disk us.shelf.store).failures us.shelf.next in
    let h = head_at a.setup.now.versions (in_front s) in
    let asked = subst (λ found. IfSome found (λ (r : Request). IsAsked a.setup.now s r.api_key r.api_version h r.body.now)) c.in-Ok-Some.field-0-is c.in-Ok-Some.ensures.asked in
    let numbered : q.correlation_id ≡ h.correlation_id = subst (λ found. IfSome found (λ (r : Request). r.correlation_id ≡ h.correlation_id)) c.in-Ok-Some.field-0-is c.in-Ok-Some.ensures.numbered in
    let same : q.connection ≡ a.connection.now.number = subst (λ found. IfSome found (λ (r : Request). r.connection ≡ a.connection.now.number)) c.in-Ok-Some.field-0-is c.in-Ok-Some.ensures.number in
    let truth = c.ask.ensures.truthful honest in
    let truthful = subst (λ n. IsTrueAnswer failed (IsCatalogFull log us t) (node_of a.setup.now a.tenant) a.clock n q.api_key q.api_version h.correlation_id q.body.now (kept_of ts t) (kept_of (tenants_in log disk us) t) truth.0 c.ask.result.0) same
    (subst (λ id. IsTrueAnswer failed (IsCatalogFull log us t) (node_of a.setup.now a.tenant) a.clock q.connection q.api_key q.api_version id q.body.now (kept_of ts t) (kept_of (tenants_in log disk us) t) truth.0 c.ask.result.0) numbered truth.1) in
    told-asked failed (IsCatalogFull log us) a.setup.now a.clock a.connection.now.number t ts (tenants_in log disk us) s c.hand_over.new.connection.session q.api_key q.api_version h q.body.now truth.0 c.ask.result.0 asked truthful (c.hand_over.ensures.output q.api_key q.api_version h q.body.now asked)

pub returns-in_err-hand_over-clause-told : goal.returns-in_err-hand_over-clause-told
returns-in_err-hand_over-clause-told g c = λ honest.
    let a = c.args in
    let t = a.tenant in
    let q = c.in-Ok-Some.request in
    let s = a.connection.now.session in
    let us = c.ask.new.tenants in
    let log = g.L.PartitionLog.log in
    let disk = g.S.Store.disk in
    let ts = tenants_in log disk a.tenants.now in
    let failed = FailedBy (disk a.tenants.now.shelf.store).failures (disk us.shelf.store).failures us.shelf.next in
    let h = head_at a.setup.now.versions (in_front s) in
    let asked = subst (λ found. IfSome found (λ (r : Request). IsAsked a.setup.now s r.api_key r.api_version h r.body.now)) c.in-Ok-Some.field-0-is c.in-Ok-Some.ensures.asked in
    let numbered : q.correlation_id ≡ h.correlation_id = subst (λ found. IfSome found (λ (r : Request). r.correlation_id ≡ h.correlation_id)) c.in-Ok-Some.field-0-is c.in-Ok-Some.ensures.numbered in
    let same : q.connection ≡ a.connection.now.number = subst (λ found. IfSome found (λ (r : Request). r.connection ≡ a.connection.now.number)) c.in-Ok-Some.field-0-is c.in-Ok-Some.ensures.number in
    let truth = c.ask.ensures.truthful honest in
    let truthful = subst (λ n. IsTrueAnswer failed (IsCatalogFull log us t) (node_of a.setup.now a.tenant) a.clock n q.api_key q.api_version h.correlation_id q.body.now (kept_of ts t) (kept_of (tenants_in log disk us) t) truth.0 c.ask.result.0) same
    (subst (λ id. IsTrueAnswer failed (IsCatalogFull log us t) (node_of a.setup.now a.tenant) a.clock q.connection q.api_key q.api_version id q.body.now (kept_of ts t) (kept_of (tenants_in log disk us) t) truth.0 c.ask.result.0) numbered truth.1) in
    told-asked failed (IsCatalogFull log us) a.setup.now a.clock a.connection.now.number t ts (tenants_in log disk us) s c.hand_over.new.connection.session q.api_key q.api_version h q.body.now truth.0 c.ask.result.0 asked truthful (c.hand_over.ensures.output q.api_key q.api_version h q.body.now asked)

pub returns-in_err-serve-in-Ok-None-clause-later : goal.returns-in_err-serve-in-Ok-None-clause-later
returns-in_err-serve-in-Ok-None-clause-later g c = later-none (g.S.Store.disk c.args.tenants.now.shelf.store) (numbers_in c.args.tenants.now.strays) (tenants_in g.L.PartitionLog.log g.S.Store.disk c.args.tenants.now) (all_counts c.args.tenants.now)

pub returns-in-Ok-None-clause-later : goal.returns-in-Ok-None-clause-later
returns-in-Ok-None-clause-later g c = later-none (g.S.Store.disk c.args.tenants.now.shelf.store) (numbers_in c.args.tenants.now.strays) (tenants_in g.L.PartitionLog.log g.S.Store.disk c.args.tenants.now) (all_counts c.args.tenants.now)

pub returns-in-Err-clause-later : goal.returns-in-Err-clause-later
returns-in-Err-clause-later g c = later-none (g.S.Store.disk c.args.tenants.now.shelf.store) (numbers_in c.args.tenants.now.strays) (tenants_in g.L.PartitionLog.log g.S.Store.disk c.args.tenants.now) (all_counts c.args.tenants.now)
