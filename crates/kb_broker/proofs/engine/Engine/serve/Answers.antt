use Rattle.std.proofs.Common.{◌≡◌, ◌<◌, ℕ, Some, ◌∙◌, refl, ap, set, subst, sym}
use Rattle.kb_isolation_spec.specs.declared.shut.Shut.TheVariants as causes
use Rattle.kb_isolation_spec.specs.Machine.{Line, work}
use Rattle.kb_isolation_spec.specs.Session.{shut_down}
use Rattle.kb_isolation_spec.specs.Broker.{AnyWait, AreUnready, BrokerState}
use Rattle.kb_isolation_spec.specs.Turned.{Scope, AreStill, IsGoing}
use Rattle.kb_broker.specs.declared.serving.Concerned.{Concerned}
use Rattle.kb_broker.specs.declared.serving.Concerned.TheVariants as concerned
use Rattle.kb_connection.specs.View.{stage_of}
use Rattle.kb_tenant.specs.Told.{FailedBy}
use Rattle.kb_tenants.specs.Counts.{all_counts}
use Rattle.kb_tenants.specs.Tenants.{numbers_in, shelf_is_honest, commands_of, IsCatalogFull}
use Rattle.kb_tenants.specs.declared.tenants.Tenants.{Tenants}
use Rattle.kb_broker.specs.Hosts.{OnStore, tenants_in, IsLaterWith}
use Rattle.kb_broker.specs.Places.{IsCountedAt, IsMemberTurnAt, IsTakenAt, IsToldAt}
use Rattle.kb_broker.specs.Truth.{SpeaksTruth}
use Rattle.kb_broker.specs.Parked.{IsAllOf, IsLeftBy, IsLeftTo, IsOwnTo, IsQueueOf, IsServedFor}
use Rattle.kb_broker.proofs.Placed.{at-read, number_at-is}
use Rattle.kb_broker.proofs.Handled.{at-inside, IsTaken, put_with, next-can, able-stage, taken-at, counts-counted, lines-counted, names-counted, others-put, refused-for, refused-taken, taken-going, served-refused, work-taken, work-refused}
use Rattle.kb_broker.proofs.Going.{left-by, not-parked, queue-turn, refused-left, refused-own, served-by}
use Rattle.kb_broker.proofs.Fields.{rising-inside}
use Rattle.kb_broker.proofs.Heard.{heard-set, roomy}
use Rattle.kb_broker.proofs.Honest.{later-by, later-from, later-on, state-is, store-is}
use Rattle.kb_broker.proofs.Truth.{refused_turn, true_turn, turn_on}
use Rattle.kb_broker.proofs.RequestLimits.{limit-put}
use Rattle.kb_broker.proofs.engine.Engine.serve.Given as given
use Rattle.kb_broker.proofs.engine.Engine.serve.Goals as goal

pub take_turn-taken-requires-clause-able : goal.take_turn-taken-requires-clause-able
take_turn-taken-requires-clause-able g c =
    let b = c.args.self.now.state in
    let l = c.index_mut-connection.result.now in
    next-can b c.args.i l c.requires.next (at-read _ b c.args.i l (state-is _ _ c.self.view_is) c.requires.next.within c.index_mut-connection.ensures.value)

pub take_turn-taken-requires-clause-free : goal.take_turn-taken-requires-clause-free
take_turn-taken-requires-clause-free g c =
    let b = c.args.self.now.state in
    let l = c.index_mut-connection.result.now in
    let here = state-is _ _ c.self.view_is in
    let at = at-read _ b c.args.i l here c.requires.next.within c.index_mut-connection.ensures.value in
    not-parked (shelf_is_honest g.S.Store.disk c.self.inside.tenants) c.self.inside.parking _ b c.args.i l here c.self.invariant.1 c.requires.next.sound at (next-can b c.args.i l c.requires.next at)

pub note-requires : goal.note-requires
note-requires g c =
    let b = c.args.self.now.state in
    let l = c.index_mut-connection.result.now in
    let here = state-is _ _ c.self.view_is in
    roomy 0 b.last c.self.inside.connections.items c.args.i l c.take_turn-taken.new.connection c.self.inside.speakers c.number-number.result c.speaks.result c.self.invariant.2 (rising-inside _ b here c.requires.next.sound.rising)
    (at-inside _ b c.args.i l here (at-read _ b c.args.i l here c.requires.next.within c.index_mut-connection.ensures.value)) c.take_turn-taken.ensures.number c.number-number.ensures c.speaks.ensures

-- the turn, where it was not refused
taken-ok : (g : given.Over) (c : goal.In-Ok g) → IsTaken (shelf_is_honest g.S.Store.disk c.take_turn-taken.new.tenants) c.args.self.now.state c.args.i c.index_mut-connection.result.now c.take_turn-taken.new.connection (tenants_in g.L.PartitionLog.log g.S.Store.disk c.take_turn-taken.new.tenants)
taken-ok g c =
    let t = c.take_turn-taken.ensures in
    taken-at (shelf_is_honest g.S.Store.disk c.take_turn-taken.new.tenants) _ c.args.self.now.state c.args.i c.index_mut-connection.result.now c.take_turn-taken.new.connection (tenants_in g.L.PartitionLog.log g.S.Store.disk c.take_turn-taken.new.tenants) (state-is _ _ c.self.view_is) c.requires.next c.index_mut-connection.ensures.value t.number t.spent t.turn t.waits

pub invariant_of-self : goal.invariant_of-self
invariant_of-self g c =
    let disk = g.S.Store.disk in
    let t = c.take_turn-taken.ensures in
    let new = c.take_turn-taken.new in (
      t.hosted,
      queue-turn (shelf_is_honest disk c.self.inside.tenants) (shelf_is_honest disk new.tenants) c.self.inside.parking new.parking _ c.args.self.now.state c.args.i c.index_mut-connection.result.now new.connection (tenants_in g.L.PartitionLog.log disk new.tenants)
          (state-is _ _ c.self.view_is) c.self.invariant.1 (taken-ok g c) t.later.honest (λ honest. c.requires.unready (subst (λ s. (disk s).honest) (store-is _ _ c.self.view_is) honest)) t.asked t.parked t.dated t.owned t.keyed,
      heard-set 0 c.args.self.now.state.last c.self.inside.connections.items c.args.i c.index_mut-connection.result.now new.connection c.self.inside.speakers c.note.new.speakers c.number-number.result c.speaks.result c.self.invariant.2 (rising-inside _ c.args.self.now.state (state-is _ _ c.self.view_is) c.requires.next.sound.rising)
          (at-inside _ c.args.self.now.state c.args.i c.index_mut-connection.result.now (state-is _ _ c.self.view_is) (at-read _ c.args.self.now.state c.args.i c.index_mut-connection.result.now (state-is _ _ c.self.view_is) c.requires.next.within c.index_mut-connection.ensures.value)) t.number c.number-number.ensures c.speaks.ensures c.note.ensures.items c.note.ensures.capacity,
      limit-put c.self.inside.setup.request_bytes c.self.inside.connections.items c.args.i c.index_mut-connection.result.now new.connection
          (at-inside _ c.args.self.now.state c.args.i c.index_mut-connection.result.now (state-is _ _ c.self.view_is) (at-read _ c.args.self.now.state c.args.i c.index_mut-connection.result.now (state-is _ _ c.self.view_is) c.requires.next.within c.index_mut-connection.ensures.value)) t.spent.limit c.self.invariant.3,
    )

pub invariant_of-self-in-Err : goal.invariant_of-self-in-Err
invariant_of-self-in-Err g c =
    let disk = g.S.Store.disk in
    let t = c.take_turn-taken.ensures in
    let new = c.take_turn-taken.new in (
      t.hosted,
      queue-turn (shelf_is_honest disk c.self.inside.tenants) (shelf_is_honest disk new.tenants) c.self.inside.parking new.parking _ c.args.self.now.state c.args.i c.index_mut-connection.result.now new.connection (tenants_in g.L.PartitionLog.log disk new.tenants)
          (state-is _ _ c.self.view_is) c.self.invariant.1 (taken-at (shelf_is_honest disk new.tenants) _ c.args.self.now.state c.args.i c.index_mut-connection.result.now new.connection (tenants_in g.L.PartitionLog.log disk new.tenants) (state-is _ _ c.self.view_is) c.requires.next c.index_mut-connection.ensures.value t.number t.spent t.turn t.waits) t.later.honest (λ honest. c.requires.unready (subst (λ s. (disk s).honest) (store-is _ _ c.self.view_is) honest)) t.asked t.parked t.dated t.owned t.keyed,
      heard-set 0 c.args.self.now.state.last c.self.inside.connections.items c.args.i c.index_mut-connection.result.now new.connection c.self.inside.speakers c.note.new.speakers c.number-number.result c.speaks.result c.self.invariant.2 (rising-inside _ c.args.self.now.state (state-is _ _ c.self.view_is) c.requires.next.sound.rising)
          (at-inside _ c.args.self.now.state c.args.i c.index_mut-connection.result.now (state-is _ _ c.self.view_is) (at-read _ c.args.self.now.state c.args.i c.index_mut-connection.result.now (state-is _ _ c.self.view_is) c.requires.next.within c.index_mut-connection.ensures.value)) t.number c.number-number.ensures c.speaks.ensures c.note.ensures.items c.note.ensures.capacity,
      limit-put c.self.inside.setup.request_bytes c.self.inside.connections.items c.args.i c.index_mut-connection.result.now new.connection
          (at-inside _ c.args.self.now.state c.args.i c.index_mut-connection.result.now (state-is _ _ c.self.view_is) (at-read _ c.args.self.now.state c.args.i c.index_mut-connection.result.now (state-is _ _ c.self.view_is) c.requires.next.within c.index_mut-connection.ensures.value)) t.spent.limit c.self.invariant.3,
    )

-- after it connections may take turns where they might
served-still : (who : Concerned) (scope : Scope) (a b : BrokerState) → IsServedFor who scope a b → AreStill scope b
served-still concerned.Nobody scope a b served = served.still
served-still (concerned.These t ns) scope a b served = served.still
served-still (concerned.All t) scope a b served = served.still

-- what was said in it is the truth, whether it was refused or not
turn-told : (g : given.Over) (old : g.row.S.Denot) (new : Tenants g.row.L.Denot g.row.S.Denot) (a b : BrokerState) (i : ℕ) (l m : Line) → let us = tenants_in g.L.PartitionLog.log g.S.Store.disk new in
    a ≡ b → shelf_is_honest g.S.Store.disk new → IsTaken (shelf_is_honest g.S.Store.disk new) b i l m us
    → IsToldAt (FailedBy (g.S.Store.disk old).failures (g.S.Store.disk new.shelf.store).failures new.shelf.next) (IsCatalogFull g.L.PartitionLog.log new) a.setup a.clock l.number l.session.stage a.tenants us l.session m.session
    → IsTakenAt (shelf_is_honest g.S.Store.disk new) b.setup b.clock l.number l.session.stage b.tenants us l.session m.session
    → AreUnready AnyWait b → ((scope : Scope) → AreStill scope b → AreStill scope (put_with a i m us)) → SpeaksTruth b (put_with a i m us)
turn-told g old new a b i l m here honest taken told defined unready stills =
    let disk = g.S.Store.disk in
    let us = tenants_in g.L.PartitionLog.log disk new in
    let same = subst (λ (x : BrokerState). IsToldAt (FailedBy (disk old).failures (disk new.shelf.store).failures new.shelf.next) (IsCatalogFull g.L.PartitionLog.log new) x.setup x.clock l.number l.session.stage x.tenants us l.session m.session) here told in
    subst (λ (x : BrokerState). ((scope : Scope) → AreStill scope b → AreStill scope (put_with x i m us)) → SpeaksTruth b (put_with x i m us)) (sym here)
    (true_turn (disk old).failures (disk new.shelf.store).failures new.shelf.next (commands_of g.L.PartitionLog.log new) b i l m us
    taken.next.sound unready taken.at taken.number (taken.next.first l ∙ ap Some (sym taken.at.here)) (shelf_is_honest disk new) honest defined taken.spent (turn_on (shelf_is_honest disk new) honest l.session.stage b.tenants us taken.turn) same)
    stills

-- so it is of one that was refused, and then that was counted
turn-refused : (g : given.Over) (old : g.row.S.Denot) (new : Tenants g.row.L.Denot g.row.S.Denot) (a b c : BrokerState) (i : ℕ) (l m : Line) → let us = tenants_in g.L.PartitionLog.log g.S.Store.disk new in
    a ≡ b → shelf_is_honest g.S.Store.disk new → IsTaken (shelf_is_honest g.S.Store.disk new) b i l m us
    → IsToldAt (FailedBy (g.S.Store.disk old).failures (g.S.Store.disk new.shelf.store).failures new.shelf.next) (IsCatalogFull g.L.PartitionLog.log new) a.setup a.clock l.number l.session.stage a.tenants us l.session m.session
    → m.session ≡ shut_down causes.Memory l.session → IsCountedAt l.number l.session.stage (put_with b i m us) c
    → AreUnready AnyWait b → ((scope : Scope) → AreStill scope b → AreStill scope c) → SpeaksTruth b c
turn-refused g old new a b c i l m here honest taken told shut counted unready stills =
    let disk = g.S.Store.disk in
    let us = tenants_in g.L.PartitionLog.log disk new in
    let same = subst (λ (x : BrokerState). IsToldAt (FailedBy (disk old).failures (disk new.shelf.store).failures new.shelf.next) (IsCatalogFull g.L.PartitionLog.log new) x.setup x.clock l.number l.session.stage x.tenants us l.session m.session) here told in
    refused_turn (disk old).failures (disk new.shelf.store).failures new.shelf.next (commands_of g.L.PartitionLog.log new) b i l m us
    taken.next.sound unready taken.at taken.number (taken.next.first l ∙ ap Some (sym taken.at.here)) c taken.spent (turn_on (shelf_is_honest disk new) honest l.session.stage b.tenants us taken.turn) same shut counted stills

pub returns-in-Ok : goal.returns-in-Ok
returns-in-Ok g c =
    let disk = g.S.Store.disk in
    let b = c.args.self.now.state in
    let i = c.args.i in
    let l = c.index_mut-connection.result.now in
    let t = c.take_turn-taken.ensures in
    let m = c.take_turn-taken.new.connection in
    let us = tenants_in g.L.PartitionLog.log disk c.take_turn-taken.new.tenants in
    let H = shelf_is_honest disk c.take_turn-taken.new.tenants in
    let G = shelf_is_honest disk c.self.inside.tenants in
    let q = c.self.inside.parking in
    let who = c.in-Ok.concerned in
    let a : BrokerState = record {
      setup = c.self.inside.setup;
      tenants = tenants_in g.L.PartitionLog.log disk c.self.inside.tenants;
      unbound_refusals = c.self.inside.unbound_refusals;
      clock = c.self.inside.clock;
      last = c.self.inside.last;
      lines = c.self.inside.connections.items;
    } in
    let here : a ≡ b = state-is _ _ c.self.view_is in
    let earlier = subst (λ (x : OnStore g.row.S.Denot). IsLaterWith (disk x.store) (disk c.take_turn-taken.new.tenants.shelf.store) x.strays (numbers_in c.take_turn-taken.new.tenants.strays) x.state.tenants us x.counts (all_counts c.take_turn-taken.new.tenants)) c.self.view_is t.later in
    let taken = taken-ok g c in
    let is : IsTakenAt H b.setup b.clock l.number l.session.stage b.tenants us l.session m.session =
    subst (λ (x : BrokerState). IsTakenAt H x.setup x.clock l.number l.session.stage x.tenants us l.session m.session) here c.in-Ok.ensures.ok in
    let member : IsMemberTurnAt l.number l.session.stage b.tenants us m.session.stage =
    subst (λ (x : BrokerState). IsMemberTurnAt l.number l.session.stage x.tenants us m.session.stage) here c.in-Ok.ensures.member in
    let left : H → IsLeftBy who b.setup b.clock l.session.stage l.number q b.tenants us l.session m.session = λ honest.
    subst (λ (x : BrokerState). IsLeftBy who x.setup x.clock l.session.stage l.number q x.tenants us l.session m.session) here (c.in-Ok.ensures.remaining honest) in
    let queue : IsQueueOf G q b.tenants b.lines = subst (λ (x : BrokerState). IsQueueOf G q x.tenants x.lines) here c.self.invariant.1 in
    let served : H → (scope : Scope) → AreStill scope b → IsServedFor who scope b (put_with a i m us) = λ honest scope still.
    subst (λ (x : BrokerState). IsServedFor who scope b (put_with x i m us)) (sym here) (served-by H honest G (t.later.honest honest) who scope b i l m us q still (c.requires.unready (earlier.honest honest)) taken is member c.in-Ok.ensures.tenant queue (left honest)) in
    record {
      continues = subst (λ (x : BrokerState). IsGoing b (put_with x i m us)) (sym here) (taken-going H b i l m us l.session.stage taken refl taken.turn is);
      later = later-from disk SpeaksTruth c.args.self.now _ earlier (λ honest. turn-told g c.self.inside.tenants.shelf.store c.take_turn-taken.new.tenants a b i l m here honest taken (t.told honest) is (c.requires.unready (earlier.honest honest))
          (λ scope still. served-still who scope b (put_with a i m us) (served honest scope still)));
      served = served;
      remaining = λ honest. subst (λ (x : BrokerState). IsLeftTo who (put_with x i m us)) (sym here)
          (left-by H honest G (t.later.honest honest) who b i l m us q (c.requires.unready (earlier.honest honest)) taken c.in-Ok.ensures.tenant queue (left honest));
      includes_itself = subst (IsOwnTo who) (sym (number_at-is b i l taken.at)) c.in-Ok.ensures.includes_itself;
      others = others-put b i l m _ taken.at taken.number (ap (λ (x : BrokerState). set x.lines i m) here);
      shrinks = subst (λ (x : BrokerState). work (put_with x i m us).lines < work b.lines) (sym here) (work-taken H b i l m us taken);
    }

pub returns-in-Err : goal.returns-in-Err
returns-in-Err g c =
    let disk = g.S.Store.disk in
    let b = c.args.self.now.state in
    let i = c.args.i in
    let l = c.index_mut-connection.result.now in
    let t = c.take_turn-taken.ensures in
    let m = c.take_turn-taken.new.connection in
    let us = tenants_in g.L.PartitionLog.log disk c.take_turn-taken.new.tenants in
    let H = shelf_is_honest disk c.take_turn-taken.new.tenants in
    let here = state-is _ _ c.self.view_is in
    let end = c.refuse.new.self.state in
    let who = c.all_of.result in
    let taken = taken-at H _ b i l m us here c.requires.next c.index_mut-connection.ensures.value t.number t.spent t.turn t.waits in
    let phase : stage_of c.phase-phase.result ≡ l.session.stage = c.phase-phase.ensures ∙ able-stage l.session taken.able in
    let all : IsAllOf who l.session.stage = subst (IsAllOf who) phase c.all_of.ensures in
    let counted : IsCountedAt l.number l.session.stage (put_with b i m us) end =
    subst (λ st. IsCountedAt l.number st (put_with b i m us) end) phase
    (subst (λ n. IsCountedAt n (stage_of c.phase-phase.result) (put_with b i m us) end) c.number-number.ensures
    (subst (λ (x : BrokerState). IsCountedAt c.number-number.result (stage_of c.phase-phase.result) (put_with x i m us) end) here c.refuse.ensures.counted)) in
    let shut = ap (λ (x : Line). x.session) c.in-Err.ensures.err in
    let store = c.take_turn-taken.new.tenants.shelf.store in
    let strays = numbers_in c.take_turn-taken.new.tenants.strays in
    let shares = all_counts c.take_turn-taken.new.tenants in
    let earlier = subst (λ (x : OnStore g.row.S.Denot). IsLaterWith (disk x.store) (disk store) x.strays strays x.state.tenants us x.counts shares) c.self.view_is t.later in
    let same = later-on disk store c.refuse.new.self.store strays c.refuse.new.self.strays us end.tenants shares c.refuse.new.self.counts c.refuse.ensures.store c.refuse.ensures.strays c.refuse.ensures.counts (names-counted l.number l.session.stage (put_with b i m us) end counted) (counts-counted l.number l.session.stage (put_with b i m us) end counted) in
    let served : H → (scope : Scope) → AreStill scope b → IsServedFor who scope b end = λ honest scope still.
    refused-for who l.session.stage scope b end all (served-refused H honest scope b end i l m us l.session.stage still taken refl shut taken.turn counted) in
    record {
      continues = refused-taken H b end i l m us l.session.stage taken refl shut taken.turn counted;
      later = later-from disk SpeaksTruth c.args.self.now c.refuse.new.self
          (later-by (disk c.args.self.now.store) (disk store) (disk c.refuse.new.self.store) c.args.self.now.strays strays c.refuse.new.self.strays b.tenants us end.tenants c.args.self.now.counts shares c.refuse.new.self.counts earlier same)
          (λ honest. turn-refused g c.self.inside.tenants.shelf.store c.take_turn-taken.new.tenants _ b end i l m here (same.honest honest) taken (t.told (same.honest honest)) shut counted (c.requires.unready (earlier.honest (same.honest honest)))
          (λ scope still. served-still who scope b end (served (same.honest honest) scope still)));
      served = λ honest. served (same.honest honest);
      remaining = λ honest. refused-left who l.session.stage end all;
      includes_itself = refused-own who l.session.stage _ all;
      others = others-put b i l m end.lines taken.at taken.number (lines-counted l.number l.session.stage (put_with b i m us) end counted);
      shrinks = work-refused H b end i l m us l.session.stage taken counted;
    }
