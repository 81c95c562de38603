use Rattle.std.proofs.Common.{◌≡◌, ◌+◌, ◌<◌, ◌^◌, ◌∷◌, [], ℕ, List, Bool, suc, length, drop, refl, sym, ◌∙◌, ap, subst, arith, add-one, length-append, rules}
use Rattle.std.specs.Prelude.{map}
use Rattle.std.specs.Option.{SomeIff}
use Rattle.std.specs.List.Sorted.{IsNonDecreasingBy}
use Rattle.std.proofs.lemmas.List.{drop_all, length-map}
use Rattle.std.proofs.lemmas.Simd.{map-map}
use Rattle.std.proofs.lemmas.List.Sorted.{IsPermutation-map, IsNonDecreasingBy-from_sort_by_key}
use Rattle.kb_isolation_spec.specs.Machine.{Sent, sent, those_sent, by_number}
use Rattle.kb_isolation_spec.specs.Broker.{BrokerState, Mine, owned_by, only, view_of}
use Rattle.kb_isolation_spec.specs.Isolation.{own_events}
use Rattle.kb_isolation_spec.proofs.FetchRuns.{run-gives}
use Rattle.kb_isolation_spec.proofs.Runs.{those-by_number}
use Rattle.kb_isolation_spec.proofs.Owned.{owned-mine, run-after, run-first, unowned-mine, calm-nobody}
use Rattle.kb_tenant_api.specs.Hosted.{TenantState, names_of, refusals_of}
use Rattle.kb_isolation_spec.specs.Stranded.{NoneStranded}
use Rattle.kb_isolation_spec.proofs.Stranded.{stranded-emptied}
use Rattle.kb_broker.specs.declared.run.Written.{Written}
use Rattle.kb_broker.specs.Hosts.{is_honest, IsLaterOn}
use Rattle.kb_broker.specs.Truth.{SpeaksAt}
use Rattle.kb_broker.specs.Runs.{happening_of, happenings, sent_of, connections_of, IsOwnRun, PassesEvents}
use Rattle.kb_broker.proofs.Honest.{counts-is, later-by, later-none, later-on, later-with, ready-of, state-is, store-is, strays-is}
use Rattle.kb_isolation_spec.proofs.Greetings.{unowned-greets}
use Rattle.kb_broker.proofs.OwnRuns.{own-passes}
use Rattle.kb_broker.proofs.RunLast.{told-passes}
use Rattle.kb_broker.proofs.RunHistory.{happenings-next, length-connections, connections-first, room-leads, grows-passes, run-passes, numbers-passes, rising-connections, continues-next}
use Rattle.kb_broker.proofs.RunOrder.{IsOrdered, ordered, up-sorted, AreUp, numbered}
use Rattle.kb_broker.proofs.broker.Broker.run.Given as given
use Rattle.kb_broker.proofs.broker.Broker.run.Goals as goal

pub loop-event-init : goal.loop-event-init
loop-event-init g c =
    let es = c.args.events.now in
    let b = c.args.self.now.state in
    let lines = ap length c.connections-open.ensures.lines in
    let sum = subst (λ o. SomeIff o (length c.connections-open.result.now + c.openings.result < 2 ^ 64) (length c.connections-open.result.now + c.openings.result)) c.in_ok-room.ensures.ok_part c.checked_add.ensures in
    record {
      ready = c.connections-open.ensures.ready;
      later = later-none (g.S.Store.disk c.args.self.now.store) c.args.self.now.strays b.tenants c.args.self.now.counts;
      held = λ honest held. held;
      rises = c.requires;
      room = omega (arith, lines, sum, c.openings.ensures, length-connections es b, c.in_ok-written.ensures.len, c.in_ok-written.ensures.capacity);
      passes = λ last honest new got p. rw c.in_ok-written.ensures.items p;
    }

pub happen-requires-clause-run : goal.happen-requires-clause-run
happen-requires-clause-run g c =
    let i = c.loop-event.event-index in
    let all = c.args.events.now in
    let item = c.event-item.result in
    let e = happening_of item in
    let hs = happenings (drop (suc i) all) in
    let next : happenings (drop i all) ≡ e ∷ hs = happenings-next all i item c.loop-event-test.true c.event-item.is in
    run-first c.loop-event.self.state.last e hs (rw next at c.loop-event.invariant.rises)

pub happen-requires-clause-room : goal.happen-requires-clause-room
happen-requires-clause-room g c =
    let b = c.loop-event.self.state in
    let i = c.loop-event.event-index in
    let all = c.args.events.now in
    let item = c.event-item.result in
    let e = happening_of item in
    let hs = happenings (drop (suc i) all) in
    let next : happenings (drop i all) ≡ e ∷ hs = happenings-next all i item c.loop-event-test.true c.event-item.is in
    omega (arith, c.loop-event.invariant.room, ap (λ es. length (connections_of es b)) next, connections-first e hs b)

pub loop-event-preserved : goal.loop-event-preserved
loop-event-preserved g c =
    let disk = g.S.Store.disk in
    let a = c.args.self.now in
    let before = c.loop-event.self in
    let after = c.happen.new.self in
    let b = before.state in
    let d = after.state in
    let ws = c.loop-event.written in
    let vs = c.happen.new.written in
    let v = c.loop-event.invariant in
    let ended = c.happen.ensures.passed.0 in
    let added = c.happen.ensures.passed.1 in
    let passed = c.happen.ensures.passed.2 in
    let i = c.loop-event.event-index in
    let all = c.args.events.now in
    let item = c.event-item.result in
    let e = happening_of item in
    let hs = happenings (drop (suc i) all) in
    let next : happenings (drop i all) ≡ e ∷ hs = happenings-next all i item c.loop-event-test.true c.event-item.is in
    let longer : length vs.items ≡ length ws.items + length ended =
    sym (length-map vs.items sent_of) ∙ (ap length added ∙ (length-append (map sent_of ws.items) ended ∙ ap (λ n. n + length ended) (length-map ws.items sent_of))) in
    record {
      ready = c.happen.ensures.ready;
      later = later-by (disk a.store) (disk before.store) (disk after.store) a.strays before.strays after.strays a.state.tenants b.tenants d.tenants a.counts before.counts after.counts
          v.later (later-with disk (SpeaksAt e) before after c.happen.ensures.later);
      held = λ honest held. c.happen.ensures.held honest (v.held (c.happen.ensures.later.honest honest) held);
      rises = rw add-one (run-after d.last b.last e hs c.happen.ensures.last (rw next at v.rises));
      room = rw add-one (omega (arith, v.room, ap (λ es. length (connections_of es b)) next, room-leads e hs b d ended passed.leads, longer, ws.ok.0, vs.ok.0, c.happen.ensures.capacity));
      passes = rw add-one (continues-next disk (happenings all) hs e c.args.self.now before after (map sent_of ws.items) ended (map sent_of vs.items) c.happen.ensures.later.honest added passed (rw next at v.passes));
    }

-- the last output is taken of the store as it is
drained-later : (g : given.Over) (c : goal.After-sort_unstable_by_key g) → IsLaterOn g.S.Store.disk c.loop-event.self c.drain.new.self
drained-later g c =
    let here = c.loop-event.self in
    let end = c.drain.new.self in
    let tenants = ap (λ (x : BrokerState). x.tenants) (state-is _ _ c.drain.ensures.state) in
    later-on g.S.Store.disk here.store end.store here.strays end.strays here.state.tenants end.state.tenants here.counts end.counts
    (store-is _ _ c.drain.ensures.state) (strays-is _ _ c.drain.ensures.state) (counts-is _ _ c.drain.ensures.state) (ap names_of tenants)
    (λ t. (let same = ap (λ (ts : List TenantState). refusals_of ts t) tenants in omega (arith, same)))

-- the whole history, and the order of its list
whole : (g : given.Over) (c : goal.After-sort_unstable_by_key g) → PassesEvents (is_honest g.S.Store.disk c.drain.new.self) (happenings c.args.events.now) c.args.self.now.state c.drain.new.self.state (map sent_of c.drain.new.written.items)
whole g c =
    let disk = g.S.Store.disk in
    let here = c.loop-event.self in
    let b = here.state in
    let end = c.drain.new.self in
    let new = end.state in
    let truthful = is_honest disk end in
    let all = c.args.events.now in
    let none : happenings (drop c.loop-event.event-index all) ≡ [] = ap happenings (drop_all c.loop-event.event-index all (omega arith)) in
    let last : PassesEvents truthful (happenings (drop c.loop-event.event-index all)) b new (map sent b.lines) = subst (λ es. PassesEvents truthful es b new (map sent b.lines)) (sym none) (state-is _ _ c.drain.ensures.state, refl) in
    subst (PassesEvents truthful (happenings all) c.args.self.now.state new) (sym c.drain.ensures.written) (c.loop-event.invariant.passes end.store (drained-later g c).honest new (map sent b.lines) last)

in_order : (g : given.Over) (c : goal.After-sort_unstable_by_key g) → IsOrdered (connections_of (happenings c.args.events.now) c.args.self.now.state) (map sent_of c.drain.new.written.items) (map sent_of c.sort_unstable_by_key.new.self.items)
in_order g c =
    let a = c.args.self.now.state in
    let hs = happenings c.args.events.now in
    let n : Written → ℕ = λ w. w.conn in
    let got = c.drain.new.written.items in
    let list = c.sort_unstable_by_key.new.self.items in
    let falls : IsNonDecreasingBy n list = IsNonDecreasingBy-from_sort_by_key n list c.sort_unstable_by_key.ensures.sorted (λ x r q k. search rules) in
    let up : AreUp 0 (numbered (map sent_of list)) = subst (AreUp 0) (sym (map-map (λ (s : Sent). s.number) sent_of list)) (up-sorted n 0 list falls (λ d. omega arith)) in
    ordered (connections_of hs a) (map sent_of got) (map sent_of list) (rising-connections hs a c.connections-open.ensures.ready.sound.rising c.requires) (numbers-passes (is_honest g.S.Store.disk c.drain.new.self) hs a c.drain.new.self.state (map sent_of got) (whole g c)) (IsPermutation-map sent_of got list c.sort_unstable_by_key.ensures.permutation) up

pub returns-clause-headline : goal.returns-clause-headline
returns-clause-headline g c = λ honest t q.
    let a = c.args.self.now.state in
    let hs = happenings c.args.events.now in
    let mine = owned_by t hs a in
    let got = map sent_of c.drain.new.written.items in
    ap (those_sent mine) (in_order g c).ordered ∙ (those-by_number mine got ∙ ap by_number (run-passes (is_honest g.S.Store.disk c.drain.new.self) t mine hs a c.drain.new.self.state got honest (whole g c) (owned-mine t hs a c.connections-open.ensures.ready.sound.rising) q))

pub returns-clause-unowned : goal.returns-clause-unowned
returns-clause-unowned g c = λ honest n h q.
    let disk = g.S.Store.disk in
    let a = c.args.self.now.state in
    let new = c.drain.new.self.state in
    let truthful = is_honest disk c.drain.new.self in
    let hs = happenings c.args.events.now in
    let got = map sent_of c.drain.new.written.items in
    let ready = c.connections-open.ensures.ready in
    let before = c.loop-event.invariant.later.honest ((drained-later g c).honest honest) in
    let calm = calm-nobody a new (grows-passes truthful hs a new got honest (whole g c)) q in
    let alone = ap (those_sent (only n)) (in_order g c).ordered ∙ (those-by_number (only n) got ∙ ap by_number (run-passes truthful (length a.tenants) (only n) hs a new got honest (whole g c) (unowned-mine n hs a ready.sound h) calm)) in
    record { alone = alone; greeted = alone ∙ unowned-greets n hs a (ready-of disk c.args.self.now ready before) c.requires h }

pub returns-clause-worlds : goal.returns-clause-worlds
returns-clause-worlds g c = λ honest t mine later m q.
    let a = c.args.self.now.state in
    let hs = happenings c.args.events.now in
    let got = map sent_of c.drain.new.written.items in
    let told = told-passes (is_honest g.S.Store.disk c.drain.new.self) t mine hs later a c.drain.new.self.state got honest (whole g c) m q in
    record {
      sent = ap (those_sent mine) (in_order g c).ordered ∙ (those-by_number mine got ∙ ap by_number told.sent);
      world = told.world;
      owns = told.owns;
    }

pub returns-clause-connections : goal.returns-clause-connections
returns-clause-connections g c =
    sym (map-map (λ (s : Sent). s.number) sent_of c.sort_unstable_by_key.new.self.items) ∙ (in_order g c).numbers

pub returns-clause-history : goal.returns-clause-history
returns-clause-history g c = (map sent_of c.drain.new.written.items, (in_order g c).ordered, whole g c)

-- what some connections got, which are a tenant's own
own-run : (g : given.Over) (c : goal.After-sort_unstable_by_key g) → is_honest g.S.Store.disk c.drain.new.self → (t : ℕ) (mine : ℕ → Bool) → Mine t mine (happenings c.args.events.now) c.args.self.now.state
    → IsOwnRun t mine (happenings c.args.events.now) c.args.self.now.state c.drain.new.self.state (map sent_of c.sort_unstable_by_key.new.self.items)
own-run g c honest t mine m =
    let a = c.args.self.now.state in
    let hs = happenings c.args.events.now in
    let got = map sent_of c.drain.new.written.items in
    record {
      got = those_sent mine got;
      run = own-passes (is_honest g.S.Store.disk c.drain.new.self) t mine hs a c.drain.new.self.state got honest (whole g c) m c.requires;
      sent = ap (those_sent mine) (in_order g c).ordered ∙ those-by_number mine got;
    }

pub returns-clause-own : goal.returns-clause-own
returns-clause-own g c = λ honest.
    let a = c.args.self.now.state in
    let hs = happenings c.args.events.now in
    let sound = c.connections-open.ensures.ready.sound in
    record {
      tenants = λ t. own-run g c honest t (owned_by t hs a) (owned-mine t hs a sound.rising);
      strangers = λ n h. own-run g c honest (length a.tenants) (only n) (unowned-mine n hs a sound h);
    }

pub returns-clause-later : goal.returns-clause-later
returns-clause-later g c =
    let disk = g.S.Store.disk in
    let a = c.args.self.now in
    let here = c.loop-event.self in
    let end = c.drain.new.self in
    later-by (disk a.store) (disk here.store) (disk end.store) a.strays here.strays end.strays a.state.tenants here.state.tenants end.state.tenants a.counts here.counts end.counts
    c.loop-event.invariant.later (drained-later g c)

pub returns-in_err-written-clause-fetches : goal.returns-in_err-written-clause-fetches
returns-in_err-written-clause-fetches g c =
    let es = happenings c.args.events.now in
    let b = c.args.self.now.state in
    λ honest t. run-gives (own_events t es b) (view_of t (owned_by t es b) b) (c.connections-open.ensures.small honest t)

pub returns-clause-fetches : goal.returns-clause-fetches
returns-clause-fetches g c =
    let es = happenings c.args.events.now in
    let b = c.args.self.now.state in
    λ honest t. run-gives (own_events t es b) (view_of t (owned_by t es b) b) (c.connections-open.ensures.small honest t)

pub returns-clause-held : goal.returns-clause-held
returns-clause-held g c = λ honest held.
    subst NoneStranded (sym (state-is _ _ c.drain.ensures.state)) (stranded-emptied c.loop-event.self.state (c.loop-event.invariant.held ((drained-later g c).honest honest) held))

pub returns-clause-in_files : goal.returns-clause-in_files
returns-clause-in_files g c = c.drain.ensures.in_files
