use Rattle.std.proofs.Common.{◌≤◌, ◌^◌, ◌∙◌, ap, subst, sym}
use Rattle.std.specs.Prelude.{max}
use Rattle.kb_isolation_spec.specs.Broker.{BrokerState}
use Rattle.kb_broker.specs.Hosts.{is_honest}
use Rattle.kb_broker.specs.Parked.{AreAmong, AreWaitingOn}
use Rattle.kb_broker.specs.Truth.{PassesAt}
use Rattle.kb_broker.proofs.Honest.{later-begun, later-seen, state-is, store-is}
use Rattle.kb_broker.proofs.Handled.{has-begun, in-time, sound-after}
use Rattle.kb_broker.proofs.Parked.{waiting-on}
use Rattle.kb_broker.proofs.Going.{IsAwake, IsMovedOn, awake-among, awake-still, awake-unready, moved-on}
use Rattle.kb_broker.proofs.engine.Engine.moment.Goals as goal

pub pass-answered-requires : goal.pass-answered-requires
pass-answered-requires g c =
    let a = c.args.self.now.state in
    record {
      in_time = subst (λ n. n ≤ 2 ^ 62) (sym (c.max-self-inside.ensures ∙ ap (λ (x : BrokerState). max x.clock c.args.now) (state-is _ _ c.self.view_is))) (in-time a c.args.now c.requires.ready.sound c.requires.in_time);
      waiting = λ honest. subst AreWaitingOn (sym (state-is _ _ c.self.view_is)) (waiting-on a (c.requires.ready.unready (subst (λ s. (g.S.Store.disk s).honest) (store-is _ _ c.self.view_is) honest)));
    }

pub wake-requires : goal.wake-requires
wake-requires g c =
    let r = c.pass-answered.ensures in
    let a = c.args.self.now.state in
    let H = is_honest g.S.Store.disk c.pass-answered.new.self in
    let h = has-begun H c.args.now c.max-self-inside.result c.pass-answered.result _ a c.pass-answered.new.self.state (state-is _ _ c.self.view_is) c.max-self-inside.ensures r.passed r.only_tenants r.leaves in
    sound-after H c.args.now c.pass-answered.result a c.pass-answered.new.self.state c.requires.ready.sound c.requires.in_time h

pub run_among-requires : goal.run_among-requires
run_among-requires g c =
    let disk = g.S.Store.disk in
    let r = c.pass-answered.ensures in
    let w = c.wake.ensures in
    let now = c.args.now in
    let answered = c.pass-answered.result in
    let a = c.args.self.now in
    let s = c.pass-answered.new.self in
    let b = c.wake.new.self in
    let awake : IsAwake disk now answered a s b = record {
      ready = c.requires.ready;
      first = later-seen disk (PassesAt now) _ a s c.self.view_is (later-begun disk _ c.max-self-inside.result now s c.max-self-inside.ensures r.later);
      begun = has-begun (is_honest disk s) now c.max-self-inside.result answered _ a.state s.state (state-is _ _ c.self.view_is) c.max-self-inside.ensures r.passed r.only_tenants r.leaves;
      going = w.continues;
      later = w.later;
      waked = w.waked;
      rest = w.unready;
    } in
    record {
      sound = w.continues.sound;
      unready = awake-unready disk now answered a s b awake;
      still = awake-still disk now answered a s b awake;
      among = subst (λ ns. AreAmong ns b.state) (sym c.deref.ensures.value) (awake-among disk now answered a s b c.in-Some.numbers.items awake c.in-Some.ensures.known);
    }

pub run_all_turns-requires : goal.run_all_turns-requires
run_all_turns-requires g c =
    let disk = g.S.Store.disk in
    let r = c.pass-answered.ensures in
    let w = c.wake.ensures in
    let now = c.args.now in
    let answered = c.pass-answered.result in
    let a = c.args.self.now in
    let s = c.pass-answered.new.self in
    let b = c.wake.new.self in
    let awake : IsAwake disk now answered a s b = record {
      ready = c.requires.ready;
      first = later-seen disk (PassesAt now) _ a s c.self.view_is (later-begun disk _ c.max-self-inside.result now s c.max-self-inside.ensures r.later);
      begun = has-begun (is_honest disk s) now c.max-self-inside.result answered _ a.state s.state (state-is _ _ c.self.view_is) c.max-self-inside.ensures r.passed r.only_tenants r.leaves;
      going = w.continues;
      later = w.later;
      waked = w.waked;
      rest = w.unready;
    } in
    record {
      sound = w.continues.sound;
      unready = awake-unready disk now answered a s b awake;
      still = awake-still disk now answered a s b awake;
    }

pub returns-in-Some : goal.returns-in-Some
returns-in-Some g c =
    let disk = g.S.Store.disk in
    let r = c.pass-answered.ensures in
    let w = c.wake.ensures in
    let now = c.args.now in
    let answered = c.pass-answered.result in
    let a = c.args.self.now in
    let s = c.pass-answered.new.self in
    let b = c.wake.new.self in
    let awake : IsAwake disk now answered a s b = record {
      ready = c.requires.ready;
      first = later-seen disk (PassesAt now) _ a s c.self.view_is (later-begun disk _ c.max-self-inside.result now s c.max-self-inside.ensures r.later);
      begun = has-begun (is_honest disk s) now c.max-self-inside.result answered _ a.state s.state (state-is _ _ c.self.view_is) c.max-self-inside.ensures r.passed r.only_tenants r.leaves;
      going = w.continues;
      later = w.later;
      waked = w.waked;
      rest = w.unready;
    } in
    let t = c.run_among.ensures in
    let h = subst (IsMovedOn disk now a) (sym c.self-in-Some.view_is) (moved-on disk now answered a s b c.run_among.new.self awake t.continues t.later t.turned t.settled) in
    record { ready = h.ready; later = h.later; step = h.step; clock = h.clock; last = h.last; numbers = h.numbers; others = h.others; held = h.held }

pub returns-in-None : goal.returns-in-None
returns-in-None g c =
    let disk = g.S.Store.disk in
    let r = c.pass-answered.ensures in
    let w = c.wake.ensures in
    let now = c.args.now in
    let answered = c.pass-answered.result in
    let a = c.args.self.now in
    let s = c.pass-answered.new.self in
    let b = c.wake.new.self in
    let awake : IsAwake disk now answered a s b = record {
      ready = c.requires.ready;
      first = later-seen disk (PassesAt now) _ a s c.self.view_is (later-begun disk _ c.max-self-inside.result now s c.max-self-inside.ensures r.later);
      begun = has-begun (is_honest disk s) now c.max-self-inside.result answered _ a.state s.state (state-is _ _ c.self.view_is) c.max-self-inside.ensures r.passed r.only_tenants r.leaves;
      going = w.continues;
      later = w.later;
      waked = w.waked;
      rest = w.unready;
    } in
    let t = c.run_all_turns.ensures in
    let h = moved-on disk now answered a s b c.run_all_turns.new.self awake t.continues t.later t.turned t.settled in
    record { ready = h.ready; later = h.later; step = h.step; clock = h.clock; last = h.last; numbers = h.numbers; others = h.others; held = h.held }
