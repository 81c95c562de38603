use Rattle.std.proofs.Common.{◌≡◌, ◌∙◌, ap, inl, inr, subst, sym}
use Rattle.kb_isolation_spec.specs.Turned.{Of, AreStill}
use Rattle.kb_isolation_spec.proofs.Turns.{going-then}
use Rattle.kb_broker.specs.Hosts.{is_honest}
use Rattle.kb_broker.specs.Places.{AreIdle, number_at}
use Rattle.kb_isolation_spec.proofs.Feeds.{step-not_open}
use Rattle.kb_broker.proofs.Honest.{later-at, later-still, later-untaken, ready-of, state-is}
use Rattle.kb_broker.specs.Truth.{SpeaksAt}
use Rattle.kb_isolation_spec.specs.Machine.{Comes}
use Rattle.kb_isolation_spec.specs.Broker.{is_deaf}
use Rattle.kb_isolation_spec.proofs.Sets.{find-none}
use Rattle.kb_broker.proofs.Placed.{find-found, found, number_at-is}
use Rattle.kb_broker.proofs.Handled.{empty-is, full-is, idle-fed, number-going, others-taken, step-empty, step-deaf, step-taken}
use Rattle.kb_broker.proofs.engine.Engine.input.Goals as goal
use Rattle.kb_broker.proofs.engine.Engine.input.Goals.{then-is_empty-via-then-is_empty, then-is_empty-via-else-is_empty+then-is_shut}

pub returns-in_default-clause-step : goal.returns-in_default-clause-step
returns-in_default-clause-step g c = λ honest. step-not_open c.args.self.now.state c.args.number c.args.piece.now (ready-of g.S.Store.disk c.args.self.now c.requires honest) c.in_default.ensures.none

pub returns-in_default-clause-later : goal.returns-in_default-clause-later
returns-in_default-clause-later g c =
    let n = c.args.number in
    let piece = c.args.piece.now in
    let b = c.args.self.now.state in
    later-untaken g.S.Store.disk c.args.self.now n piece c.requires.sound c.requires.settled (inr (ap is_deaf (find-none n b.lines c.in_default.ensures.none)))

pub returns-then-is_empty-clause-later : goal.returns-then-is_empty-clause-later
returns-then-is_empty-clause-later g c =
    let b = c.args.self.now.state in
    let i = c.in-Some.i in
    let n = c.args.number in
    let e = c.in-Some.ensures in
    let piece = c.args.piece.now in
    later-untaken g.S.Store.disk c.args.self.now n piece c.requires.sound c.requires.settled (elim c.then-is_empty.branch [
      | then-is_empty-via-then-is_empty w ↦ inl (empty-is piece c.is_empty.result c.is_empty.ensures w.if-is_empty.true)
      | then-is_empty-via-else-is_empty+then-is_shut w ↦
          inr (ap is_deaf (find-found b i n w.index.result.now c.requires.sound.rising (found _ b i n w.index.result.now (state-is _ _ c.self.view_is) e.within e.some w.index.ensures)) ∙ (sym w.is_shut.ensures ∙ w.if-is_shut.true))
    ])

pub returns-then-is_empty-clause-step : goal.returns-then-is_empty-clause-step
returns-then-is_empty-clause-step g c = λ honest.
    let b = c.args.self.now.state in
    let i = c.in-Some.i in
    let n = c.args.number in
    let e = c.in-Some.ensures in
    let ready = ready-of g.S.Store.disk c.args.self.now c.requires honest in
    elim c.then-is_empty.branch [
      | then-is_empty-via-then-is_empty w ↦ step-empty b i n c.args.piece.now ready e.within e.some (empty-is c.args.piece.now c.is_empty.result c.is_empty.ensures w.if-is_empty.true)
      | then-is_empty-via-else-is_empty+then-is_shut w ↦ step-deaf b i n w.index.result.now c.args.piece.now ready (found _ b i n w.index.result.now (state-is _ _ c.self.view_is) e.within e.some w.index.ensures) (sym w.is_shut.ensures ∙ w.if-is_shut.true)
    ]

pub run_turns-requires-clause-unready : goal.run_turns-requires-clause-unready
run_turns-requires-clause-unready g c = λ honest. c.take_piece.ensures.fed.unready (c.requires.unready (subst (λ s. (g.S.Store.disk s).honest) c.take_piece.ensures.store honest))

pub run_turns-requires-clause-idle : goal.run_turns-requires-clause-idle
run_turns-requires-clause-idle g c =
    let a = c.args.self.now.state in
    let b = c.take_piece.new.self.state in
    let i = c.in-Some.i in
    let given = c.take_piece.ensures.fed in
    subst (λ k. AreIdle k b) (sym (number-going a b i given.going)) (idle-fed (number_at i a) c.args.piece.now a b c.requires.settled given)

pub returns : goal.returns
returns g c =
    let disk = g.S.Store.disk in
    let a = c.args.self.now.state in
    let b = c.take_piece.new.self.state in
    let d = c.run_turns.new.self.state in
    let i = c.in-Some.i in
    let n = c.args.number in
    let l = c.index.result.now in
    let f = found _ a i n l (state-is _ _ c.self.view_is) c.in-Some.ensures.within c.in-Some.ensures.some c.index.ensures in
    let given = c.take_piece.ensures.fed in
    let turned = c.run_turns.ensures.turned in
    let going = going-then a b d given.going c.run_turns.ensures.continues in
    let number : number_at i a ≡ n = number_at-is a i l f.at ∙ f.number in
    let e = Comes n c.args.piece.now in
    let spoken = subst (λ k. SpeaksAt (Comes k c.args.piece.now) a b) number c.take_piece.ensures.spoken in
    let kept = later-still disk (SpeaksAt e) c.args.self.now c.take_piece.new.self c.take_piece.ensures.store c.take_piece.ensures.strays c.take_piece.ensures.counts
    given.going.grows.names given.going.grows.own spoken in
    let before : is_honest disk c.run_turns.new.self → is_honest disk c.args.self.now = λ honest. kept.honest (c.run_turns.ensures.later.honest honest) in
    record {
      ready = record { sound = going.sound; settled = c.run_turns.ensures.settled; unready = λ honest. (turned honest (Of (number_at i a)) given.still).unready (given.unready (c.requires.unready (before honest))) };
      later = later-at disk n c.args.piece.now c.args.self.now c.take_piece.new.self c.run_turns.new.self (subst (λ k. AreStill (Of k) b) number given.still) kept c.run_turns.ensures.later;
      step = λ honest. step-taken a b d i n l c.args.piece.now (ready-of disk c.args.self.now c.requires (before honest)) f given (turned honest) c.run_turns.ensures.settled (full-is c.args.piece.now c.is_empty.result c.is_empty.ensures c.if-is_empty.false) (sym c.is_shut.ensures ∙ c.if-is_shut.false);
      last = going.last;
      numbers = going.numbers;
      others = λ honest. others-taken a b d i n l c.args.piece.now (ready-of disk c.args.self.now c.requires (before honest)) f given (turned honest);
      held = λ honest held. (turned honest (Of (number_at i a)) given.still).held (given.held held);
    }
