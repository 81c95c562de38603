use Rattle.std.proofs.Common.{◌≡◌, ◌∷◌, ◌∙◌, [], false, true, ap, sym, subst}
use Rattle.std.specs.Prelude.{Contains}
use Rattle.kb_broker.specs.Places.{number_at}
use Rattle.kb_broker.specs.Parked.{IsConfined, SameBut}
use Rattle.kb_broker.proofs.Honest.{state-is}
use Rattle.kb_broker.proofs.Placed.{at-read, number_at-is}
use Rattle.kb_broker.proofs.Going.{HasGone, among-joined, among-nobody, from-true, gone-then}
use Rattle.kb_broker.proofs.engine.Engine.run_among.Goals as goal

pub loop-known-preserved-in-Nobody : goal.loop-known-preserved-in-Nobody
loop-known-preserved-in-Nobody g c =
    let b = c.loop-known.self.state in
    let d = c.turn.new.self.state in
    let i = c.in-Some.i in
    let l = c.index.result.now in
    let t = c.turn.ensures in
    let joined = c.join-known-in-Nobody in
    let own = ap (λ k. k ∷ []) (c.number-number.ensures ∙ sym (number_at-is b i l (at-read _ b i l (state-is _ _ c.self-in-loop-known.view_is) c.in-Some.ensures.next.within c.index.ensures))) in
    record {
      gone = gone-then g.S.Store.disk c.args.self.now c.loop-known.self c.turn.new.self c.loop-known.invariant.gone t.continues t.later t.turned;
      among = λ known. among-nobody b d (number_at i b) (c.number-number.result ∷ []) c.next_among.new.able.items joined.new.able.items
          (subst (λ r. IsConfined r (number_at i b) b d) c.in-Nobody.is t.confined) c.in-Some.ensures.among own (from-true joined.result _ known joined.ensures);
    }

pub loop-known-preserved-in-These : goal.loop-known-preserved-in-These
loop-known-preserved-in-These g c =
    let b = c.loop-known.self.state in
    let d = c.turn.new.self.state in
    let n = number_at c.in-Some.i b in
    let t = c.turn.ensures in
    let joined = c.join-known-in-These in
    let confined = subst (λ r. IsConfined r n b d) c.in-These.is t.confined in
    record {
      gone = gone-then g.S.Store.disk c.args.self.now c.loop-known.self c.turn.new.self c.loop-known.invariant.gone t.continues t.later t.turned;
      among = λ known. among-joined b d n c.deref.result.now c.next_among.new.able.items joined.new.able.items
          (subst (λ ns. Contains ns n) (sym c.deref.ensures.value) confined.0) (subst (λ ns. SameBut ns b d) (sym c.deref.ensures.value) confined.1)
          c.in-Some.ensures.among (from-true joined.result _ known joined.ensures);
    }

pub loop-known-preserved : goal.loop-known-preserved
loop-known-preserved g c =
    let t = c.turn.ensures in
    record {
      gone = gone-then g.S.Store.disk c.args.self.now c.loop-known.self c.turn.new.self c.loop-known.invariant.gone t.continues t.later t.turned;
      among = λ known. (let no : false ≡ true = known in absurd (cc));
    }

pub returns-then-not-known-clause-continues : goal.returns-then-not-known-clause-continues
returns-then-not-known-clause-continues g c =
    let disk = g.S.Store.disk in
    let a = c.args.self.now in
    let t = c.run_all_turns.ensures in
    (gone-then disk a _ c.run_all_turns.new.self (subst (HasGone disk a) (sym c.self-2.view_is) c.loop-known.invariant.gone)
    t.continues t.later t.turned).going

pub returns-then-not-known-clause-later : goal.returns-then-not-known-clause-later
returns-then-not-known-clause-later g c =
    let disk = g.S.Store.disk in
    let a = c.args.self.now in
    let t = c.run_all_turns.ensures in
    (gone-then disk a _ c.run_all_turns.new.self (subst (HasGone disk a) (sym c.self-2.view_is) c.loop-known.invariant.gone)
    t.continues t.later t.turned).later

pub returns-then-not-known-clause-turned : goal.returns-then-not-known-clause-turned
returns-then-not-known-clause-turned g c =
    let disk = g.S.Store.disk in
    let a = c.args.self.now in
    let t = c.run_all_turns.ensures in
    (gone-then disk a _ c.run_all_turns.new.self (subst (HasGone disk a) (sym c.self-2.view_is) c.loop-known.invariant.gone) t.continues t.later t.turned).turned

pub returns-else-not-known-clause-turned : goal.returns-else-not-known-clause-turned
returns-else-not-known-clause-turned g c = (subst (HasGone g.S.Store.disk c.args.self.now) (sym c.self-2.view_is) c.loop-known.invariant.gone).turned
