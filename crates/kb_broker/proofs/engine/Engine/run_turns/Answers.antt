use Rattle.std.proofs.Common.{◌≤◌, length, rules, sym, ◌∙◌, subst}
use Rattle.kb_broker.specs.Places.{AreIdle, number_at}
use Rattle.kb_broker.specs.Parked.{AreAmong, IsConfined}
use Rattle.kb_broker.proofs.Honest.{state-is}
use Rattle.kb_broker.proofs.Placed.{at-read}
use Rattle.kb_broker.proofs.Handled.{idle-others, idle-scoped, idle-settled, next-idle, within-going, number-going}
use Rattle.kb_broker.proofs.Going.{among-idle, gone-same, gone-then, one-same}
use Rattle.kb_broker.proofs.engine.Engine.run_turns.Goals as goal

pub loop-alloc-init : goal.loop-alloc-init
loop-alloc-init g c =
    let a = c.args.self.now in
    record {
      gone = gone-same g.S.Store.disk a c.requires.sound c.requires.unready (λ honest. idle-scoped (number_at c.args.i a.state) a.state c.requires.idle);
      within = c.requires.within;
      idle = c.requires.idle;
    }

pub turn-requires-clause-next : goal.turn-requires-clause-next
turn-requires-clause-next g c =
    let b = c.loop-alloc.self.state in
    let v = c.loop-alloc.invariant in
    let l = c.index.result.now in
    next-idle b c.args.i l v.gone.going.sound (at-read _ b c.args.i l (state-is _ _ c.self.view_is) v.within c.index.ensures) v.idle (sym c.can_turn.ensures ∙ c.loop-alloc-test.true)

pub loop-alloc-preserved-in-Nobody : goal.loop-alloc-preserved-in-Nobody
loop-alloc-preserved-in-Nobody g c =
    let b = c.loop-alloc.self.state in
    let d = c.turn.new.self.state in
    let i = c.args.i in
    let n = number_at i b in
    let v = c.loop-alloc.invariant in
    let t = c.turn.ensures in
    record {
      gone = gone-then g.S.Store.disk c.args.self.now c.loop-alloc.self c.turn.new.self v.gone t.continues t.later t.turned;
      within = within-going b d i t.continues v.within;
      idle = subst (λ k. AreIdle k d) (sym (number-going b d i t.continues)) (idle-others n b d t.continues.sound (subst (λ r. IsConfined r n b d) c.in-Nobody.is t.confined) v.idle);
    }

pub loop-alloc-preserved : goal.loop-alloc-preserved
loop-alloc-preserved g c =
    let b = c.loop-alloc.self.state in
    let d = c.turn.new.self.state in
    let i = c.args.i in
    let n = number_at i b in
    let ns = c.in-These.numbers.items in
    let v = c.loop-alloc.invariant in
    let t = c.turn.ensures in
    let confined = subst (λ r. IsConfined r n b d) c.in-These.is t.confined in
    let one : length ns ≤ 1 = search rules in
    record {
      gone = gone-then g.S.Store.disk c.args.self.now c.loop-alloc.self c.turn.new.self v.gone t.continues t.later t.turned;
      within = within-going b d i t.continues v.within;
      idle = subst (λ k. AreIdle k d) (sym (number-going b d i t.continues)) (idle-others n b d t.continues.sound (one-same n ns b d confined.0 one confined.1) v.idle);
    }

pub run_among-requires : goal.run_among-requires
run_among-requires g c =
    let b = c.loop-alloc.self.state in
    let d = c.turn.new.self.state in
    let n = number_at c.args.i b in
    let v = c.loop-alloc.invariant in
    let t = c.turn.ensures in
    let gone = gone-then g.S.Store.disk c.args.self.now c.loop-alloc.self c.turn.new.self v.gone t.continues t.later t.turned in
    let confined = subst (λ r. IsConfined r n b d) c.in-These.is t.confined in
    record {
      sound = gone.going.sound;
      unready = gone.unready;
      still = gone.still;
      among = subst (λ ns. AreAmong ns d) (sym c.deref.ensures.value) (among-idle n c.in-These.numbers.items b d v.idle confined.0 confined.1);
    }

pub run_all_turns-requires : goal.run_all_turns-requires
run_all_turns-requires g c =
    let t = c.turn.ensures in
    let gone = gone-then g.S.Store.disk c.args.self.now c.loop-alloc.self c.turn.new.self c.loop-alloc.invariant.gone t.continues t.later t.turned in
    record { sound = gone.going.sound; unready = gone.unready; still = gone.still }

pub returns-then-len-gt1 : goal.returns-then-len-gt1
returns-then-len-gt1 g c =
    let disk = g.S.Store.disk in
    let a = c.args.self.now in
    let t = c.turn.ensures in
    let r = c.run_among.ensures in
    let gone = gone-then disk a c.turn.new.self c.run_among.new.self (gone-then disk a c.loop-alloc.self c.turn.new.self c.loop-alloc.invariant.gone t.continues t.later t.turned) r.continues r.later r.turned in
    record { continues = gone.going; later = gone.later; turned = gone.turned; settled = r.settled }

pub returns-in-All : goal.returns-in-All
returns-in-All g c =
    let disk = g.S.Store.disk in
    let a = c.args.self.now in
    let t = c.turn.ensures in
    let r = c.run_all_turns.ensures in
    let gone = gone-then disk a c.turn.new.self c.run_all_turns.new.self (gone-then disk a c.loop-alloc.self c.turn.new.self c.loop-alloc.invariant.gone t.continues t.later t.turned) r.continues r.later r.turned in
    record { continues = gone.going; later = gone.later; turned = gone.turned; settled = r.settled }

pub returns : goal.returns
returns g c =
    let b = c.loop-alloc.self.state in
    let v = c.loop-alloc.invariant in
    let l = c.index.result.now in
    record {
      continues = v.gone.going;
      later = v.gone.later;
      turned = v.gone.turned;
      settled = idle-settled b c.args.i l v.gone.going.sound (at-read _ b c.args.i l (state-is _ _ c.self.view_is) v.within c.index.ensures) v.idle (sym c.can_turn.ensures ∙ c.loop-alloc-test.false);
    }
