use Rattle.std.proofs.Common.{◌≤◌, ◌∙◌, arith, length, rules, sym}
use Rattle.kb_isolation_spec.proofs.Turns.{going-then}
use Rattle.kb_broker.proofs.Fields.{all-free, none-passed}
use Rattle.kb_broker.specs.Truth.{SpeaksFor}
use Rattle.kb_broker.proofs.Honest.{later-after}
use Rattle.kb_broker.proofs.Truth.{looks_then}
use Rattle.kb_broker.proofs.Looked.{passed-looked-all, passed-rest-all, waked-all}
use Rattle.kb_broker.proofs.engine.Engine.wake_all.Goals as goal

pub loop-i-preserved : goal.loop-i-preserved
loop-i-preserved g c =
    let v = c.loop-i.invariant in
    let t = c.look_at.ensures in
    let old = c.loop-i.self.state in
    let new = c.look_at.new.self.state in
    let size = t.more.work in
    record {
      end = v.end;
      going = going-then c.args.self.now.state old new v.going t.more.going;
      later = later-after g.S.Store.disk (SpeaksFor c.args.whom) (SpeaksFor c.args.whom) (SpeaksFor c.args.whom) c.args.self.now c.loop-i.self c.look_at.new.self v.later t.later (looks_then c.args.whom c.args.self.now.state old new v.going);
      work = (let before = v.work in omega (arith, before, size));
      waked = λ honest. t.waked honest c.args.self.now.state (v.waked (t.later.honest honest));
    }

pub returns-then-not-any_waits-clause-looked : goal.returns-then-not-any_waits-clause-looked
returns-then-not-any_waits-clause-looked g c = λ honest. passed-looked-all c.args.whom c.args.self.now.state (none-passed c.args.whom c.args.self.now.state (all-free _ (sym c.any_waits.ensures ∙ c.if-not-any_waits.true)))

pub returns-then-not-any_waits-clause-unready : goal.returns-then-not-any_waits-clause-unready
returns-then-not-any_waits-clause-unready g c = λ honest. passed-rest-all c.args.whom c.args.self.now.state (none-passed c.args.whom c.args.self.now.state (all-free _ (sym c.any_waits.ensures ∙ c.if-not-any_waits.true)))

pub returns-clause-looked : goal.returns-clause-looked
returns-clause-looked g c = λ honest.
    let end : length c.args.self.now.state.lines ≤ c.loop-i.i = search rules in
    (waked-all c.args.whom c.args.self.now.state c.loop-i.self.state c.loop-i.i (c.loop-i.invariant.waked honest) end).looked

pub returns-clause-unready : goal.returns-clause-unready
returns-clause-unready g c = λ honest.
    let end : length c.args.self.now.state.lines ≤ c.loop-i.i = search rules in
    (waked-all c.args.whom c.args.self.now.state c.loop-i.self.state c.loop-i.i (c.loop-i.invariant.waked honest) end).rest
