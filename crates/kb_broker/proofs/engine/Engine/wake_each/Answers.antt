use Rattle.std.proofs.Common.{◌≡◌, ◌≤◌, ◌+◌, length, take, get_or, refl, subst, sym, arith}
use Rattle.std.proofs.lemmas.List.Elements.{Contains-get_or}
use Rattle.kb_isolation_spec.specs.Machine.{work}
use Rattle.kb_isolation_spec.specs.Turned.{IsGoing, SameOthers}
use Rattle.kb_isolation_spec.proofs.Sets.{find-none}
use Rattle.kb_isolation_spec.proofs.Turns.{going-then}
use Rattle.kb_broker.specs.Hosts.{OnStore, is_honest, IsLaterBy}
use Rattle.kb_broker.specs.Parked.{AreMinded, SameBut}
use Rattle.kb_broker.specs.Places.{number_at}
use Rattle.kb_broker.proofs.Fields.{minded-take, number-some, same-more}
use Rattle.kb_broker.specs.Truth.{SpeaksFor}
use Rattle.kb_broker.proofs.Honest.{later-after}
use Rattle.kb_broker.proofs.Truth.{looks_then}
use Rattle.kb_broker.proofs.Parked.{minded-absent}
use Rattle.kb_broker.proofs.engine.Engine.wake_each.Goals as goal
use Rattle.kb_broker.proofs.engine.Engine.wake_each.Goals.{in-Some, in_default}

pub loop-number-preserved : goal.loop-number-preserved
loop-number-preserved g c =
    let disk = g.S.Store.disk in
    let a = c.args.self.now in
    let whom = c.args.whom in
    let ns = c.args.numbers.now in
    let j = c.loop-number.number-index in
    let n = get_or ns j 0 in
    let old = c.loop-number.self in
    let v = c.loop-number.invariant in
    let lt = c.loop-number-test.true in
    let Then : OnStore g.row.S.Denot → Type 0 = λ x. record {
      end : length ns ≡ length ns;
      going : IsGoing a.state x.state;
      later : IsLaterBy disk (SpeaksFor whom) a x;
      minded : is_honest disk x → AreMinded whom a.state x.state (take (j + 1) ns);
      same : SameBut ns a.state x.state;
      work : work x.state.lines ≤ work a.state.lines;
    } in
    elim c.match-place_of.branch [
      | in-Some w ↦
          let new = w.look_at.new.self in
          let t = w.look_at.ensures in
          let i = w.in-Some.i in
          let at : number_at i old.state ≡ n = number-some old.state i n w.in-Some.ensures.within w.in-Some.ensures.some in
          let size = t.more.work in
          let before = v.work in
          subst Then (sym w.self-is)
          (record {
            end = refl;
            going = going-then a.state old.state new.state v.going t.more.going;
            later = later-after disk (SpeaksFor whom) (SpeaksFor whom) (SpeaksFor whom) a old new v.later t.later (looks_then whom a.state old.state new.state v.going);
            minded = λ honest. minded-take whom a.state new.state ns j (number_at i old.state) lt at (t.minded honest a.state (take j ns) (v.minded (t.later.honest honest)));
            same = same-more ns n a.state old.state new.state (Contains-get_or ns j 0 lt) v.same (subst (λ m. SameOthers m old.state new.state) at t.more.others);
            work = omega (arith, size, before);
          })
      | in_default w ↦
          subst Then (sym w.self-is)
          (record {
            end = refl;
            going = v.going;
            later = v.later;
            minded = λ honest. minded-take whom a.state old.state ns j n lt refl (minded-absent whom a.state old.state n (take j ns) (v.minded honest) (find-none n old.state.lines w.in_default.ensures.none));
            same = v.same;
            work = v.work;
          })
    ]
