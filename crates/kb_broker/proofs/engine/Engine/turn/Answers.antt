use Rattle.std.proofs.Common.{arith, subst, sym}
use Rattle.kb_isolation_spec.specs.declared.whom.Whom.TheVariants as whoms
use Rattle.kb_isolation_spec.proofs.Turns.{going-then}
use Rattle.kb_isolation_spec.proofs.Wakes.{turned-served}
use Rattle.kb_broker.specs.Places.{number_at}
use Rattle.kb_broker.specs.Parked.{AreMinded, IsConfined, IsLeftTo, IsOwnTo, IsServedFor, SameBut}
use Rattle.kb_broker.proofs.Going.{confined-these, turned-these}
use Rattle.kb_isolation_spec.specs.Turned.{HasTenant}
use Rattle.kb_broker.specs.Truth.{SpeaksFor, SpeaksTruth}
use Rattle.kb_broker.proofs.Honest.{later-both, later-from}
use Rattle.kb_broker.proofs.Truth.{turn_then}
use Rattle.kb_broker.proofs.engine.Engine.turn.Goals as goal

pub serve-concerned-requires : goal.serve-concerned-requires
serve-concerned-requires g c = c.requires

pub wake_each-requires : goal.wake_each-requires
wake_each-requires g c = c.serve-concerned.ensures.continues.sound

pub wake_all-requires : goal.wake_all-requires
wake_all-requires g c = c.serve-concerned.ensures.continues.sound

pub returns-in-Nobody : goal.returns-in-Nobody
returns-in-Nobody g c =
    let a = c.args.self.now.state in
    let b = c.serve-concerned.new.self.state in
    let s = c.serve-concerned.ensures in
    record {
      continues = s.continues;
      later = s.later;
      turned = λ honest scope still. subst (λ r. IsServedFor r scope a b) c.in-Nobody.is (s.served honest scope still);
      confined = subst (λ r. IsConfined r (number_at c.args.i a) a b) (sym c.in-Nobody.is) s.others;
      shrinks = s.shrinks;
    }

pub returns-in-These : goal.returns-in-These
returns-in-These g c =
    let a = c.args.self.now.state in
    let b = c.serve-concerned.new.self.state in
    let d = c.wake_each.new.self.state in
    let s = c.serve-concerned.ensures in
    let w = c.wake_each.ensures in
    let t = c.in-These.tenant in
    let ns = c.in-These.numbers.items in
    let n = number_at c.args.i a in
    let own = subst (λ r. IsOwnTo r n) c.in-These.is s.includes_itself in
    let same : SameBut ns b d = subst (λ ks. SameBut ks b d) c.deref.ensures.value w.same in
    record {
      continues = going-then a b d s.continues w.continues;
      later = later-from g.S.Store.disk SpeaksTruth c.args.self.now c.wake_each.new.self (later-both g.S.Store.disk SpeaksTruth (SpeaksFor (whoms.Tenant t)) c.args.self.now c.serve-concerned.new.self c.wake_each.new.self s.later w.later)
          (λ honest. turn_then (whoms.Tenant t) a b d (s.later.spoken (w.later.honest honest)) (w.later.spoken honest)
          (λ scope still u same. subst (HasTenant scope b) (sym same) (subst (λ r. IsServedFor r scope a b) c.in-These.is (s.served (w.later.honest honest) scope still)).tenants));
      turned = λ honest scope still.
          let before = w.later.honest honest in
          turned-these t ns scope a b d (subst (λ r. IsServedFor r scope a b) c.in-These.is (s.served before scope still))
          (subst (AreMinded (whoms.Tenant t) b d) c.deref.ensures.value (w.minded honest)) (subst (λ r. IsLeftTo r b) c.in-These.is (s.remaining before));
      confined = subst (λ r. IsConfined r n a d) (sym c.in-These.is) (own, confined-these ns n a b d own s.others same);
      shrinks = (let first = s.shrinks in let then = w.work in omega (arith, first, then));
    }

pub returns-in-All : goal.returns-in-All
returns-in-All g c =
    let a = c.args.self.now.state in
    let b = c.serve-concerned.new.self.state in
    let d = c.wake_all.new.self.state in
    let s = c.serve-concerned.ensures in
    let w = c.wake_all.ensures in
    record {
      continues = going-then a b d s.continues w.continues;
      later = later-from g.S.Store.disk SpeaksTruth c.args.self.now c.wake_all.new.self (later-both g.S.Store.disk SpeaksTruth (SpeaksFor (whoms.Tenant c.in-All.tenant)) c.args.self.now c.serve-concerned.new.self c.wake_all.new.self s.later w.later)
          (λ honest. turn_then (whoms.Tenant c.in-All.tenant) a b d (s.later.spoken (w.later.honest honest)) (w.later.spoken honest)
          (λ scope still u same. subst (HasTenant scope b) (sym same) (subst (λ r. IsServedFor r scope a b) c.in-All.is (s.served (w.later.honest honest) scope still)).tenants));
      turned = λ honest scope still. turned-served c.in-All.tenant scope a b d (subst (λ r. IsServedFor r scope a b) c.in-All.is (s.served (w.later.honest honest) scope still)) (w.waked honest) (w.looked honest) (w.unready honest);
      confined = subst (λ r. IsConfined r (number_at c.args.i a) a d) (sym c.in-All.is) tt;
      shrinks = (let first = s.shrinks in let then = w.work in omega (arith, first, then));
    }
