use Rattle.std.proofs.Common.{◌≡◌, ◌≤◌, ◌∷◌, All, false, sym, ◌∙◌, ap, subst, arith}
use Rattle.std.proofs.lemmas.List.Sorted.{length_permutation}
use Rattle.kb_isolation_spec.specs.Machine.{find_line}
use Rattle.kb_isolation_spec.proofs.Sets.{find-none}
use Rattle.kb_broker.specs.Parked.{can_in, AreAmong}
use Rattle.kb_broker.proofs.Placed.{found, find-found, number_at-is}
use Rattle.kb_broker.proofs.Going.{among-popped, among-taken, next-least, none-among}
use Rattle.kb_broker.proofs.Honest.{state-is}
use Rattle.kb_broker.proofs.engine.Engine.next_among.Goals as goal

pub returns-then-can_turn-clause-next : goal.returns-then-can_turn-clause-next
returns-then-can_turn-clause-next g c =
    let b = c.args.self.now.state in
    let i = c.in-Some-place_of.i in
    let l = c.index.result.now in
    let e = c.in-Some-place_of.ensures in
    let f = found _ b i c.in-Some.number l (state-is _ _ c.self.view_is) e.within e.some c.index.ensures in
    next-least b i l c.loop-number.able.items c.requires.sound f.at (subst (λ n. All (λ k. n ≤ k) c.loop-number.able.items) (sym f.number) c.in-Some.ensures.least) c.loop-number.invariant.among (sym c.can_turn.ensures ∙ c.if-can_turn.true)

pub returns-then-can_turn-clause-among : goal.returns-then-can_turn-clause-among
returns-then-can_turn-clause-among g c =
    let b = c.args.self.now.state in
    let n = c.in-Some.number in
    let i = c.in-Some-place_of.i in
    let l = c.index.result.now in
    let e = c.in-Some-place_of.ensures in
    let f = found _ b i n l (state-is _ _ c.self.view_is) e.within e.some c.index.ensures in
    let ms = c.take_least.new.self.items in
    subst (λ k. AreAmong (k ∷ ms) b) (sym (number_at-is b i l f.at ∙ f.number)) (among-taken b n c.loop-number.able.items ms c.loop-number.invariant.among c.in-Some.ensures.others)

pub loop-number-preserved-else-can_turn : goal.loop-number-preserved-else-can_turn
loop-number-preserved-else-can_turn g c =
    let b = c.args.self.now.state in
    let n = c.in-Some.number in
    let i = c.in-Some-place_of.i in
    let e = c.in-Some-place_of.ensures in
    let l = c.index.result.now in
    let stuck : can_in (find_line n b.lines) ≡ false =
    ap can_in (find-found b i n l c.requires.sound.rising (found _ b i n l (state-is _ _ c.self.view_is) e.within e.some c.index.ensures)) ∙ (sym c.can_turn.ensures ∙ c.if-can_turn.false) in
    record { among = among-popped b n c.loop-number.able.items c.take_least.new.self.items c.loop-number.invariant.among c.in-Some.ensures.others stuck }

pub loop-number-preserved : goal.loop-number-preserved
loop-number-preserved g c =
    let b = c.args.self.now.state in
    let n = c.in-Some.number in
    record { among = among-popped b n c.loop-number.able.items c.take_least.new.self.items c.loop-number.invariant.among c.in-Some.ensures.others (ap can_in (find-none n b.lines c.in_default-place_of.ensures.none)) }

pub loop-number-smaller-else-can_turn : goal.loop-number-smaller-else-can_turn
loop-number-smaller-else-can_turn g c = let h = length_permutation c.loop-number.able.items (c.in-Some.number ∷ c.take_least.new.self.items) c.in-Some.ensures.others in omega (arith, h)

pub loop-number-smaller : goal.loop-number-smaller
loop-number-smaller g c = let h = length_permutation c.loop-number.able.items (c.in-Some.number ∷ c.take_least.new.self.items) c.in-Some.ensures.others in omega (arith, h)

pub returns-clause-none : goal.returns-clause-none
returns-clause-none g c = none-among c.args.self.now.state c.loop-number.able.items c.requires.sound c.in_default.ensures.none c.loop-number.invariant.among
