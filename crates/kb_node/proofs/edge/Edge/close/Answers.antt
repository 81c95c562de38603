use Rattle.kb_node.proofs.Alone.{alone_none, closed_at, gone_none}
use Rattle.kb_node.proofs.Seats.{closed}
use Rattle.std.proofs.Common.{◌≡◌, ◌∙◌, IfSome, true, false, ap, refl, sym, subst}
use Rattle.kb_node.specs.Closing.{IsForgotten, silent_of}
use Rattle.kb_node.proofs.Cores.{item_at, same_at}
use Rattle.kb_node.proofs.Goes.{goes_carried, goes_still}
use Rattle.kb_node.proofs.Telling.{telling_at_place, telling_still}
use Rattle.kb_node.proofs.edge.Edge.close.Goals as goal

pub returns-clause-goes : goal.returns-clause-goes
returns-clause-goes g c =
    goes_carried _ _ c.args.self.now.sockets c.in-Some.place c.in-Some-get_mut.socket.now c.close.new.self (c.in-Some-get_mut.ensures.variant.0 refl)
    c.in-Some-get_mut.ensures.value c.close.ensures.connection (sym c.is_ended.ensures ∙ c.if-is_ended.false) c.close.ensures.tried (ap (λ x. x.sync) c.close.ensures.commits) c.close.ensures.tells.carries

pub returns-clause-tells : goal.returns-clause-tells
returns-clause-tells g c =
    telling_at_place _ _ c.args.self.now.sockets c.in-Some.place c.in-Some-get_mut.socket.now c.close.new.self c.close.new.self refl
    (c.in-Some-get_mut.ensures.variant.0 refl) c.in-Some-get_mut.ensures.value c.close.ensures.connection (sym c.is_ended.ensures ∙ c.if-is_ended.false) c.close.ensures.tried (ap (λ x. x.sync) c.close.ensures.commits) c.close.ensures.tells

pub returns-then-is_ended-clause-goes : goal.returns-then-is_ended-clause-goes
returns-then-is_ended-clause-goes g c = goes_still (same_at _ c.args.self.now.sockets c.in-Some.place c.in-Some-get_mut.socket.now _ (c.in-Some-get_mut.ensures.variant.0 refl) c.in-Some-get_mut.ensures.value refl)

pub returns-then-is_ended-clause-tells : goal.returns-then-is_ended-clause-tells
returns-then-is_ended-clause-tells g c = telling_still (same_at _ c.args.self.now.sockets c.in-Some.place c.in-Some-get_mut.socket.now _ (c.in-Some-get_mut.ensures.variant.0 refl) c.in-Some-get_mut.ensures.value refl)

pub returns-clause-closed : goal.returns-clause-closed
returns-clause-closed g c = closed_at c.args.self.now.host c.args.self.now.sockets c.in-Some.place c.args.number c.in-Some-get_mut.socket.now c.close.new.self
    (c.in-Some-get_mut.ensures.variant.0 refl) c.in-Some-get_mut.ensures.value c.in-Some.ensures.found c.args.self.now.seated.in_order c.close.ensures.connection c.close.ensures.ended

pub returns-then-is_ended-clause-closed : goal.returns-then-is_ended-clause-closed
returns-then-is_ended-clause-closed g c = closed_at c.args.self.now.host c.args.self.now.sockets c.in-Some.place c.args.number c.in-Some-get_mut.socket.now c.in-Some-get_mut.socket.now
    (c.in-Some-get_mut.ensures.variant.0 refl) c.in-Some-get_mut.ensures.value c.in-Some.ensures.found c.args.self.now.seated.in_order refl (sym c.is_ended.ensures ∙ c.if-is_ended.true)

pub returns-in_default-clause-closed : goal.returns-in_default-clause-closed
returns-in_default-clause-closed g c = record {
  alone = alone_none _ _;
  gone = gone_none c.args.self.now.host c.args.self.now.sockets.items c.args.number c.in_default.ensures.found c.args.self.now.seated.in_order;
}

pub returns-clause-forgotten : goal.returns-clause-forgotten
returns-clause-forgotten g c =
    subst (λ o. IfSome o (λ s. s.is_ended ≡ false → IsForgotten c.args.number s (silent_of c.args.self.now.silences c.args.self.now.times c.args.self.now.delays)
    (silent_of c.end.new.self c.forget-2.new.self c.forget-3.new.self)))
    (sym (item_at c.args.self.now.sockets c.in-Some.place c.in-Some-get_mut.socket.now (c.in-Some-get_mut.ensures.variant.0 refl) c.in-Some-get_mut.ensures.value) ∙ c.in-Some.ensures.found c.args.self.now.seated.in_order)
    (λ _. record { unread = c.end.ensures.unread; begun = c.forget-2.ensures.begun; looked = c.forget-2.ensures.looked; held = c.forget-3.ensures })

pub returns-then-is_ended-clause-forgotten : goal.returns-then-is_ended-clause-forgotten
returns-then-is_ended-clause-forgotten g c =
    subst (λ o. IfSome o (λ s. s.is_ended ≡ false → IsForgotten c.args.number s (silent_of c.args.self.now.silences c.args.self.now.times c.args.self.now.delays)
    (silent_of c.args.self.now.silences c.args.self.now.times c.args.self.now.delays)))
    (sym (item_at c.args.self.now.sockets c.in-Some.place c.in-Some-get_mut.socket.now (c.in-Some-get_mut.ensures.variant.0 refl) c.in-Some-get_mut.ensures.value) ∙ c.in-Some.ensures.found c.args.self.now.seated.in_order)
    (λ unended. absurd (let no : true ≡ false = sym (sym c.is_ended.ensures ∙ c.if-is_ended.true) ∙ unended in cc))

pub invariant_of-self-then-is_ended-clause-seated : goal.invariant_of-self-then-is_ended-clause-seated
invariant_of-self-then-is_ended-clause-seated g c =
    closed _ _ c.args.self.now.shares c.release.new.self c.args.self.now.sockets c.in-Some.place c.args.number c.in-Some-get_mut.socket.now c.in-Some-get_mut.socket.now (c.in-Some-get_mut.ensures.variant.0 refl) c.in-Some-get_mut.ensures.value refl refl
    c.in-Some.ensures.found (sym c.is_ended.ensures ∙ c.if-is_ended.true) c.release.ensures.none c.args.self.now.seated

pub invariant_of-self-2-clause-seated : goal.invariant_of-self-2-clause-seated
invariant_of-self-2-clause-seated g c = closed _ c.close.new.host c.args.self.now.shares c.release.new.self c.args.self.now.sockets c.in-Some.place c.args.number c.in-Some-get_mut.socket.now c.close.new.self (c.in-Some-get_mut.ensures.variant.0 refl) c.in-Some-get_mut.ensures.value
    c.close.ensures.connection c.close.ensures.tried c.in-Some.ensures.found c.close.ensures.ended c.release.ensures.none c.args.self.now.seated
