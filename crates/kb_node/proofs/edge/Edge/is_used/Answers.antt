use Rattle.std.proofs.Common.{◌∙◌, IfSome, inl, inr, refl, subst, sym}
use Rattle.kb_node.specs.Closing.{IsUsedOfLate}
use Rattle.kb_node.proofs.Cores.{item_at, same_at}
use Rattle.kb_node.proofs.Seats.{kept_at}
use Rattle.kb_node.proofs.edge.Edge.is_used.Goals as goal
use Rattle.kb_node.proofs.edge.Edge.is_used.Goals.{then-is_idle, else-is_idle}

pub returns-then-is_idle_too_long-clause-seen : goal.returns-then-is_idle_too_long-clause-seen
returns-then-is_idle_too_long-clause-seen g c = same_at _ c.args.self.now.sockets c.in-Some.place c.in-Some-get_mut.socket.now _ (c.in-Some-get_mut.ensures.variant.0 refl) c.in-Some-get_mut.ensures.value refl

pub returns-in-Ok-clause-seen : goal.returns-in-Ok-clause-seen
returns-in-Ok-clause-seen g c = same_at _ c.args.self.now.sockets c.in-Some.place c.in-Some-get_mut.socket.now _ (c.in-Some-get_mut.ensures.variant.0 refl) c.in-Some-get_mut.ensures.value refl

pub returns-in-Err-clause-seen : goal.returns-in-Err-clause-seen
returns-in-Err-clause-seen g c = same_at _ c.args.self.now.sockets c.in-Some.place c.in-Some-get_mut.socket.now _ (c.in-Some-get_mut.ensures.variant.0 refl) c.in-Some-get_mut.ensures.value refl

pub invariant_of-self-then-is_idle_too_long-clause-seated : goal.invariant_of-self-then-is_idle_too_long-clause-seated
invariant_of-self-then-is_idle_too_long-clause-seated g c = kept_at _ _ _ c.args.self.now.sockets c.in-Some.place c.in-Some-get_mut.socket.now _ (c.in-Some-get_mut.ensures.variant.0 refl)
    c.in-Some-get_mut.ensures.value refl refl c.args.self.now.seated

pub invariant_of-self-in-Ok-clause-seated : goal.invariant_of-self-in-Ok-clause-seated
invariant_of-self-in-Ok-clause-seated g c = kept_at _ _ _ c.args.self.now.sockets c.in-Some.place c.in-Some-get_mut.socket.now _ (c.in-Some-get_mut.ensures.variant.0 refl)
    c.in-Some-get_mut.ensures.value refl refl c.args.self.now.seated

pub invariant_of-self-in-Err-clause-seated : goal.invariant_of-self-in-Err-clause-seated
invariant_of-self-in-Err-clause-seated g c = kept_at _ _ _ c.args.self.now.sockets c.in-Some.place c.in-Some-get_mut.socket.now _ (c.in-Some-get_mut.ensures.variant.0 refl)
    c.in-Some-get_mut.ensures.value refl refl c.args.self.now.seated

pub returns-in-Ok-clause-used : goal.returns-in-Ok-clause-used
returns-in-Ok-clause-used g c = λ _.
    subst (λ o. IfSome o (IsUsedOfLate c.args.self.now.times.idle_millis c.args.self.now.clock))
    (sym (item_at c.args.self.now.sockets c.in-Some.place c.in-Some-get_mut.socket.now (c.in-Some-get_mut.ensures.variant.0 refl) c.in-Some-get_mut.ensures.value)
    ∙ c.in-Some.ensures.found c.args.self.now.seated.in_order)
    (record {
      since = c.if-is_idle.since;
      used = elim c.if-is_idle.branch [ then-is_idle w ↦ inl w.since-is | else-is_idle w ↦ inr w.since-is ];
      in_time = sym c.is_idle_too_long.ensures ∙ c.if-is_idle_too_long.false;
    })
