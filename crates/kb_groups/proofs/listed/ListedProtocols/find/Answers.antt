use Rattle.std.proofs.Common.{◌∙◌, sym, ap, slice_get}
use Rattle.kb_groups.proofs.Index.{got, found_at, found_front, found_none}
use Rattle.kb_groups.proofs.listed.ListedProtocols.find.Goals as goal

pub returns-then-eq : goal.returns-then-eq
returns-then-eq c = rw (← c.self.view_is) (found_front c.self.inside.items.items c.in-Some.first.now c.as_slice.result.now c.args.name.now (c.in-Some.ensures.value ∙ ap (λ l. slice_get l 0) c.deref.ensures.value) c.as_slice.ensures (sym c.eq.ensures ∙ c.if-eq.true))

pub returns-in-Some-get : goal.returns-in-Some-get
returns-in-Some-get c =
    got c.deref-in-Some-get.result.now c.in-Some-get.place.now c.get-in-Some-get.result c.get-in-Some-get.ensures.lookup.0 c.get-in-Some-get.ensures.lookup.1 ∙ ap (λ l. slice_get l c.in-Some-get.place.now) c.deref-in-Some-get.ensures.value ∙ rw (← c.self.view_is) (found_at c.self.inside.items.items c.args.name.now c.in-Some-get.place.now (sym (c.self.invariant.0 c.args.name.now) ∙ sym c.in-Some-get.ensures.value))

pub returns-in-None : goal.returns-in-None
returns-in-None c = rw (← c.self.view_is) (found_none c.self.inside.items.items c.args.name.now (sym (c.self.invariant.0 c.args.name.now) ∙ sym c.in-None.ensures.value))
