use Rattle.std.proofs.Common.{◌≡◌, ◌++◌, ◌∷◌, ◌∙◌, [], ap, inl, inr, refl, subst, sym, rules}
use Rattle.kb_node.specs.Doors.{IsAtPort}
use Rattle.kb_node.proofs.Listed.{listed_by, unlisted_by}
use Rattle.kb_node.proofs.doors.Doors.add.Goals as goal

pub returns-then-contains-clause-added : goal.returns-then-contains-clause-added
returns-then-contains-clause-added g c = record {
  at = c.with_port-address.result;
  asked = subst (λ p. IsAtPort p c.args.address c.with_port-address.result) c.port.ensures c.with_port-address.ensures;
  listens = inl (listed_by _ _ c.with_port-address.result c.contains.ensures.value c.deref.ensures.value c.if-contains.true (λ a. search rules), refl);
}

pub returns-in-Ok-clause-added : goal.returns-in-Ok-clause-added
returns-in-Ok-clause-added g c = record {
  at = c.with_port-address.result;
  asked = subst (λ p. IsAtPort p c.args.address c.with_port-address.result) c.port.ensures c.with_port-address.ensures;
  listens = inr (
    λ there. unlisted_by _ _ c.with_port-address.result c.contains.ensures.value c.deref.ensures.value c.if-contains.false (λ a. search rules) there.0 there.1,
    record {
      listener = c.in-Ok.listener;
      address = c.in-Ok.address;
      behind = λ i. record {
        listeners = (c.push_reserved.ensures.items ∙ ap (λ xs. xs ++ c.in-Ok.listener ∷ []) c.reserve.ensures.items) i;
        addresses = (c.push_reserved-in-Ok.ensures.items ∙ ap (λ xs. xs ++ c.in-Ok.address ∷ []) c.reserve-2.ensures.items) i;
      };
    },
  );
}
