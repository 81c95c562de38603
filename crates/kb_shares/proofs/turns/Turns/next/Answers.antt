use Rattle.std.proofs.Common.{◌≡◌, ◌<◌, ◌∷◌, List, ℕ, [], length, map, set, slice_index_or, arith, subst, sym, ap, ◌∙◌}
use Rattle.std.proofs.lemmas.Grind.{common_steps}
use Rattle.std.proofs.lemmas.Bool.Decides.{nat_tests}
use Rattle.kb_shares.specs.Turns.{IsInOrder, lines_of, after_next}
use Rattle.kb_shares.proofs.Lines.{items_of, left_turned, left_last, left_order, left_shorter}
use Rattle.kb_shares.proofs.turns.Turns.next.Goals as goal

pub invariant_of-self-then-not-is_empty : goal.invariant_of-self-then-not-is_empty
invariant_of-self-then-not-is_empty c =
    let first : c.self.inside.order.items ≡ c.in_ok-holder.holder ∷ c.pop_front.new.self.items = c.in_ok-holder.ensures.items in
    let there : c.in_ok-holder.holder < length c.self.inside.members.items = grind (arith, c.in_ok-line.ensures.variant) in
    let inside : IsInOrder (map items_of c.self.inside.members.items) (c.in_ok-holder.holder ∷ c.pop_front.new.self.items) =
    subst (IsInOrder (map items_of c.self.inside.members.items)) first c.self.invariant in
    let some : 0 < length c.pop_front-member.new.self.items = grind (arith, c.if-not-is_empty.true, c.is_empty.ensures, c.pop_front-member.auto.self, nat_tests) in
    subst (IsInOrder (map items_of (set c.self.inside.members.items c.in_ok-holder.holder c.pop_front-member.new.self))) (sym c.push_back_reserved.ensures.items)
    (left_order items_of c.self.inside.members.items c.pop_front.new.self.items c.in_ok-holder.holder c.pop_front-member.new.self inside there some)

pub invariant_of-self-else-not-is_empty : goal.invariant_of-self-else-not-is_empty
invariant_of-self-else-not-is_empty c =
    let first : c.self.inside.order.items ≡ c.in_ok-holder.holder ∷ c.pop_front.new.self.items = c.in_ok-holder.ensures.items in
    let there : c.in_ok-holder.holder < length c.self.inside.members.items = grind (arith, c.in_ok-line.ensures.variant) in
    let inside : IsInOrder (map items_of c.self.inside.members.items) (c.in_ok-holder.holder ∷ c.pop_front.new.self.items) =
    subst (IsInOrder (map items_of c.self.inside.members.items)) first c.self.invariant in
    let none : c.pop_front-member.new.self.items ≡ [] = grind (arith, common_steps, c.if-not-is_empty.false, c.is_empty.ensures, c.pop_front-member.auto.self, nat_tests) in
    left_shorter items_of c.self.inside.members.items c.pop_front.new.self.items c.in_ok-holder.holder c.pop_front-member.new.self inside there none

pub returns-then-not-is_empty-clause-others : goal.returns-then-not-is_empty-clause-others
returns-then-not-is_empty-clause-others c =
    let first : c.self.inside.order.items ≡ c.in_ok-holder.holder ∷ c.pop_front.new.self.items = c.in_ok-holder.ensures.items in
    let there : c.in_ok-holder.holder < length c.self.inside.members.items = grind (arith, c.in_ok-line.ensures.variant) in
    let inside : IsInOrder (map items_of c.self.inside.members.items) (c.in_ok-holder.holder ∷ c.pop_front.new.self.items) =
    subst (IsInOrder (map items_of c.self.inside.members.items)) first c.self.invariant in
    let some : 0 < length c.pop_front-member.new.self.items = grind (arith, c.if-not-is_empty.true, c.is_empty.ensures, c.pop_front-member.auto.self, nat_tests) in
    let is : c.in_ok-line.line.now ≡ slice_index_or c.self.inside.members.items c.in_ok-holder.holder c.in_ok-line.line.now = c.in_ok-line.ensures.item.1 in
    ap (lines_of (map items_of (set c.self.inside.members.items c.in_ok-holder.holder c.pop_front-member.new.self))) c.push_back_reserved.ensures.items
    ∙ left_turned items_of c.self.inside.members.items c.pop_front.new.self.items c.in_ok-holder.holder c.in_ok-line.line.now c.pop_front-member.new.self inside there is c.pop_front-member.ensures.rest some
    ∙ ap (λ (o : List ℕ). after_next (lines_of (map items_of c.self.inside.members.items) o)) (sym first)
    ∙ ap after_next c.self.view_is

pub returns-else-not-is_empty-clause-others : goal.returns-else-not-is_empty-clause-others
returns-else-not-is_empty-clause-others c =
    let first : c.self.inside.order.items ≡ c.in_ok-holder.holder ∷ c.pop_front.new.self.items = c.in_ok-holder.ensures.items in
    let there : c.in_ok-holder.holder < length c.self.inside.members.items = grind (arith, c.in_ok-line.ensures.variant) in
    let inside : IsInOrder (map items_of c.self.inside.members.items) (c.in_ok-holder.holder ∷ c.pop_front.new.self.items) =
    subst (IsInOrder (map items_of c.self.inside.members.items)) first c.self.invariant in
    let none : c.pop_front-member.new.self.items ≡ [] = grind (arith, common_steps, c.if-not-is_empty.false, c.is_empty.ensures, c.pop_front-member.auto.self, nat_tests) in
    let is : c.in_ok-line.line.now ≡ slice_index_or c.self.inside.members.items c.in_ok-holder.holder c.in_ok-line.line.now = c.in_ok-line.ensures.item.1 in
    left_last items_of c.self.inside.members.items c.pop_front.new.self.items c.in_ok-holder.holder c.in_ok-line.line.now c.pop_front-member.new.self inside there is c.pop_front-member.ensures.rest none
    ∙ ap (λ (o : List ℕ). after_next (lines_of (map items_of c.self.inside.members.items) o)) (sym first)
    ∙ ap after_next c.self.view_is
