use Rattle.std.proofs.Common.{◌≡◌, ◌∙◌, ◌<◌, cond, None, ◌∷◌, length, map, sym, ap, subst, arith, refl, rules, deque_len, to_z, of_z, w64}
use Rattle.std.specs.Ordering.{int_eq}
use Rattle.std.specs.HashMap.{get}
use Rattle.kb_producers.specs.Table.{kept_from, newest_place, IsTable}
use Rattle.kb_producers.proofs.Tables.{front_popped, popped, popped_newest}
use Rattle.kb_producers.proofs.table.ProducerTable.drop_first.Goals as goal

pub invariant_of-self : goal.invariant_of-self
invariant_of-self c =
    let t = c.self.inside in
    let first = c.in-Some.first.now in
    let rest = c.pop_front.new.self.items in
    let long = t.list.ok.0 in
    let some : 0 < length t.list.items = let filled : 0 < deque_len t.list = c.in-Some.ensures.variant.0 refl in omega (arith, long, filled) in
    let list : t.list.items ≡ first ∷ rest = front_popped t.list.items rest first some c.in-Some.ensures.lookup c.pop_front.ensures.rest in
    let own : to_z w64 (of_z w64 first.producer_id) ≡ first.producer_id = search rules in
    let newest : newest_place first.producer_id (map kept_from (first ∷ rest)) ≡ 1 =
    sym (ap (λ xs. newest_place first.producer_id (map kept_from xs)) list) ∙ ap (λ i. newest_place i (map kept_from t.list.items)) (sym own)
    ∙ ap (λ s. newest_place (to_z w64 (of_z w64 first.producer_id)) s.kept) c.self.view_is ∙ sym c.newest_place-newest.ensures ∙ c.if-newest-eq1.true in
    let u = c.remove.ensures.updates in
    popped_newest first rest (get int_eq t.newest) t.gone (get int_eq c.remove.new.self) (subst (λ xs. IsTable xs (get int_eq t.newest) t.gone) list c.self.invariant) newest
    (λ q. u.0 q ∙ ap (λ i. cond (int_eq i q) None (get int_eq t.newest q)) own)

pub invariant_of-self-else-newest-eq1 : goal.invariant_of-self-else-newest-eq1
invariant_of-self-else-newest-eq1 c =
    let t = c.self.inside in
    let first = c.in-Some.first.now in
    let rest = c.pop_front.new.self.items in
    let long = t.list.ok.0 in
    let some : 0 < length t.list.items = let filled : 0 < deque_len t.list = c.in-Some.ensures.variant.0 refl in omega (arith, long, filled) in
    let list : t.list.items ≡ first ∷ rest = front_popped t.list.items rest first some c.in-Some.ensures.lookup c.pop_front.ensures.rest in
    let own : to_z w64 (of_z w64 first.producer_id) ≡ first.producer_id = search rules in
    let place : newest_place first.producer_id (map kept_from (first ∷ rest)) ≡ c.newest_place-newest.result =
    sym (ap (λ xs. newest_place first.producer_id (map kept_from xs)) list) ∙ ap (λ i. newest_place i (map kept_from t.list.items)) (sym own)
    ∙ ap (λ s. newest_place (to_z w64 (of_z w64 first.producer_id)) s.kept) c.self.view_is ∙ sym c.newest_place-newest.ensures in
    popped first rest (get int_eq t.newest) t.gone (subst (λ xs. IsTable xs (get int_eq t.newest) t.gone) list c.self.invariant) (λ one. c.if-newest-eq1.false (sym place ∙ one))
