use Rattle.std.proofs.Common.{List, ◌≡◌, ◌∙◌, ◌<◌, ◌+◌, ◌-◌, ◌%◌, ◌^◌, cond, Some, length, map, min, sym, ap, subst, arith, rules, deque_capacity, deque_len, to_z, of_z, w64}
use Rattle.std.proofs.lemmas.List.{length-map}
use Rattle.std.specs.Ordering.{int_eq}
use Rattle.std.specs.HashMap.{get, spare}
use Rattle.kb_producers.specs.declared.kept.Kept.{Kept}
use Rattle.kb_producers.specs.declared.link.Link.{Link}
use Rattle.kb_producers.specs.Table.{kept_from, newest_place, IsLinked, IsTable}
use Rattle.kb_producers.proofs.Places.{place_le}
use Rattle.kb_producers.proofs.Tables.{pushed, ok_gives}
use Rattle.kb_producers.proofs.table.ProducerTable.append_kept.Goals as goal

pub overflow_sub-place : goal.overflow_sub-place
overflow_sub-place c =
    let in_list = place_le (to_z w64 (of_z w64 c.args.batch.producer_id)) c.args.self.now.kept in
    let same = ap (λ s. length s.kept) c.self.view_is in
    let mapped = length-map c.self.inside.list.items kept_from in
    let long = c.self.inside.list.ok.0 in
    omega (arith, in_list, same, mapped, long)

pub invariant_of-self : goal.invariant_of-self
invariant_of-self c =
    let t = c.self.inside in
    let links = t.list.items in
    let id = to_z w64 (of_z w64 c.args.batch.producer_id) in
    let l : Link = c.of-link.result in
    let count = (t.gone + (c.len.result + 1)) % 2 ^ 32 in
    let v : min (2 ^ 32 - 1 - length links) (min (deque_capacity t.list - deque_len t.list) (spare t.newest)) ≡ c.args.self.now.room = ap (λ s. s.room) c.self.view_is in
    let room : 0 < spare t.newest = omega (arith, v, c.requires.room) in
    let few : length links + 1 < 2 ^ 32 = omega (arith, v, c.requires.room) in
    let u = ok_gives c.insert.result (c.insert.ensures.succeeds room) c.insert.ensures.updates in
    let long : c.len.result ≡ length links = c.len.ensures ∙ t.list.ok.0 in
    let own : id ≡ c.args.batch.producer_id = search rules in
    let same : id ≡ l.producer_id = own ∙ sym (ap (λ (k : Kept). k.producer_id) c.of-link.ensures.kept) in
    let newest : c.newest_place-newest.result ≡ newest_place l.producer_id (map kept_from links) =
    c.newest_place-newest.ensures ∙ sym (ap (λ s. newest_place id s.kept) c.self.view_is) ∙ ap (λ i. newest_place i (map kept_from links)) same in
    let before : l.before ≡ c.len.result + 1 - c.newest_place-newest.result = c.of-link.ensures.before in
    let in_list = place_le l.producer_id (map kept_from links) in
    let mapped = length-map links kept_from in
    let leads : IsLinked l (length links) (map kept_from links) = omega (arith, long, newest, before, in_list, mapped) in
    subst (λ xs. IsTable xs (get int_eq c.insert.new.self) t.gone) (sym {A = List Link} c.push_back_reserved.ensures.items)
    (pushed links l (get int_eq t.newest) (get int_eq c.insert.new.self) t.gone count c.self.invariant few leads (ap (λ n. (t.gone + (n + 1)) % 2 ^ 32) long)
    (λ q. u.0 q ∙ ap (λ i. cond (int_eq i q) (Some count) (get int_eq t.newest q)) same))
