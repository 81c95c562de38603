use Rattle.std.proofs.Common.{◌≡◌, ◌∙◌, ◌<◌, ◌^◌, Some, ap, arith, map, rules, sym, to_z, of_z, w64}
use Rattle.std.proofs.lemmas.List.{length-map}
use Rattle.std.specs.Ordering.{int_eq}
use Rattle.std.specs.HashMap.{get}
use Rattle.kb_producers.specs.Table.{kept_from, newest_place}
use Rattle.kb_producers.proofs.Places.{place_le}
use Rattle.kb_producers.proofs.Tables.{place_told}
use Rattle.kb_producers.proofs.table.ProducerTable.newest_place.Goals as goal

pub returns-in-Some : goal.returns-in-Some
returns-in-Some c =
    let t = c.self.inside in
    let kept = map kept_from t.list.items in
    let small : t.gone < 2 ^ 32 = search rules in
    let few : newest_place c.args.id kept < 2 ^ 32 = omega (arith, c.self.invariant.few, place_le c.args.id kept, length-map t.list.items kept_from) in
    let own : to_z w64 (of_z w64 c.args.id) ≡ c.args.id = search rules in
    let found : get int_eq t.newest c.args.id ≡ Some c.in-Some.count.now = ap (λ i. get int_eq t.newest i) (sym own) ∙ sym c.in-Some.ensures.value in
    place_told t.gone (newest_place c.args.id kept) c.in-Some.count.now (get int_eq t.newest c.args.id) (c.self.invariant.newest c.args.id) found small few
    ∙ ap (λ s. newest_place c.args.id s.kept) c.self.view_is
