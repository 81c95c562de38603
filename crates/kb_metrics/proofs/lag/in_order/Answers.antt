use Rattle.std.proofs.Common.{List, map, refl, subst, ℕ}
use Rattle.std.specs.List.Sorted.{IsStrictlySortedBy}
use Rattle.kb_settings.proofs.NamesInOrder.{only-in_order}
use Rattle.kb_settings.specs.Names.{byte_order}
use Rattle.kb_metrics.proofs.lag.in_order.Goals as goal

pub returns-then-is_rising : goal.returns-then-is_rising
returns-then-is_rising c =
    let names : List (List ℕ) = map (λ n. n.now) c.args.names.items in
    let rises : IsStrictlySortedBy byte_order names =
    subst (λ ns. IsStrictlySortedBy byte_order (map (λ n. n.now) ns)) c.deref.ensures.value (c.is_rising.ensures.0 c.if-is_rising.true) in
    only-in_order names names rises (λ q. refl)
