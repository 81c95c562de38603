use Rattle.std.proofs.Common.{◌≡◌, ◌∙◌, ◌++◌, ℕ, List, length, map, sym, ap, subst}
use Rattle.std.specs.List.{All, flat_map, range_with_len}
use Rattle.std.specs.List.Sorted.{IsStrictlySortedBy}
use Rattle.kb_settings.proofs.NamesInOrder.{rises-in_order}
use Rattle.kb_settings.specs.Names.{byte_order}
use Rattle.kb_tenant_state.specs.Parts.{world_of}
use Rattle.kb_metrics.specs.Gauges.{groups_at, groups_in, lag_of, topic_lag}
use Rattle.kb_metrics.specs.Rows.{Lag, lag_row}
use Rattle.kb_metrics.specs.Slots.{AreCommitted, lag_among, lag_row_among, slot_at, slot_of}
use Rattle.kb_metrics.proofs.Lags.{among_slots}
use Rattle.kb_metrics.proofs.Steps.{map_alike, on_ok}
use Rattle.kb_metrics.proofs.gather.push_topic_lags.Goals as goal

pub slots-requires : goal.slots-requires
slots-requires g c =
    subst (λ gs. IsStrictlySortedBy byte_order (map (λ n. n.now) gs)) (sym c.deref.ensures.value)
    (subst (IsStrictlySortedBy byte_order) (sym c.in_ok-groups.ensures) (rises-in_order (flat_map groups_at c.args.topic.now.partitions)))

pub push_lags-requires : goal.push_lags-requires
push_lags-requires g c =
    subst (λ gs. All (AreCommitted (map (λ n. n.now) gs)) c.deref-2.result.now) (c.deref.ensures.value ∙ sym c.deref-3.ensures.value)
    (subst (All (AreCommitted (map (λ n. n.now) c.deref.result.now))) (sym c.deref-2.ensures.value) c.in_ok-slots.ensures.kept)

pub returns : goal.returns
returns g c =
    let t = c.args.topic.now in
    let rows = map lag_row c.args.rows.now.items in
    let seen = c.deref-2.result.now in
    let make : List ℕ → List ℕ → ℕ → Lag = λ group topic value. record { group = group; topic = topic; value = value } in
    on_ok c.push_lags.result (λ h files.
    let w = world_of g.L.PartitionLog.log c.args.parts.now files in
    let among : (group : List ℕ) → lag_among group (map slot_of seen) ≡ lag_of w group c.args.instance (length t.partitions)
    = λ group. ap (λ ss. lag_among group (map slot_of ss)) c.deref-2.ensures.value ∙ ap (lag_among group) (c.in_ok-slots.ensures.seen files)
    ∙ ap (λ ps. lag_among group (map (slot_at w c.args.instance) (range_with_len 0 (length ps)))) c.partitions.ensures
    ∙ among_slots w group c.args.instance (length t.partitions) in
    h
    ∙ ap (λ gs. rows ++ map (lag_row_among (map slot_of seen) c.name.result.now) gs)
    (ap (map (λ n. n.now)) c.deref-3.ensures.value ∙ c.in_ok-groups.ensures)
    ∙ ap (λ ls. rows ++ ls) (map_alike (lag_row_among (map slot_of seen) c.name.result.now) (topic_lag w (c.args.instance, t)) (groups_in t)
    (λ group. ap (λ n. make group n (lag_among group (map slot_of seen))) c.name.ensures ∙ ap (make group t.name) (among group))))
    c.push_lags.ensures
