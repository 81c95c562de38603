-- The lag among partitions that were looked up is the lag in the topic.
use Rattle.std.proofs.Common.{◌≡◌, ◌∙◌, ◌+◌, ◌-◌, ◌^◌, ℕ, List, [], ◌∷◌, map, min, refl, sym, ap}
use Rattle.std.specs.List.{range_with_len, sum_by}
use Rattle.std.proofs.lemmas.List.Sums.{sum_by-cons}
use Rattle.kb_tenant_state.specs.Calls.{numbered}
use Rattle.kb_tenant_state.specs.World.{World}
use Rattle.kb_metrics.specs.Gauges.{lag_at, lag_of}
use Rattle.kb_metrics.specs.Slots.{lag_among, lag_in, slot_at}

sums : (w : World) (group : List ℕ) (i : ℕ) (ns : List ℕ)
    → sum_by (lag_in group) (map (slot_at w i) ns) ≡ sum_by (lag_at w group) (map (numbered i) ns)
sums w group i [] = refl
sums w group i (n ∷ ns) =
    sum_by-cons (lag_in group) (slot_at w i n) (map (slot_at w i) ns) ∙ ap (λ s. lag_at w group (numbered i n) + s) (sums w group i ns)
    ∙ sym (sum_by-cons (lag_at w group) (numbered i n) (map (numbered i) ns))

pub among_slots : (w : World) (group : List ℕ) (i n : ℕ) → lag_among group (map (slot_at w i) (range_with_len 0 n)) ≡ lag_of w group i n
among_slots w group i n = ap (λ s. min s (2 ^ 64 - 1)) (sums w group i (range_with_len 0 n))
