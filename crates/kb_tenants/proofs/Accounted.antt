-- That what the store refused was counted, over calls in turn.
use Rattle.std.proofs.Common.{◌≡◌, ◌⊎◌, ⊎_elim, inl, inr, ◌≤◌, ◌<◌, ◌+◌, ℕ, zero, suc, List, [], ◌∷◌, length, arith}
use Rattle.std.specs.Prelude.{min}
use Rattle.std.proofs.lemmas.List.Sums.{sum_by-cons}
use Rattle.kb_tenant_state.specs.Counts.{END}
use Rattle.kb_tenant_api.specs.Hosted.{TenantState, refusals_of}
use Rattle.kb_tenant_api.specs.Turns.{IsAccounted, HasEnded, total}

-- ---- calls in turn

-- an end that was come to stays
ended_stays : (old new : List TenantState) → ((u : ℕ) → refusals_of old u ≤ refusals_of new u) → HasEnded old → HasEnded new
ended_stays old new grows ended = (ended.0, omega (arith, ended.1, grows ended.0))

-- what was counted in one call and in the next was counted in both
pub accounted_then : (ps qs rs : List TenantState) (f g h : ℕ) → ((u : ℕ) → refusals_of qs u ≤ refusals_of rs u)
    → IsAccounted ps qs f g → IsAccounted qs rs g h → IsAccounted ps rs f h
accounted_then ps qs rs f g h grows first second = ⊎_elim
    (λ one. ⊎_elim (λ two. inl (omega (arith, one, two))) (λ ended. inr ended) second)
    (λ ended. inr (ended_stays qs rs grows ended))
    first

-- nothing was refused
pub accounted_same : (ps : List TenantState) (f : ℕ) → IsAccounted ps ps f f
accounted_same ps f = inl (omega arith)

-- ---- counts only rise

-- where each count only rises, so does their total
pub total_rises : (ps qs : List TenantState) → length qs ≡ length ps → ((u : ℕ) → refusals_of ps u ≤ refusals_of qs u) → total ps ≤ total qs
total_rises [] qs many grows = omega arith
total_rises (p ∷ ps) [] many grows = absurd (omega (arith, many))
total_rises (p ∷ ps) (q ∷ qs) many grows =
    let here : p.refusals ≤ q.refusals = grows 0 in
    let rest : total ps ≤ total qs = total_rises ps qs (omega (arith, many)) (λ u. grows (suc u)) in
    omega (arith, here, rest, sum_by-cons (λ (x : TenantState). x.refusals) p ps, sum_by-cons (λ (x : TenantState). x.refusals) q qs)

-- so where the store refused nothing
pub accounted_rises : (ps qs : List TenantState) (f : ℕ) → length qs ≡ length ps → ((u : ℕ) → refusals_of ps u ≤ refusals_of qs u) → IsAccounted ps qs f f
accounted_rises ps qs f many grows = inl (omega (arith, total_rises ps qs many grows))

-- ---- a call for one tenant

-- where a tenant's count has risen, the total has by as much
risen : (ps qs : List TenantState) (t m : ℕ) → t < length ps → length qs ≡ length ps → ((u : ℕ) → refusals_of ps u ≤ refusals_of qs u)
    → refusals_of ps t + m ≤ refusals_of qs t → total ps + m ≤ total qs
risen [] qs t m lt many grows more = absurd (omega (arith, lt))
risen (p ∷ ps) [] t m lt many grows more = absurd (omega (arith, many))
risen (p ∷ ps) (q ∷ qs) zero m lt many grows more =
    let here : p.refusals + m ≤ q.refusals = more in
    let rest : total ps ≤ total qs = total_rises ps qs (omega (arith, many)) (λ u. grows (suc u)) in
    omega (arith, here, rest, sum_by-cons (λ (x : TenantState). x.refusals) p ps, sum_by-cons (λ (x : TenantState). x.refusals) q qs)
risen (p ∷ ps) (q ∷ qs) (suc t) m lt many grows more =
    let here : p.refusals ≤ q.refusals = grows 0 in
    let rest : total ps + m ≤ total qs = risen ps qs t m (omega (arith, lt)) (omega (arith, many)) (λ u. grows (suc u)) more in
    omega (arith, here, rest, sum_by-cons (λ (x : TenantState). x.refusals) p ps, sum_by-cons (λ (x : TenantState). x.refusals) q qs)

pub below_or_ended : (n : ℕ) → (n < END) ⊎ (END ≤ n)
below_or_ended n = grind arith

-- the tenant's count is at least as many above the one before as the store's failures, or at its end
pub accounted_turn : (ps qs : List TenantState) (t f m : ℕ) → t < length ps → length qs ≡ length ps → ((u : ℕ) → refusals_of ps u ≤ refusals_of qs u)
    → min (refusals_of ps t + m) END ≤ refusals_of qs t → IsAccounted ps qs f (f + m)
accounted_turn ps qs t f m lt many grows more = ⊎_elim
    (λ below. inl (let total_more = risen ps qs t m lt many grows (omega (arith, more, below)) in omega (arith, total_more)))
    (λ ended. inr (t, omega (arith, more, ended)))
    (below_or_ended (refusals_of ps t + m))
