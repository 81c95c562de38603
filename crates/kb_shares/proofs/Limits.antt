-- How far a holder may pass its limit.
use Rattle.std.proofs.Common.{◌≡◌, ◌≤◌, ◌+◌, ◌-◌, ◌⊎◌, inl, inr, ℕ, Bool, true, false, List, [], ◌∷◌, length, arith, refl, sym, ap, subst, zero, suc, if◌then◌else◌}
use Rattle.std.proofs.lemmas.Bool.{cases_eq, cases_lt}
use Rattle.std.proofs.lemmas.List.{get_or-set_same, get_or-set_other, set_past}
use Rattle.kb_shares.specs.Shares.{Pool, idle_pool, most_of, used_by, has_room, can_count, with_used}
use Rattle.kb_shares.specs.Calls.{Call, Take, Put, GiveBack, after, after_all, is_put, none_is, IsPiece, PutsPieces}
use Rattle.kb_shares.specs.declared.share.Share.{Share}
use Rattle.kb_shares.specs.declared.share.Holder.{Holder}
use Rattle.kb_shares.proofs.Same.{share_at-after_all}
use Rattle.kb_shares.proofs.Pieces.{no_pieces}

-- where one holder has another number, each has what it had, or is that one
used_with : (i j u : ℕ) (p : Pool) → (used_by i (with_used j u p) ≡ used_by i p) ⊎ ((i ≡ j) × (used_by i (with_used j u p) ≡ u))
used_with i j u p = elim (cases_eq i j) [
  | inr other ↦ inl (ap (λ (h : Holder). h.used) (get_or-set_other p.holders j i _ _ other))
  | inl same ↦ elim (cases_lt j (length p.holders)) [
    | inl there ↦ inr (same, subst (λ k. used_by k (with_used j u p) ≡ u) (sym same) (ap (λ (h : Holder). h.used) (get_or-set_same p.holders j _ _ there)))
    | inr out ↦ inl (ap (λ hs. used_by i (record p { holders = hs })) (set_past p.holders j _ out))
  ]
]

with_bound : (i j u bound : ℕ) (p : Pool) → used_by i p ≤ bound → (i ≡ j → u ≤ bound) → used_by i (with_used j u p) ≤ bound
with_bound i j u bound p h new = elim (used_with i j u p) [
  | inl same ↦ omega (arith, same, h)
  | inr there ↦ let fits = new there.0 in omega (arith, there.1, fits)
]

room_within : (j n : ℕ) (p : Pool) → has_room j n p ≡ true → used_by j p + n ≤ most_of j p
room_within j n p h = grind (arith, h)

at_place : (i j : ℕ) (p : Pool) → i ≡ j → most_of i p ≡ most_of j p
at_place i j p e = ap (λ k. most_of k p) e

limit-after : (size i : ℕ) (call : Call) (p : Pool) → IsPiece size call p → used_by i p ≤ most_of i p + (size - 1) → used_by i (after call p) ≤ most_of i p + (size - 1)
limit-after size i (Take j n) p _ h = one (has_room j n p) refl
  where
    one : (b : Bool) → has_room j n p ≡ b → used_by i (if b then with_used j (used_by j p + n) p else p) ≤ most_of i p + (size - 1)
    one true room = with_bound i j _ _ p h (λ e. omega (arith, room_within j n p room, at_place i j p e))
    one false room = h
limit-after size i (Put j n) p piece h = one (can_count j n p)
  where
    one : (b : Bool) → used_by i (if b then with_used j (used_by j p + n) p else p) ≤ most_of i p + (size - 1)
    one true = with_bound i j _ _ p h (λ e. omega (arith, piece.0, room_within j 1 p piece.1, at_place i j p e))
    one false = h
limit-after size i (GiveBack j n) p _ h =
    with_bound i j _ _ p h (λ e. let same = ap (λ k. used_by k p) e in omega (arith, h, same))

limit-after_all : (size i : ℕ) (calls : List Call) (p : Pool) → PutsPieces size calls p → used_by i p ≤ most_of i p + (size - 1) → used_by i (after_all calls p) ≤ most_of i p + (size - 1)
limit-after_all size i [] p pieces h = h
limit-after_all size i (call ∷ calls) p pieces h =
    let same = ap (λ (s : Share). s.most) (share_at-after_all (call ∷ []) i p) in
    let step = limit-after size i call p pieces.0 h in
    let more = limit-after_all size i calls (after call p) pieces.1 (omega (arith, step, same)) in
    omega (arith, more, same)

-- nothing is used of new shares
pub idle_at : (total : ℕ) (shares : List Share) (i : ℕ) → used_by i (idle_pool total shares) ≡ 0
idle_at total [] i = refl
idle_at total (s ∷ shares) zero = refl
idle_at total (s ∷ shares) (suc i) = idle_at total shares i

-- with pieces of this size at most, each put where its holder is open, a holder passes its limit by less than a piece
pub limit-pieces : (total : ℕ) (shares : List Share) (calls : List Call) (size i : ℕ) → PutsPieces size calls (idle_pool total shares) → used_by i (after_all calls (idle_pool total shares)) ≤ most_of i (idle_pool total shares) + (size - 1)
limit-pieces total shares calls size i pieces =
    let start = idle_at total shares i in limit-after_all size i calls (idle_pool total shares) pieces (omega (arith, start))

pub limit-taken : (total : ℕ) (shares : List Share) (calls : List Call) (i : ℕ) → none_is is_put calls ≡ true → used_by i (after_all calls (idle_pool total shares)) ≤ most_of i (idle_pool total shares)
limit-taken total shares calls i none =
    let all = limit-pieces total shares calls 0 i (no_pieces calls (idle_pool total shares) none) in omega (arith, all)
