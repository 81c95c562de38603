-- What calls leave as it was: each share, and a holder whose calls they are not.
use Rattle.std.proofs.Common.{◌≡◌, ◌≤◌, ◌+◌, ◌-◌, ◌==◌, ℕ, Bool, true, false, List, [], ◌∷◌, map, get_or, set, arith, refl, sym, ap, subst, ◌∙◌, zero, suc, if◌then◌else◌}
use Rattle.std.proofs.lemmas.List.{get_or-set_other}
use Rattle.std.proofs.lemmas.Grind.{common_steps}
use Rattle.kb_shares.specs.Holder.{idle}
use Rattle.kb_shares.specs.Shares.{Pool, are_shares, idle_pool, shares_of, holder_at, own_of, most_of, used_by, has_room, can_count, with_used}
use Rattle.kb_shares.specs.Calls.{Call, Take, Put, GiveBack, after, after_all, is_of, none_is}
use Rattle.kb_shares.specs.declared.share.Share.{Share}
use Rattle.kb_shares.specs.declared.share.Holder.{Holder}
use Rattle.kb_shares.proofs.Sums.{idle_counted}

-- 1. Shares

same_shares : (hs : List Holder) (i u : ℕ) (d : Holder) → map (λ (h : Holder). h.share) (set hs i (record (get_or hs i d) { used = u })) ≡ map (λ (h : Holder). h.share) hs
same_shares [] i u d = refl
same_shares (h ∷ hs) zero u d = refl
same_shares (h ∷ hs) (suc i) u d = ap (λ ss. h.share ∷ ss) (same_shares hs i u d)

-- a holder with another number has the share that it had
pub shares_with : (i u : ℕ) (p : Pool) → shares_of (with_used i u p) ≡ shares_of p
shares_with i u p = same_shares p.holders i u _

-- new holders have the shares that they are given
pub shares_idle : (shares : List Share) → map (λ (h : Holder). h.share) (map idle shares) ≡ shares
shares_idle [] = refl
shares_idle (s ∷ shares) = ap (λ ss. s ∷ ss) (shares_idle shares)

shares-after : (call : Call) (p : Pool) → shares_of (after call p) ≡ shares_of p
shares-after (Take i n) p = one (has_room i n p)
  where
    one : (b : Bool) → shares_of (if b then with_used i (used_by i p + n) p else p) ≡ shares_of p
    one true = shares_with i (used_by i p + n) p
    one false = refl
shares-after (Put i n) p = one (can_count i n p)
  where
    one : (b : Bool) → shares_of (if b then with_used i (used_by i p + n) p else p) ≡ shares_of p
    one true = shares_with i (used_by i p + n) p
    one false = refl
shares-after (GiveBack i n) p = shares_with i (used_by i p - n) p

pub shares-after_all : (calls : List Call) (p : Pool) → shares_of (after_all calls p) ≡ shares_of p
shares-after_all [] p = refl
shares-after_all (call ∷ calls) p = shares-after_all calls (after call p) ∙ shares-after call p

-- 2. A holder

other_place : (p : Pool) (i j u : ℕ) → (i == j) ≡ false → holder_at i (with_used j u p) ≡ holder_at i p
other_place p i j u other = get_or-set_other p.holders j i _ _ (grind (arith, other))

pub holder_at-after : (call : Call) (i : ℕ) (p : Pool) → is_of i call ≡ false → holder_at i (after call p) ≡ holder_at i p
holder_at-after (Take j n) i p other = one (has_room j n p)
  where
    one : (b : Bool) → holder_at i (if b then with_used j (used_by j p + n) p else p) ≡ holder_at i p
    one true = other_place p i j _ other
    one false = refl
holder_at-after (Put j n) i p other = one (can_count j n p)
  where
    one : (b : Bool) → holder_at i (if b then with_used j (used_by j p + n) p else p) ≡ holder_at i p
    one true = other_place p i j _ other
    one false = refl
holder_at-after (GiveBack j n) i p other = other_place p i j _ other

pub holder_at-after_all : (calls : List Call) (i : ℕ) (p : Pool) → none_is (is_of i) calls ≡ true → holder_at i (after_all calls p) ≡ holder_at i p
holder_at-after_all [] i p none = refl
holder_at-after_all (call ∷ calls) i p none =
    holder_at-after_all calls i (after call p) (grind (arith, none)) ∙ holder_at-after call i p (grind (arith, none))

-- 3. The part that is kept free

share_at : (hs : List Holder) (i : ℕ) (d : Holder) → (get_or hs i d).share ≡ get_or (map (λ (h : Holder). h.share) hs) i d.share
share_at [] i d = refl
share_at (h ∷ hs) zero d = refl
share_at (h ∷ hs) (suc i) d = share_at hs i d

-- a holder's share is the one that it began with
pub share_at-after_all : (calls : List Call) (i : ℕ) (p : Pool) → (holder_at i (after_all calls p)).share ≡ (holder_at i p).share
share_at-after_all calls i p =
    share_at (after_all calls p).holders i _ ∙ ap (λ ss. get_or ss i (record { own = 0; most = 0 })) (shares-after_all calls p)
    ∙ sym (share_at p.holders i _)

within : (total : ℕ) (shares : List Share) (i : ℕ) → are_shares total shares ≡ true → own_of i (idle_pool total shares) ≤ most_of i (idle_pool total shares)
within total shares i h = grind (arith, common_steps, (idle_counted total shares h).within i (idle (record { own = 0; most = 0 })))

own_room : (i n : ℕ) (p : Pool) → own_of i p ≤ most_of i p → used_by i p + n ≤ own_of i p → has_room i n p ≡ true
own_room i n p l m = grind (arith, l, m)

pub own_part : (total : ℕ) (shares : List Share) (calls : List Call) (i n : ℕ) → are_shares total shares ≡ true → used_by i (after_all calls (idle_pool total shares)) + n ≤ own_of i (idle_pool total shares) → has_room i n (after_all calls (idle_pool total shares)) ≡ true
own_part total shares calls i n h l =
    let same = share_at-after_all calls i (idle_pool total shares) in
    own_room i n (after_all calls (idle_pool total shares))
    (subst (λ (s : Share). s.own ≤ s.most) (sym same) (within total shares i h))
    (subst (λ (s : Share). used_by i (after_all calls (idle_pool total shares)) + n ≤ s.own) (sym same) l)
