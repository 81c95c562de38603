-- What all have above their parts, and what one holder adds to it.
use Rattle.std.proofs.Common.{◌≡◌, ◌≤◌, ◌+◌, ◌-◌, ℕ, true, List, [], ◌∷◌, map, arith, refl, sym, ap, ◌∙◌, nat_le}
use Rattle.std.specs.List.{sum_by}
use Rattle.std.proofs.lemmas.List.Elements.{All-map, All-weaker}
use Rattle.std.proofs.lemmas.List.Sums.{sum_by-set, sum_by-cons, get_or-le-sum_by, AllPass-from_list_all}
use Rattle.std.proofs.lemmas.Grind.{common_steps}
use Rattle.kb_shares.specs.Holder.{above, idle}
use Rattle.kb_shares.specs.Shares.{Pool, CountsAbove, are_shares, holder_at, own_of, all_above, with_used}
use Rattle.kb_shares.specs.declared.share.Share.{Share}

-- a holder's is among it, and with so much it adds that
pub record AddsUp (i u : ℕ) (p : Pool) : Type 0 where
  pub among : above (holder_at i p) ≤ all_above p
  pub at_most : all_above (with_used i u p) + above (holder_at i p) ≤ all_above p + (u - own_of i p)

pub above_parts : (i u : ℕ) (p : Pool) → AddsUp i u p
above_parts i u p = grind (arith, common_steps, sum_by-set above, get_or-le-sum_by above)

pub above_among : (i : ℕ) (p : Pool) → above (holder_at i p) ≤ all_above p
above_among i p = (above_parts i 0 p).among

-- who has nothing has nothing above its part
pub idle_above : (shares : List Share) → sum_by above (map idle shares) ≡ 0
idle_above [] = refl
idle_above (s ∷ ss) = sum_by-cons above (idle s) (map idle ss) ∙ ap (λ n. (0 - s.own) + n) (idle_above ss) ∙ omega arith

-- nothing is held of new shares, and each part is within its limit
pub idle_counted : (total : ℕ) (shares : List Share) → are_shares total shares ≡ true → CountsAbove 0 (map idle shares)
idle_counted total shares h = record {
  counted = sym (idle_above shares);
  within = All-map (λ h. h.share.own ≤ h.share.most) idle shares
      (All-weaker (λ s. nat_le s.own s.most ≡ true) (λ s. s.own ≤ s.most) (λ s e. grind (arith, e)) shares
      (AllPass-from_list_all (λ s. nat_le s.own s.most) shares (grind (arith, h))));
}
