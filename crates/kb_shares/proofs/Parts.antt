-- The parts of a total, one share after another.
use Rattle.std.proofs.Common.{◌≡◌, ◌-◌, ℕ, cond, List, ◌∷◌, Option, Some, None, nat_le, arith}
use Rattle.std.proofs.lemmas.List.Sums.{sum_by-cons}
use Rattle.kb_shares.specs.declared.share.Share.{Share}
use Rattle.kb_shares.specs.Shares.{are_shares, rest_of}

-- what is no part, where these are shares of the total
abbrev pub rest_or_none : ℕ → List Share → Option ℕ
rest_or_none total shares = cond (are_shares total shares) (Some (rest_of total shares)) None

-- one share after the other
pub rest_or_none-cons : (total : ℕ) (s : Share) (shares : List Share) → rest_or_none total (s ∷ shares) ≡ cond (nat_le s.own s.most) (cond (nat_le s.own total) (rest_or_none (total - s.own) shares) None) None
rest_or_none-cons total s shares = grind (arith, sum_by-cons (λ (x : Share). x.own) s shares)
