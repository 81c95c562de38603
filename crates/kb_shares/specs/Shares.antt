-- A total of something, and what each holder has of it.
use Rattle.std.specs.Prelude.{◌≡◌, ◌≤◌, ◌+◌, ◌-◌, ◌^◌, ◌&&◌, ℕ, min, Bool, List, length, map, slice_index_or, slice_set, nat_le, nat_lt, if◌then◌else◌}
use Rattle.std.specs.List.{sum_by, list_all, All}
use Rattle.kb_shares.specs.declared.share.Share.{Share}
use Rattle.kb_shares.specs.declared.share.Holder.{Holder}
use Rattle.kb_shares.specs.Holder.{idle, above}

-- 1. What is shared

-- What is no holder's part, and the holders, each by its place.
pub record Pool : Type 0 where
  pub common : ℕ
  pub holders : List Holder

-- Each part is within its limit, and all parts together are within the total.
abbrev pub are_shares : ℕ → List Share → Bool
are_shares total shares = list_all (λ s. nat_le s.own s.most) shares && nat_le (sum_by (λ s. s.own) shares) total

-- what of the total is no part
abbrev pub rest_of : ℕ → List Share → ℕ
rest_of total shares = total - sum_by (λ s. s.own) shares

-- the total in these shares, of which nothing is held
abbrev pub idle_pool : ℕ → List Share → Pool
idle_pool total shares = record { common = rest_of total shares; holders = map idle shares }

abbrev pub shares_of : Pool → List Share
shares_of p = map (λ h. h.share) p.holders

-- 2. What each has

-- The holder at a place. Where nobody stands it has no share, and nothing.
abbrev pub holder_at : ℕ → Pool → Holder
holder_at i p = slice_index_or p.holders i (idle (record { own = 0; most = 0 }))

abbrev pub used_by : ℕ → Pool → ℕ
used_by i p = (holder_at i p).used

-- the part that is kept free for it
abbrev pub own_of : ℕ → Pool → ℕ
own_of i p = (holder_at i p).share.own

-- its limit
abbrev pub most_of : ℕ → Pool → ℕ
most_of i p = (holder_at i p).share.most

-- what all have above their parts
abbrev pub all_above : Pool → ℕ
all_above p = sum_by above p.holders

-- what is free for it above its part: of what is no part, that which the others have not above theirs
abbrev pub free_for : ℕ → Pool → ℕ
free_for i p = p.common - (all_above p - above (holder_at i p))

-- the same, where the holder has so much
abbrev pub with_used : ℕ → ℕ → Pool → Pool
with_used i used p = record p { holders = slice_set p.holders i (record (holder_at i p) { used = used }) }

-- 3. The calls

-- With n more it is within its limit, and what it then has above its part is free for it.
abbrev pub has_room : ℕ → ℕ → Pool → Bool
has_room i n p = nat_le (used_by i p + n) (most_of i p) && nat_le (used_by i p + n - own_of i p) (free_for i p)

-- how much more it could take at most: up to its limit, and to its part with what is free for it
abbrev pub room_for : ℕ → Pool → ℕ
room_for i p = min (most_of i p) (own_of i p + free_for i p) - used_by i p

-- how large a piece may be that it begins: of any size while it has less than its part, and else as much as it could take
abbrev pub piece_for : ℕ → Pool → ℕ
piece_for i p = if nat_lt (used_by i p) (own_of i p) then 2 ^ 64 - 1 else room_for i p

abbrev pub taken : ℕ → ℕ → Pool → Pool
taken i n p = if has_room i n p then with_used i (used_by i p + n) p else p

abbrev pub given_back : ℕ → ℕ → Pool → Pool
given_back i n p = with_used i (used_by i p - n) p

-- There is a holder. With n more a number of 64 bits counts what it has, and what all have above their parts.
abbrev pub can_count : ℕ → ℕ → Pool → Bool
can_count i n p =
    nat_lt i (length p.holders) && nat_lt (used_by i p + n) (2 ^ 64) && nat_lt (all_above (with_used i (used_by i p + n) p)) (2 ^ 64)

abbrev pub put : ℕ → ℕ → Pool → Pool
put i n p = if can_count i n p then with_used i (used_by i p + n) p else p

-- 4. What a budget keeps

-- The number is what all have above their parts. Each part is within its limit.
pub record CountsAbove (number : ℕ) (holders : List Holder) : Type 0 where
  pub counted : number ≡ sum_by above holders
  pub within : All (λ h. h.share.own ≤ h.share.most) holders
