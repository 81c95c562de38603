-- How far all together may pass the total.
use Rattle.std.proofs.Common.{◌≡◌, ◌≤◌, ◌<◌, ◌+◌, ◌-◌, ◌*◌, inl, inr, ℕ, Bool, true, false, List, [], ◌∷◌, map, length, set, arith, refl, sym, ap, ◌∙◌, if◌then◌else◌}
use Rattle.std.specs.List.{sum_by}
use Rattle.std.proofs.lemmas.List.{length-map, set_past}
use Rattle.std.proofs.lemmas.List.Sums.{sum_by-set, sum_by-cons, sum_by-le-sum_by}
use Rattle.kb_shares.specs.Holder.{above, idle}
use Rattle.kb_shares.specs.Shares.{Pool, are_shares, idle_pool, shares_of, holder_at, own_of, used_by, all_above, free_for, has_room, can_count, with_used, taken, given_back}
use Rattle.kb_shares.specs.Calls.{Call, Take, Put, GiveBack, after, after_all, is_put, none_is, IsPiece, PutsPieces, held}
use Rattle.kb_shares.specs.declared.share.Share.{Share}
use Rattle.kb_shares.specs.declared.share.Holder.{Holder}
use Rattle.std.proofs.lemmas.Bool.{cases_lt, false≢true}
use Rattle.kb_shares.proofs.Same.{shares-after_all, shares_idle}
use Rattle.kb_shares.proofs.Sums.{idle_above}

-- 1. What is past the parts, were each greater by as much as a piece passes one more

-- what a holder has past its part and so much more
abbrev pub past : ℕ → Holder → ℕ
past q h = h.used - (h.share.own + q)

abbrev pub all_past : ℕ → Pool → ℕ
all_past q p = sum_by (past q) p.holders

-- the sum over all but one place
abbrev others : (Holder → ℕ) → ℕ → Pool → ℕ
others f i p = sum_by f (set p.holders i (record (holder_at i p) { used = 0 }))

-- what a holder has, seen beside all others
record Beside (q i u : ℕ) (p : Pool) : Type 0 where
  pub rest : ℕ
  pub before : rest + past q (holder_at i p) ≡ all_past q p
  pub after : rest + (u - (own_of i p + q)) ≡ all_past q (with_used i u p)
  pub less : rest ≤ all_above p - above (holder_at i p)

beside : (q i u : ℕ) (p : Pool) → i < length p.holders → Beside q i u p
beside q i u p l =
    let gone = record (holder_at i p) { used = 0 } in
    let nobody = idle (record { own = 0; most = 0 }) in
    let here = record (holder_at i p) { used = u } in
    let a = sum_by-set (past q) p.holders i gone nobody l in
    let b = sum_by-set (past q) p.holders i here nobody l in
    let c = sum_by-set above p.holders i gone nobody l in
    let d = sum_by-le-sum_by (past q) above (set p.holders i gone) (λ h. omega arith) in
    record {
      rest = others (past q) i p;
      before = omega (arith, a);
      after = omega (arith, a, b);
      less = omega (arith, c, d);
    }

-- a set past the end changes nothing
beyond : (q i u : ℕ) (p : Pool) → length p.holders ≤ i → all_past q (with_used i u p) ≡ all_past q p
beyond q i u p l = ap (sum_by (past q)) (set_past p.holders i _ l)

-- 2. What a call does to it

-- less is held
past-less : (q i u : ℕ) (p : Pool) → u ≤ used_by i p → all_past q (with_used i u p) ≤ all_past q p
past-less q i u p l = elim (cases_lt i (length p.holders)) [
  | inl there ↦ let b = beside q i u p there in omega (arith, l, b.before, b.after)
  | inr out ↦ omega (arith, beyond q i u p out)
]

-- there was room for n, and it has no more than that and so much more
past-room : (q i u n : ℕ) (p : Pool) → used_by i p + n - own_of i p ≤ free_for i p → u ≤ used_by i p + n + q → all_past q p ≤ p.common → all_past q (with_used i u p) ≤ p.common
past-room q i u n p room l h = elim (cases_lt i (length p.holders)) [
  | inl there ↦ let b = beside q i u p there in omega (arith, room, l, h, b.before, b.after, b.less)
  | inr out ↦ omega (arith, h, beyond q i u p out)
]

common-after : (call : Call) (p : Pool) → (after call p).common ≡ p.common
common-after (Take i n) p = one (has_room i n p)
  where
    one : (b : Bool) → (if b then with_used i (used_by i p + n) p else p).common ≡ p.common
    one true = refl
    one false = refl
common-after (Put i n) p = one (can_count i n p)
  where
    one : (b : Bool) → (if b then with_used i (used_by i p + n) p else p).common ≡ p.common
    one true = refl
    one false = refl
common-after (GiveBack i n) p = refl

common-after_all : (calls : List Call) (p : Pool) → (after_all calls p).common ≡ p.common
common-after_all [] p = refl
common-after_all (call ∷ calls) p = common-after_all calls (after call p) ∙ common-after call p

room_free : (i n : ℕ) (p : Pool) → has_room i n p ≡ true → used_by i p + n - own_of i p ≤ free_for i p
room_free i n p h = grind (arith, h)

past-after : (size : ℕ) (call : Call) (p : Pool) → IsPiece size call p → all_past (size - 1) p ≤ p.common → all_past (size - 1) (after call p) ≤ p.common
past-after size (Take i n) p _ h = one (has_room i n p) refl
  where
    one : (b : Bool) → has_room i n p ≡ b → all_past (size - 1) (if b then with_used i (used_by i p + n) p else p) ≤ p.common
    one true room = past-room (size - 1) i (used_by i p + n) n p (room_free i n p room) (omega arith) h
    one false room = h
past-after size (Put i n) p piece h = one (can_count i n p)
  where
    one : (b : Bool) → all_past (size - 1) (if b then with_used i (used_by i p + n) p else p) ≤ p.common
    one true = past-room (size - 1) i (used_by i p + n) 1 p (room_free i 1 p piece.1) (omega (arith, piece.0)) h
    one false = h
past-after size (GiveBack i n) p _ h = omega (arith, h, past-less (size - 1) i (used_by i p - n) p (omega arith))

past-after_all : (size : ℕ) (calls : List Call) (p : Pool) → PutsPieces size calls p → all_past (size - 1) p ≤ p.common → all_past (size - 1) (after_all calls p) ≤ p.common
past-after_all size [] p pieces h = h
past-after_all size (call ∷ calls) p pieces h =
    let same = common-after call p in
    let step = past-after size call p pieces.0 h in
    let more = past-after_all size calls (after call p) pieces.1 (omega (arith, step, same)) in
    omega (arith, more, same)

-- 3. What all hold together

held-past : (q : ℕ) (hs : List Holder) → sum_by (λ (h : Holder). h.used) hs ≤ sum_by (λ (s : Share). s.own) (map (λ (h : Holder). h.share) hs) + length hs * q + sum_by (past q) hs
held-past q [] = omega arith
held-past q (h ∷ hs) =
    let a = sum_by-cons (λ (h : Holder). h.used) h hs in
    let b = sum_by-cons (λ (s : Share). s.own) h.share (map (λ (h : Holder). h.share) hs) in
    let c = sum_by-cons (past q) h hs in
    let d = held-past q hs in
    let e : (length (h ∷ hs)) * q ≡ q + length hs * q = grind arith in
    omega (arith, a, b, c, d, e)

past-fresh : (q total : ℕ) (shares : List Share) → all_past q (idle_pool total shares) ≤ 0
past-fresh q total shares =
    omega (arith, idle_above shares, sum_by-le-sum_by (past q) above (idle_pool total shares).holders (λ h. omega arith))

-- with pieces of this size at most, each put where its holder is open, the total is passed by less than a piece for each holder
pub held-pieces : (total : ℕ) (shares : List Share) (calls : List Call) (size : ℕ) → are_shares total shares ≡ true → PutsPieces size calls (idle_pool total shares) → held (after_all calls (idle_pool total shares)) ≤ total + length shares * (size - 1)
held-pieces total shares calls size fit pieces =
    let p = idle_pool total shares in
    let end = after_all calls p in
    let same : shares_of end ≡ shares = shares-after_all calls p ∙ shares_idle shares in
    let parts = ap (sum_by (λ (s : Share). s.own)) same in
    let many : length end.holders ≡ length shares = sym (length-map end.holders (λ (h : Holder). h.share)) ∙ ap length same in
    let times = ap (λ n. n * (size - 1)) many in
    let start = past-fresh (size - 1) total shares in
    let over = past-after_all size calls p pieces (omega (arith, start)) in
    let whole : sum_by (λ (s : Share). s.own) shares ≤ total = grind (arith, fit) in
    omega (arith, held-past (size - 1) end.holders, parts, times, over, whole)

-- calls that put nothing put pieces of no size
pub no_pieces : (calls : List Call) (p : Pool) → none_is is_put calls ≡ true → PutsPieces 0 calls p
no_pieces [] p none = tt
no_pieces (Take i n ∷ calls) p none = (tt, no_pieces calls (taken i n p) none)
no_pieces (Put i n ∷ calls) p none = absurd (false≢true none)
no_pieces (GiveBack i n ∷ calls) p none = (tt, no_pieces calls (given_back i n p) none)

pub held-taken : (total : ℕ) (shares : List Share) (calls : List Call) → are_shares total shares ≡ true → none_is is_put calls ≡ true → held (after_all calls (idle_pool total shares)) ≤ total
held-taken total shares calls fit none = omega (arith, held-pieces total shares calls 0 fit (no_pieces calls (idle_pool total shares) none))
