-- What holds of all entries, how many there are and how many bytes they have, after each change.
use Rattle.std.proofs.Common.{◌≡◌, ◌∙◌, ◌≤◌, ◌<◌, ◌+◌, ◌-◌, ◌==◌, ◌&&◌, ℕ, zero, suc, Bool, true, false, cond, not, List, [], ◌∷◌, length, take, Option, Some, None, refl, subst, arith}
use Rattle.std.specs.Prelude.{nat_le, nat_lt}
use Rattle.std.specs.Option.{option_map_or}
use Rattle.std.specs.List.{AllByRecursion, filter}
use Rattle.std.specs.Map.{lookup_entry, remove_entry}
use Rattle.std.proofs.lemmas.Bool.{and_parts, leb-true, ltb-true}
use Rattle.lru.specs.LruCache.{promoted}
use Rattle.kb_cache.specs.Kept.{Entry, AreWithin, after_keep, behind_cut, cached_at, is_fit, prepended, latest, reads, same_place, stays, total, used, with_bytes, with_room, without_entry}
use Rattle.kb_cache.proofs.Seen.{total_used}

module _ (P : Entry → Type 0) where
  pub all_removed : (test : ℕ × ℕ → Bool) (es : List Entry) → AllByRecursion P es → AllByRecursion P (remove_entry test es)
  all_removed test [] all = all
  all_removed test (e ∷ es) all = elim (test e.0) as (λ b. AllByRecursion P (cond b es (e ∷ remove_entry test es))) [
    | true ↦ all.1
    | false ↦ (all.0, all_removed test es all.1)
  ]

  entry_among : (test : ℕ × ℕ → Bool) (es : List Entry) (e : Entry) → AllByRecursion P es → lookup_entry test es ≡ Some e → P e
  entry_among test [] e all is = cc
  entry_among test (f ∷ es) e all is = (elim (test f.0) as (λ b. cond b (Some f) (lookup_entry test es) ≡ Some e → P e) [
    | true ↦ λ h. let same : f ≡ e = cc in subst P same all.0
    | false ↦ λ h. entry_among test es e all.1 h
  ]) is

  all_front : (test : ℕ × ℕ → Bool) (es : List Entry) (o : Option Entry) → lookup_entry test es ≡ o → AllByRecursion P es
      → AllByRecursion P (option_map_or (λ e. e ∷ remove_entry test es) o es)
  all_front test es None is all = all
  all_front test es (Some e) is all = (entry_among test es e all is, all_removed test es all)

  pub all_used : (test : ℕ × ℕ → Bool) (es : List Entry) → AllByRecursion P es → AllByRecursion P (promoted test es)
  all_used test es all = all_front test es (lookup_entry test es) refl all

  pub all_latest : (n room : ℕ) (es : List Entry) → AllByRecursion P es → AllByRecursion P (latest n room es)
  all_latest zero room es all = tt
  all_latest (suc n) room [] all = tt
  all_latest (suc n) room (e ∷ es) all = elim (nat_le (length e.1) room) as (λ b. AllByRecursion P (cond b (e ∷ latest n (room - length e.1) es) [])) [
    | true ↦ (all.0, all_latest n (room - length e.1) es all.1)
    | false ↦ tt
  ]

  -- those that pass a test, each with that it does
  pub all_passed : (p : Entry → Bool) (es : List Entry) → AllByRecursion P es → AllByRecursion (λ e. P e × (p e ≡ true)) (filter p es)
  all_passed p [] all = tt
  all_passed p (e ∷ es) all = (elim (p e) as (λ b. p e ≡ b → AllByRecursion (λ e. P e × (p e ≡ true)) (cond b (e ∷ filter p es) (filter p es))) [
    | true ↦ λ is. ((all.0, is), all_passed p es all.1)
    | false ↦ λ is. all_passed p es all.1
  ]) refl

  all_joined : (b : List ℕ) (es : List Entry) (r : List ℕ × List Entry) → AllByRecursion P es → AllByRecursion P r.1 → AllByRecursion P (prepended b es r).1
  all_joined [] es r all more = all
  all_joined (x ∷ b) es r all more = more

  pub all_reads : (k : ℕ) (es : List Entry) (file at n : ℕ) → AllByRecursion P es → AllByRecursion P (reads k es file at n).1
  all_reads zero es file at n all = all
  all_reads (suc k) es file at n all =
      let b = take n (cached_at es file at) in
      let next = used es file at in
      let moved = all_used (same_place (file, at)) es all in
      elim (n == 0) as (λ c. AllByRecursion P (cond c ([], es) (prepended b next (reads k next file (at + length b) (n - length b)))).1) [
        | true ↦ all
        | false ↦ all_joined b next (reads k next file (at + length b) (n - length b)) moved (all_reads k next file (at + length b) (n - length b) moved)
      ]

  all_chosen : (fit there kept : Bool) (same front more less : List Entry) → AllByRecursion P same → AllByRecursion P front → (fit ≡ true → AllByRecursion P more) → AllByRecursion P less
      → AllByRecursion P (cond (not fit) same (cond there front (cond kept more less)))
  all_chosen false there kept same front more less a b c d = a
  all_chosen true true kept same front more less a b c d = b
  all_chosen true false true same front more less a b c d = c refl
  all_chosen true false false same front more less a b c d = d

  pub all_kept : (most_entries most_bytes : ℕ) (es : List Entry) (file at : ℕ) (bytes : List ℕ) (kept : Bool) → AllByRecursion P es → (is_fit most_entries most_bytes bytes ≡ true → P ((file, at), bytes))
      → AllByRecursion P (after_keep most_entries most_bytes es file at bytes kept)
  all_kept most_entries most_bytes es file at bytes kept all one =
      let less = all_latest (most_entries - 1) (most_bytes - length bytes) (without_entry es file at) (all_removed (same_place (file, at)) es all) in
      all_chosen (is_fit most_entries most_bytes bytes) (nat_le (length bytes) (length (cached_at es file at))) kept es (used es file at)
      (with_bytes most_entries most_bytes es file at bytes) (with_room most_entries most_bytes es file at bytes) all (all_used (same_place (file, at)) es all) (λ fit. (one fit, less)) less

pub all_map : (P Q : Entry → Type 0) → ((e : Entry) → P e → Q e) → (es : List Entry) → AllByRecursion P es → AllByRecursion Q es
all_map P Q f [] all = tt
all_map P Q f (e ∷ es) all = (f e all.0, all_map P Q f es all.1)

pub fit_some : (most_entries most_bytes : ℕ) (bytes : List ℕ) → is_fit most_entries most_bytes bytes ≡ true → 0 < length bytes
fit_some most_entries most_bytes bytes fit =
    let n = length bytes in
    let a = and_parts (nat_lt 0 most_entries && nat_lt 0 n && nat_le n 1048576) (nat_le n most_bytes) fit in
    let b = and_parts (nat_lt 0 most_entries && nat_lt 0 n) (nat_le n 1048576) a.0 in
    ltb-true 0 n (and_parts (nat_lt 0 most_entries) (nat_lt 0 n) b.0).1

-- ---- how many there are, and how many bytes they have

length_removed : (test : ℕ × ℕ → Bool) (es : List Entry) (e : Entry) → lookup_entry test es ≡ Some e → length (remove_entry test es) + 1 ≡ length es
length_removed test [] e is = cc
length_removed test (f ∷ es) e is = (elim (test f.0) as (λ b. cond b (Some f) (lookup_entry test es) ≡ Some e → length (cond b es (f ∷ remove_entry test es)) + 1 ≡ length (f ∷ es)) [
  | true ↦ λ h. omega arith
  | false ↦ λ h. omega (arith, length_removed test es e h)
]) is

length_front : (test : ℕ × ℕ → Bool) (es : List Entry) (o : Option Entry) → lookup_entry test es ≡ o → length (option_map_or (λ e. e ∷ remove_entry test es) o es) ≡ length es
length_front test es None is = refl
length_front test es (Some e) is = omega (arith, length_removed test es e is)

pub length_used : (test : ℕ × ℕ → Bool) (es : List Entry) → length (promoted test es) ≡ length es
length_used test es = length_front test es (lookup_entry test es) refl

pub length_latest : (n room : ℕ) (es : List Entry) → length (latest n room es) ≤ n
length_latest zero room es = omega arith
length_latest (suc n) room [] = omega arith
length_latest (suc n) room (e ∷ es) = elim (nat_le (length e.1) room) as (λ b. length (cond b (e ∷ latest n (room - length e.1) es) []) ≤ suc n) [
  | true ↦ omega (arith, length_latest n (room - length e.1) es)
  | false ↦ omega arith
]

pub total_latest : (n room : ℕ) (es : List Entry) → total (latest n room es) ≤ room
total_latest zero room es = omega arith
total_latest (suc n) room [] = omega arith
total_latest (suc n) room (e ∷ es) = (elim (nat_le (length e.1) room) as (λ b. nat_le (length e.1) room ≡ b → total (cond b (e ∷ latest n (room - length e.1) es) []) ≤ room) [
  | true ↦ λ is. omega (arith, total_latest n (room - length e.1) es, leb-true (length e.1) room is)
  | false ↦ λ is. omega arith
]) refl

length_passed : (p : Entry → Bool) (es : List Entry) → length (filter p es) ≤ length es
length_passed p [] = omega arith
length_passed p (e ∷ es) = elim (p e) as (λ b. length (cond b (e ∷ filter p es) (filter p es)) ≤ length (e ∷ es)) [
  | true ↦ omega (arith, length_passed p es)
  | false ↦ omega (arith, length_passed p es)
]

total_passed : (p : Entry → Bool) (es : List Entry) → total (filter p es) ≤ total es
total_passed p [] = omega arith
total_passed p (e ∷ es) = elim (p e) as (λ b. total (cond b (e ∷ filter p es) (filter p es)) ≤ total (e ∷ es)) [
  | true ↦ omega (arith, total_passed p es)
  | false ↦ omega (arith, total_passed p es)
]

pub reads_keep : {X : Type 0} (f : List Entry → X) → ((place : ℕ × ℕ) (es : List Entry) → f (promoted (same_place place) es) ≡ f es) → (k : ℕ) (es : List Entry) (file at n : ℕ)
    → f (reads k es file at n).1 ≡ f es
reads_keep f same zero es file at n = refl
reads_keep f same (suc k) es file at n =
    let b = take n (cached_at es file at) in
    let next = used es file at in
    let moved = same (file, at) es in
    elim (n == 0) as (λ c. f (cond c ([], es) (prepended b next (reads k next file (at + length b) (n - length b)))).1 ≡ f es) [
      | true ↦ refl
      | false ↦ each f b next (reads k next file (at + length b) (n - length b)) (reads_keep f same k next file (at + length b) (n - length b)) ∙ moved
    ]
  where
    each : {X : Type 0} (f : List Entry → X) (b : List ℕ) (next : List Entry) (r : List ℕ × List Entry) → f r.1 ≡ f next → f (prepended b next r).1 ≡ f next
    each f [] next r is = refl
    each f (x ∷ b) next r is = is

pub total_reads : (k : ℕ) (es : List Entry) (file at n : ℕ) → total (reads k es file at n).1 ≡ total es
total_reads = reads_keep total (λ place es. total_used (same_place place) es)

pub length_reads : (k : ℕ) (es : List Entry) (file at n : ℕ) → length (reads k es file at n).1 ≡ length es
length_reads = reads_keep length (λ place es. length_used (same_place place) es)

-- ---- within the limits

pub within_reads : (most_entries most_bytes k : ℕ) (es : List Entry) (file at n : ℕ) → AreWithin most_entries most_bytes es → AreWithin most_entries most_bytes (reads k es file at n).1
within_reads most_entries most_bytes k es file at n w = record {
  entries = omega (arith, w.entries, length_reads k es file at n);
  bytes = omega (arith, w.bytes, total_reads k es file at n);
  each = all_reads (λ e. length e.1 ≤ 1048576) k es file at n w.each;
}

pub within_cut : (most_entries most_bytes file len : ℕ) (es : List Entry) → AreWithin most_entries most_bytes es → AreWithin most_entries most_bytes (behind_cut file len es)
within_cut most_entries most_bytes file len es w = record {
  entries = omega (arith, w.entries, length_passed (stays file len) es);
  bytes = omega (arith, w.bytes, total_passed (stays file len) es);
  each = all_map (λ e. (length e.1 ≤ 1048576) × (stays file len e ≡ true)) (λ e. length e.1 ≤ 1048576) (λ e p. p.0) (behind_cut file len es) (all_passed (λ e. length e.1 ≤ 1048576) (stays file len) es w.each);
}

module _ (most_entries most_bytes : ℕ) (es : List Entry) (file at : ℕ) (bytes : List ℕ) (w : AreWithin most_entries most_bytes es) where
  abbrev left : List Entry
  left = with_room most_entries most_bytes es file at bytes

  within_used : AreWithin most_entries most_bytes (used es file at)
  within_used = record {
    entries = omega (arith, w.entries, length_used (same_place (file, at)) es);
    bytes = omega (arith, w.bytes, total_used (same_place (file, at)) es);
    each = all_used (λ e. length e.1 ≤ 1048576) (same_place (file, at)) es w.each;
  }

  few : length left ≤ most_entries - 1
  few = length_latest (most_entries - 1) (most_bytes - length bytes) (without_entry es file at)

  small : total left ≤ most_bytes - length bytes
  small = total_latest (most_entries - 1) (most_bytes - length bytes) (without_entry es file at)

  sizes : AllByRecursion (λ e. length e.1 ≤ 1048576) left
  sizes = all_latest (λ e. length e.1 ≤ 1048576) (most_entries - 1) (most_bytes - length bytes) (without_entry es file at) (all_removed (λ e. length e.1 ≤ 1048576) (same_place (file, at)) es w.each)

  within_more : is_fit most_entries most_bytes bytes ≡ true → AreWithin most_entries most_bytes (((file, at), bytes) ∷ left)
  within_more is =
      let a = and_parts (nat_lt 0 most_entries && nat_lt 0 (length bytes) && nat_le (length bytes) 1048576) (nat_le (length bytes) most_bytes) is in
      let b = and_parts (nat_lt 0 most_entries && nat_lt 0 (length bytes)) (nat_le (length bytes) 1048576) a.0 in
      let c = and_parts (nat_lt 0 most_entries) (nat_lt 0 (length bytes)) b.0 in
      let fits = leb-true (length bytes) most_bytes a.1 in
      let one = leb-true (length bytes) 1048576 b.1 in
      let some = ltb-true 0 most_entries c.0 in
      record { entries = omega (arith, few, some); bytes = omega (arith, small, fits); each = (one, sizes) }

  within_less : AreWithin most_entries most_bytes left
  within_less = record { entries = omega (arith, few); bytes = omega (arith, small); each = sizes }

  within_either : (fit there kept : Bool) → is_fit most_entries most_bytes bytes ≡ fit → AreWithin most_entries most_bytes
      (cond (not fit) es (cond there (used es file at) (cond kept (((file, at), bytes) ∷ left) left)))
  within_either false there kept is = w
  within_either true true kept is = within_used
  within_either true false true is = within_more is
  within_either true false false is = within_less

  pub within_kept : (kept : Bool) → AreWithin most_entries most_bytes (after_keep most_entries most_bytes es file at bytes kept)
  within_kept kept = within_either (is_fit most_entries most_bytes bytes) (nat_le (length bytes) (length (cached_at es file at))) kept refl
