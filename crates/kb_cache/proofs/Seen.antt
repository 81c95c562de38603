-- What is kept, seen by its bytes; and what each change of it leaves.
use Rattle.std.proofs.Common.{◌≡◌, ◌∙◌, ◌≤◌, ◌<◌, ◌+◌, ◌-◌, ◌++◌, ℕ, zero, suc, Bool, true, false, cond, List, [], ◌∷◌, length, take, drop, Option, Some, None, refl, sym, ap, subst, arith, append_assoc, get_or, ◌⊎◌, inl, inr, ⊎_elim}
use Rattle.std.specs.Prelude.{nat_le, option_map, unwrap_or}
use Rattle.std.specs.Option.{option_map_or}
use Rattle.std.specs.List.{AllByRecursion, IsDistinct, filter, slice_get}
use Rattle.std.specs.Cmp.{IsEquivalence, nat_eq_equiv, on_equiv, and_equiv}
use Rattle.std.specs.Map.{keys_of, lookup, lookup_entry, remove_entry}
use Rattle.std.specs.declared.vec.Vec.{Vec}
use Rattle.lru.specs.LruCache.{LruCache, promoted, last_entry, put_entries}
use Rattle.std.proofs.lemmas.List.{append-nil, drop_all, drop_at, drop_more, length-append, length-map, take_at, take-map, take_all, take_more}
use Rattle.std.proofs.lemmas.Bool.{le-leb, lt-leb, leb-true}
use Rattle.std.proofs.lemmas.Map.{lookup-remove_entry}
use Rattle.std.proofs.lemmas.Map.Keys.{IsDistinct-head, IsDistinct-tail}
use Rattle.kb_cache.specs.Kept.{Entry, seen, same_place, cached_at, without_entry, total, stays, behind_cut, latest, turned}

-- ---- lists

pub take_nil : {X : Type 0} (n : ℕ) → take {A = X} n [] ≡ []
take_nil zero = refl
take_nil (suc n) = refl

ends_at : {X : Type 0} (xs : List X) (n : ℕ) (x : X) → length xs ≡ suc n → slice_get xs n ≡ Some x → xs ≡ take n xs ++ x ∷ []
ends_at [] n x l e = cc
ends_at (y ∷ []) zero x l e = ap (λ z. z ∷ []) (let same : y ≡ x = cc in same)
ends_at (y ∷ z ∷ zs) zero x l e = absurd (omega (arith, l))
ends_at (y ∷ zs) (suc n) x l e = ap (λ r. y ∷ r) (ends_at zs n x (omega (arith, l)) e)

pub ends_in : {X : Type 0} (xs : List X) (x : X) → slice_get xs (length xs - 1) ≡ Some x → xs ≡ take (length xs - 1) xs ++ x ∷ []
ends_in [] x e = cc
ends_in (y ∷ ys) x e =
    let less : length (y ∷ ys) - 1 ≡ length ys = omega arith in
    subst (λ n. y ∷ ys ≡ take n (y ∷ ys) ++ x ∷ []) (sym less) (ends_at (y ∷ ys) (length ys) x refl (subst (λ n. slice_get (y ∷ ys) n ≡ Some x) less e))

none_last : {X : Type 0} (y : X) (ys : List X) → slice_get (y ∷ ys) (length ys) ≡ None → ⊥
none_last y [] e = cc
none_last y (z ∷ zs) e = none_last z zs e

pub ends_none : {X : Type 0} (xs : List X) → slice_get xs (length xs - 1) ≡ None → xs ≡ []
ends_none [] e = refl
ends_none (y ∷ ys) e =
    let less : length (y ∷ ys) - 1 ≡ length ys = omega arith in
    absurd (none_last y ys (subst (λ n. slice_get (y ∷ ys) n ≡ None) less e))

seen_append : {A : Type 0} (xs ys : List ((ℕ × ℕ) × Vec ℕ A)) → seen (xs ++ ys) ≡ seen xs ++ seen ys
seen_append [] ys = refl
seen_append (x ∷ xs) ys = ap (λ r. (x.0, x.1.items) ∷ r) (seen_append xs ys)

pub total_append : (xs ys : List Entry) → total (xs ++ ys) ≡ total xs + total ys
total_append [] ys = omega arith
total_append (x ∷ xs) ys = omega (arith, total_append xs ys)

pub total_removed : (test : ℕ × ℕ → Bool) (es : List Entry) → total (remove_entry test es) + length (unwrap_or (lookup test es) []) ≡ total es
total_removed test [] = refl
total_removed test (e ∷ es) = elim (test e.0) as (λ b. total (cond b es (e ∷ remove_entry test es)) + length (unwrap_or (cond b (Some e.1) (lookup test es)) []) ≡ length e.1 + total es) [
  | true ↦ omega arith
  | false ↦ omega (arith, total_removed test es)
]

map_cond : {X Y : Type 0} (f : X → Y) (b : Bool) (x : X) (o : Option X) → option_map f (cond b (Some x) o) ≡ cond b (Some (f x)) (option_map f o)
map_cond f true x o = refl
map_cond f false x o = refl

module _ {A : Type 0} where
  abbrev pub seen_one : (ℕ × ℕ) × Vec ℕ A → Entry
  seen_one e = (e.0, e.1.items)

  pub lookup_seen : (test : ℕ × ℕ → Bool) (es : List ((ℕ × ℕ) × Vec ℕ A)) → lookup test (seen es) ≡ option_map (λ v. v.items) (lookup test es)
  lookup_seen test [] = refl
  lookup_seen test (e ∷ es) = ap (λ o. cond (test e.0) (Some e.1.items) o) (lookup_seen test es) ∙ sym (map_cond (λ v. v.items) (test e.0) e.1 (lookup test es))

  pub entry_seen : (test : ℕ × ℕ → Bool) (es : List ((ℕ × ℕ) × Vec ℕ A)) → lookup_entry test (seen es) ≡ option_map seen_one (lookup_entry test es)
  entry_seen test [] = refl
  entry_seen test (e ∷ es) = ap (λ o. cond (test e.0) (Some (seen_one e)) o) (entry_seen test es) ∙ sym (map_cond seen_one (test e.0) e (lookup_entry test es))

  pub remove_seen : (test : ℕ × ℕ → Bool) (es : List ((ℕ × ℕ) × Vec ℕ A)) → remove_entry test (seen es) ≡ seen (remove_entry test es)
  remove_seen test [] = refl
  remove_seen test (e ∷ es) = elim (test e.0) as (λ b. cond b (seen es) (seen_one e ∷ remove_entry test (seen es)) ≡ seen (cond b es (e ∷ remove_entry test es))) [
    | true ↦ refl
    | false ↦ ap (λ x. seen_one e ∷ x) (remove_seen test es)
  ]

  pub used_seen : (test : ℕ × ℕ → Bool) (es : List ((ℕ × ℕ) × Vec ℕ A)) → promoted test (seen es) ≡ seen (promoted test es)
  used_seen test es = ap (λ o. option_map_or (λ e. e ∷ remove_entry test (seen es)) o (seen es)) (entry_seen test es) ∙ each (lookup_entry test es)
    where
      each : (o : Option ((ℕ × ℕ) × Vec ℕ A)) → option_map_or (λ e. e ∷ remove_entry test (seen es)) (option_map seen_one o) (seen es) ≡ seen (option_map_or (λ e. e ∷ remove_entry test es) o es)
      each None = refl
      each (Some e) = ap (λ x. seen_one e ∷ x) (remove_seen test es)

  pub found_seen : (es : List ((ℕ × ℕ) × Vec ℕ A)) (file at : ℕ) → cached_at (seen es) file at ≡ unwrap_or (option_map (λ v. v.items) (lookup (same_place (file, at)) es)) []
  found_seen es file at = ap (λ o. unwrap_or o []) (lookup_seen (same_place (file, at)) es)

  pub found_none : (es : List ((ℕ × ℕ) × Vec ℕ A)) (file at : ℕ) → lookup (same_place (file, at)) es ≡ None → cached_at (seen es) file at ≡ []
  found_none es file at e = found_seen es file at ∙ ap (λ o. unwrap_or (option_map (λ v. v.items) o) []) e

  pub found_some : (es : List ((ℕ × ℕ) × Vec ℕ A)) (file at : ℕ) (v : Vec ℕ A) → lookup (same_place (file, at)) es ≡ Some v → cached_at (seen es) file at ≡ v.items
  found_some es file at v e = found_seen es file at ∙ ap (λ o. unwrap_or (option_map (λ v. v.items) o) []) e

  -- ---- the last entry, and the others

  pub seen_front : (es : List ((ℕ × ℕ) × Vec ℕ A)) → seen (take (length es - 1) es) ≡ take (length (seen es) - 1) (seen es)
  seen_front es = sym (take-map seen_one (length es - 1) es) ∙ ap (λ n. take (n - 1) (seen es)) (sym (length-map es seen_one))

  pub total_front : (es : List ((ℕ × ℕ) × Vec ℕ A)) (e : (ℕ × ℕ) × Vec ℕ A) → last_entry es ≡ Some e → total (seen (take (length es - 1) es)) + length e.1.items ≡ total (seen es)
  total_front es e is =
      let whole : seen es ≡ seen (take (length es - 1) es) ++ seen_one e ∷ [] = ap seen (ends_in es e is) ∙ seen_append (take (length es - 1) es) (e ∷ []) in
      let sum = total_append (seen (take (length es - 1) es)) (seen_one e ∷ []) in
      omega (arith, ap total whole, sum)

  pub total_none : (es : List ((ℕ × ℕ) × Vec ℕ A)) → last_entry es ≡ None → total (seen (take (length es - 1) es)) ≡ total (seen es)
  total_none es is = ap (λ x. total (seen x)) (ap (take (length es - 1)) (ends_none es is) ∙ take_nil (length es - 1) ∙ sym (ends_none es is))

  -- ---- what is under a place, and the others

  pub total_without : (es : List ((ℕ × ℕ) × Vec ℕ A)) (file at : ℕ) → total (seen (remove_entry (same_place (file, at)) es)) + length (cached_at (seen es) file at) ≡ total (seen es)
  total_without es file at = omega (arith, total_removed (same_place (file, at)) (seen es), ap total (remove_seen (same_place (file, at)) es))

  entry_none : (test : ℕ × ℕ → Bool) (es : List ((ℕ × ℕ) × Vec ℕ A)) → lookup test es ≡ None → lookup_entry test es ≡ None
  entry_none test [] e = refl
  entry_none test (x ∷ es) e = (elim (test x.0) as (λ b. cond b (Some x.1) (lookup test es) ≡ None → cond b (Some x) (lookup_entry test es) ≡ None) [
    | true ↦ λ h. cc
    | false ↦ λ h. entry_none test es h
  ]) e

  unseen_none : (o : Option (Vec ℕ A)) → option_map (λ v. v.items) o ≡ None → o ≡ None
  unseen_none None e = refl
  unseen_none (Some v) e = cc

  -- what is put under a place where nothing is
  pub put_absent : (c : LruCache (ℕ × ℕ) (Vec ℕ A)) (k : ℕ × ℕ) (v : Vec ℕ A) → lookup (same_place k) (seen c.entries) ≡ None → length (seen c.entries) < c.cap
      → put_entries same_place c k v ≡ (k, v) ∷ c.entries
  put_absent c k v none room =
      let absent = entry_none (same_place k) c.entries (unseen_none (lookup (same_place k) c.entries) (sym (lookup_seen (same_place k) c.entries) ∙ none)) in
      let same = length-map c.entries seen_one in
      ap (λ o. option_map_or (λ e. (e.0, v) ∷ remove_entry (same_place k) c.entries) o ((k, v) ∷ take (c.cap - 1) c.entries)) absent
      ∙ ap (λ es. (k, v) ∷ es) (take_all (c.cap - 1) c.entries (omega (arith, same, room)))

-- ---- how many bytes there are

pub entry_value : (test : ℕ × ℕ → Bool) (es : List Entry) → option_map (λ e. e.1) (lookup_entry test es) ≡ lookup test es
entry_value test [] = refl
entry_value test (e ∷ es) = elim (test e.0) as (λ b. option_map (λ (e : Entry). e.1) (cond b (Some e) (lookup_entry test es)) ≡ cond b (Some e.1) (lookup test es)) [
  | true ↦ refl
  | false ↦ entry_value test es
]

pub total_used : (test : ℕ × ℕ → Bool) (es : List Entry) → total (promoted test es) ≡ total es
total_used test es = each (lookup_entry test es) (entry_value test es)
  where
    each : (o : Option Entry) → option_map (λ e. e.1) o ≡ lookup test es → total (option_map_or (λ e. e ∷ remove_entry test es) o es) ≡ total es
    each None e = refl
    each (Some e) is =
        let all = total_removed test es in
        let one : length (unwrap_or (lookup test es) []) ≡ length e.1 = sym (ap (λ o. length (unwrap_or o [])) is) in
        omega (arith, all, one)

pub length_removed : (test : ℕ × ℕ → Bool) (es : List Entry) → length (remove_entry test es) ≤ length es
length_removed test [] = omega arith
length_removed test (e ∷ es) = elim (test e.0) as (λ b. length (cond b es (e ∷ remove_entry test es)) ≤ length (e ∷ es)) [
  | true ↦ omega arith
  | false ↦ omega (arith, length_removed test es)
]

-- ---- one step of a walk

keys_seen : {A : Type 0} (es : List ((ℕ × ℕ) × Vec ℕ A)) → keys_of (seen es) ≡ keys_of es
keys_seen [] = refl
keys_seen (e ∷ es) = ap (λ ks. e.0 ∷ ks) (keys_seen es)

pub distinct_seen : {A : Type 0} (es : List ((ℕ × ℕ) × Vec ℕ A)) → IsDistinct same_place (keys_of es) → IsDistinct same_place (keys_of (seen es))
distinct_seen es d = subst (λ ks. IsDistinct same_place ks) (sym (keys_seen es)) d

pub same_place_equiv : IsEquivalence same_place
same_place_equiv = and_equiv (on_equiv (λ (p : ℕ × ℕ). p.0) nat_eq_equiv) (on_equiv (λ (p : ℕ × ℕ). p.1) nat_eq_equiv)

apart_last : (k : ℕ × ℕ) (xs : List Entry) (e : Entry) → AllByRecursion (λ y. same_place k y ≡ false) (keys_of (xs ++ e ∷ [])) → same_place e.0 k ≡ false
apart_last k [] e all = same_place_equiv.symm e.0 k ∙ all.0
apart_last k (x ∷ xs) e all = apart_last k xs e all.1

entry_last : (xs : List Entry) (e : Entry) → IsDistinct same_place (keys_of (xs ++ e ∷ [])) → lookup_entry (same_place e.0) (xs ++ e ∷ []) ≡ Some e
entry_last [] e d = ap (λ b. cond b (Some e) None) (same_place_equiv.refl e.0)
entry_last (x ∷ xs) e d =
    ap (λ b. cond b (Some x) (lookup_entry (same_place e.0) (xs ++ e ∷ []))) (apart_last x.0 xs e (IsDistinct-head same_place x.0 (keys_of (xs ++ e ∷ [])) d))
    ∙ entry_last xs e (IsDistinct-tail same_place x.0 (keys_of (xs ++ e ∷ [])) d)

others_last : (xs : List Entry) (e : Entry) → IsDistinct same_place (keys_of (xs ++ e ∷ [])) → remove_entry (same_place e.0) (xs ++ e ∷ []) ≡ xs
others_last [] e d = ap (λ b. cond b [] (e ∷ [])) (same_place_equiv.refl e.0)
others_last (x ∷ xs) e d =
    ap (λ b. cond b (xs ++ e ∷ []) (x ∷ remove_entry (same_place e.0) (xs ++ e ∷ []))) (apart_last x.0 xs e (IsDistinct-head same_place x.0 (keys_of (xs ++ e ∷ [])) d))
    ∙ ap (λ r. x ∷ r) (others_last xs e (IsDistinct-tail same_place x.0 (keys_of (xs ++ e ∷ [])) d))

-- the last entry, used, goes to the front
pub used_last : (xs : List Entry) (e : Entry) → IsDistinct same_place (keys_of (xs ++ e ∷ [])) → promoted (same_place e.0) (xs ++ e ∷ []) ≡ e ∷ xs
used_last xs e d =
    ap (λ o. option_map_or (λ f. f ∷ remove_entry (same_place e.0) (xs ++ e ∷ [])) o (xs ++ e ∷ [])) (entry_last xs e d) ∙ ap (λ r. e ∷ r) (others_last xs e d)

pub turned_last : (file len : ℕ) (xs : List Entry) (e : Entry) → turned file len (xs ++ e ∷ []) ≡ cond (stays file len e) (e ∷ []) [] ++ xs
turned_last file len xs e =
    let less : length (xs ++ e ∷ []) - 1 ≡ length xs = omega (arith, length-append xs (e ∷ [])) in
    ap (λ n. filter (stays file len) (drop n (xs ++ e ∷ [])) ++ take n (xs ++ e ∷ [])) less
    ∙ ap (λ r. filter (stays file len) r ++ take (length xs) (xs ++ e ∷ [])) (drop_at xs (e ∷ []) (length xs) refl)
    ∙ ap (λ r. cond (stays file len e) (e ∷ []) [] ++ r) (take_at xs (e ∷ []) (length xs) refl)

-- ---- the same of what is in the cache

module _ {A : Type 0} (es : List ((ℕ × ℕ) × Vec ℕ A)) (e : (ℕ × ℕ) × Vec ℕ A) (is : last_entry es ≡ Some e) where
  whole : seen es ≡ seen (take (length es - 1) es) ++ seen_one e ∷ []
  whole = ap seen (ends_in es e is) ∙ seen_append (take (length es - 1) es) (e ∷ [])

  pub turned_stays : (file len : ℕ) → IsDistinct same_place (keys_of es) → stays file len (seen_one e) ≡ true → seen (promoted (same_place e.0) es) ≡ turned file len (seen es)
  turned_stays file len d s =
      let xs = seen (take (length es - 1) es) in
      sym (used_seen (same_place e.0) es) ∙ ap (promoted (same_place e.0)) whole
      ∙ used_last xs (seen_one e) (subst (λ x. IsDistinct same_place (keys_of x)) whole (distinct_seen es d))
      ∙ sym (ap (turned file len) whole ∙ turned_last file len xs (seen_one e) ∙ ap (λ b. cond b (seen_one e ∷ []) [] ++ xs) s)

  pub turned_goes : (file len : ℕ) → stays file len (seen_one e) ≡ false → seen (take (length es - 1) es) ≡ turned file len (seen es)
  turned_goes file len s =
      let xs = seen (take (length es - 1) es) in
      sym (ap (turned file len) whole ∙ turned_last file len xs (seen_one e) ∙ ap (λ b. cond b (seen_one e ∷ []) [] ++ xs) s)

pub turned_none : (file len : ℕ) (es : List Entry) → es ≡ [] → es ≡ turned file len es
turned_none file len es none = none ∙ sym (ap (turned file len) none)

-- ---- a walk over all entries

nothing : Entry
nothing = ((0, 0), [])

-- the entries behind the first so many have been looked at, and those that stay stand in front of the others
abbrev pub walked : ℕ → ℕ → ℕ → List Entry → List Entry
walked file len n es = behind_cut file len (drop n es) ++ take n es

pub walk_step : (file len n m : ℕ) (es : List Entry) → n ≡ m + 1 → n ≤ length es → turned file len (walked file len n es) ≡ walked file len m es
walk_step file len n m es is within =
    let less : m < length es = omega (arith, is, within) in
    let e = get_or es m nothing in
    let rest = behind_cut file len (drop n es) in
    let front : take n es ≡ take m es ++ e ∷ [] = ap (λ k. take k es) is ∙ take_more es m nothing less in
    let back : drop m es ≡ e ∷ drop n es = drop_more es m nothing less ∙ ap (λ k. e ∷ drop k es) (sym is) in
    ap (λ r. turned file len (rest ++ r)) front ∙ ap (turned file len) (sym (append_assoc rest (take m es) (e ∷ [])))
    ∙ turned_last file len (rest ++ take m es) e ∙ sym (append_assoc (cond (stays file len e) (e ∷ []) []) rest (take m es))
    ∙ ap (λ r. r ++ take m es) (one_more (stays file len e) e rest) ∙ sym (ap (λ r. behind_cut file len r ++ take m es) back)
  where
    one_more : (b : Bool) (e : Entry) (rest : List Entry) → cond b (e ∷ []) [] ++ rest ≡ cond b (e ∷ rest) rest
    one_more true e rest = refl
    one_more false e rest = refl

pub walk_begins : (file len n : ℕ) (es : List Entry) → n ≡ length es → es ≡ walked file len n es
walk_begins file len n es is =
    sym (ap (λ r. behind_cut file len r ++ take n es) (drop_all n es (omega (arith, is))) ∙ take_all n es (omega (arith, is)))

pub walk_ends : (file len n : ℕ) (es : List Entry) → n ≡ 0 → walked file len n es ≡ behind_cut file len es
walk_ends file len n es is = ap (λ k. walked file len k es) is ∙ append-nil (behind_cut file len es)

-- ---- those that were used last

pub latest_all : (n room : ℕ) (es : List Entry) → length es ≤ n → total es ≤ room → latest n room es ≡ es
latest_all zero room [] l t = refl
latest_all zero room (e ∷ es) l t = absurd (omega (arith, l))
latest_all (suc n) room [] l t = refl
latest_all (suc n) room (e ∷ es) l t =
    let fits : length e.1 ≤ room = omega (arith, t) in
    ap (λ b. cond b (e ∷ latest n (room - length e.1) es) []) (le-leb (length e.1) room fits)
    ∙ ap (λ r. e ∷ r) (latest_all n (room - length e.1) es (omega (arith, l)) (omega (arith, t)))

one_behind : (n room : ℕ) (x : Entry) (xs : List Entry) (e : Entry) → (suc n < length (x ∷ xs ++ e ∷ [])) ⊎ (room < total (x ∷ xs ++ e ∷ []))
    → ((n < length (xs ++ e ∷ [])) ⊎ (room - length x.1 < total (xs ++ e ∷ [])) → latest n (room - length x.1) xs ≡ latest n (room - length x.1) (xs ++ e ∷ []))
    → (b : Bool) → nat_le (length x.1) room ≡ b → cond b (x ∷ latest n (room - length x.1) xs) [] ≡ cond b (x ∷ latest n (room - length x.1) (xs ++ e ∷ [])) []
one_behind n room x xs e over same true is =
    let fits = leb-true (length x.1) room is in
    ap (λ r. x ∷ r) (same (⊎_elim (λ h. inl (omega (arith, h))) (λ h. inr (omega (arith, h, fits))) over))
one_behind n room x xs e over same false is = refl

latest_front : (n room : ℕ) (xs : List Entry) (e : Entry) → (n < length (xs ++ e ∷ [])) ⊎ (room < total (xs ++ e ∷ [])) → latest n room xs ≡ latest n room (xs ++ e ∷ [])
latest_front zero room xs e over = refl
latest_front (suc n) room [] e over = sym (ap (λ b. cond b (e ∷ latest n (room - length e.1) []) []) (lt-leb (length e.1) room (⊎_elim (λ h. absurd (omega (arith, h))) (λ h. omega (arith, h)) over)))
latest_front (suc n) room (x ∷ xs) e over =
    one_behind n room x xs e over (λ o. latest_front n (room - length x.1) xs e o) (nat_le (length x.1) room) refl

-- where they are too many, or have too many bytes, the last one is none of them
pub latest_less : (n room : ℕ) (es : List Entry) → (n < length es) ⊎ (room < total es) → latest n room (take (length es - 1) es) ≡ latest n room es
latest_less n room es over = each (slice_get es (length es - 1)) refl
  where
    each : (o : Option Entry) → slice_get es (length es - 1) ≡ o → latest n room (take (length es - 1) es) ≡ latest n room es
    each None is = ap (latest n room) (ap (take (length es - 1)) (ends_none es is) ∙ take_nil (length es - 1) ∙ sym (ends_none es is))
    each (Some e) is =
        let whole = ends_in es e is in
        latest_front n room (take (length es - 1) es) e (subst (λ x. (n < length x) ⊎ (room < total x)) whole over) ∙ ap (latest n room) (sym whole)

none_behind : (test : ℕ × ℕ → Bool) (n room : ℕ) (e : Entry) (es : List Entry) → (lookup test es ≡ None → lookup test (latest n room es) ≡ None) → (b c : Bool) → test e.0 ≡ b
    → cond b (Some e.1) (lookup test es) ≡ None → lookup test (cond c (e ∷ latest n room es) []) ≡ None
none_behind test n room e es rest true c is h = cc
none_behind test n room e es rest false false is h = refl
none_behind test n room e es rest false true is h = ap (λ b. cond b (Some e.1) (lookup test (latest n room es))) is ∙ rest h

pub lookup_latest : (test : ℕ × ℕ → Bool) (n room : ℕ) (es : List Entry) → lookup test es ≡ None → lookup test (latest n room es) ≡ None
lookup_latest test zero room es none = refl
lookup_latest test (suc n) room [] none = refl
lookup_latest test (suc n) room (e ∷ es) none =
    none_behind test n (room - length e.1) e es (λ h. lookup_latest test n (room - length e.1) es h) (test e.0) (nat_le (length e.1) room) refl none

-- nothing is left under a place
pub lookup_without : (es : List Entry) (file at : ℕ) → IsDistinct same_place (keys_of es) → lookup (same_place (file, at)) (without_entry es file at) ≡ None
lookup_without es file at d =
    let p : ℕ × ℕ = (file, at) in
    lookup-remove_entry same_place_equiv (same_place p) (λ x y e. same_place_equiv.congr p x y e) p es d
    ∙ ap (λ b. cond b None (lookup (same_place p) es)) (same_place_equiv.refl p)
