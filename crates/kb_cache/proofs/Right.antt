-- What the entries say of a disk, from one disk to the next, and what is read of them.
use Rattle.std.proofs.Common.{◌≡◌, ◌≢◌, ◌∙◌, ◌≤◌, ◌<◌, ◌+◌, ◌-◌, ◌++◌, ◌==◌, ◌&&◌, ℕ, zero, suc, Bool, true, false, cond, not, List, [], ◌∷◌, length, take, drop, Option, Some, None, IsSome, refl, sym, ap, subst, arith, ⊎_elim, eq-eqb, eqb-true}
use Rattle.std.specs.Prelude.{nat_eq, nat_le, nat_lt, option_map, unwrap_or, Result, Ok, Err, OnOk, OnErr}
use Rattle.std.specs.Option.{option_map_or}
use Rattle.std.specs.Map.{lookup, lookup_entry, remove_entry}
use Rattle.std.specs.FinMap.{get, insert}
use Rattle.std.proofs.lemmas.Bool.{and_parts, both_ways, cases_eq, leb-true, leb-false, ltb-false}
use Rattle.std.proofs.lemmas.List.{drop-drop, drop-append-le, length-append, length-drop, length-take, take_all, take-append-le, take-take, drop_at}
use Rattle.lru.specs.LruCache.{promoted}
use Rattle.lru.proofs.CallerLemmas.{Contains-lookup_entry}
use Rattle.kb_store.proofs.Maps.{get_inserted, get_other, get_kept}
use Rattle.kb_store.specs.Disk.{Disk, Table, Files, Becomes, IsThere, IsLawfulDisk, Keeps, Creates, Appends, Cuts, Removes, MayCreate, len_of, bytes_of}
use Rattle.std.specs.declared.vec.Vec.{Vec}
use Rattle.lru.specs.LruCache.{LruCache}
use Rattle.kb_cache.specs.Kept.{Entry, AreWithin, total, after_keep, behind_cut, cached_at, is_fit, is_kept, prepended, reads, same_place, stays, used, with_bytes, with_room}
use Rattle.kb_cache.specs.Cached.{AreRight, HasCap, IsRight, IsTidy, entries_in}
use Rattle.kb_cache.proofs.Seen.{same_place_equiv}
use Rattle.kb_cache.proofs.Sums.{all_kept, all_map, all_passed, all_reads, fit_some, reads_keep, total_reads, within_kept, within_reads}
use Rattle.kb_cache.proofs.Filling.{kept_long}

-- ---- from one disk to the next

right_keeps : (d d' : Disk) → Keeps d d' → (e : Entry) → IsRight d e → IsRight d' e
right_keeps d d' k e r = record {
  there = subst (λ (t : Table). IsSome (get t e.0.0)) (sym k.table) r.there;
  some = r.some;
  within = subst (λ (t : Table). e.0.1 + length e.1 ≤ unwrap_or (get t e.0.0) 0) (sym k.table) r.within;
  bytes = λ h. r.bytes (k.honest h) ∙ ap (λ (f : Files). take (length e.1) (drop e.0.1 (unwrap_or (get f e.0.0) []))) (sym (k.files h));
}

pub kept_right : (d d' : Disk) (es : List Entry) → Keeps d d' → AreRight d es → AreRight d' es
kept_right d d' es k all = all_map (IsRight d) (IsRight d') (right_keeps d d' k) es all

-- a file is put: an entry of it has to be within it
right_put : (d d' : Disk) (file n : ℕ) (s : List ℕ) → Becomes d (insert d.table file n) (insert d.files file s) d' → (e : Entry) → IsRight d e
    → (e.0.0 ≡ file → (e.0.1 + length e.1 ≤ n) × (d.honest → e.1 ≡ take (length e.1) (drop e.0.1 s))) → IsRight d' e
right_put d d' file n s b e r same =
    ⊎_elim
    (λ (is : e.0.0 ≡ file).
    let put : get d'.table e.0.0 ≡ Some n = ap (λ t. get t e.0.0) b.table ∙ ap (get (insert d.table file n)) is ∙ get_inserted d.table file n in
    let holds = same is in
    record {
      there = subst (λ o. IsSome o) (sym put) refl;
      some = r.some;
      within = subst (λ o. e.0.1 + length e.1 ≤ unwrap_or o 0) (sym put) holds.0;
      bytes = λ h.
          let file_is : get d'.files e.0.0 ≡ Some s = ap (λ f. get f e.0.0) (b.files h) ∙ ap (get (insert d.files file s)) is ∙ get_inserted d.files file s in
          holds.1 (b.honest h) ∙ ap (λ o. take (length e.1) (drop e.0.1 (unwrap_or o []))) (sym file_is);
    })
    (λ (ne : e.0.0 ≢ file).
    let other : get d'.table e.0.0 ≡ get d.table e.0.0 = ap (λ t. get t e.0.0) b.table ∙ get_other d.table file n e.0.0 ne in
    record {
      there = subst (λ o. IsSome o) (sym other) r.there;
      some = r.some;
      within = subst (λ o. e.0.1 + length e.1 ≤ unwrap_or o 0) (sym other) r.within;
      bytes = λ h.
          let file_is : get d'.files e.0.0 ≡ get d.files e.0.0 = ap (λ f. get f e.0.0) (b.files h) ∙ get_other d.files file s e.0.0 ne in
          r.bytes (b.honest h) ∙ ap (λ o. take (length e.1) (drop e.0.1 (unwrap_or o []))) (sym file_is);
    })
    (cases_eq e.0.0 file)

no_some : {X : Type 0} (o : Option X) → o ≡ None → IsSome o → ⊥
no_some {X} o e some = let s : IsSome {T = X} None = subst (λ o. IsSome o) e some in absurd cc

-- there is no entry of a file that is not there
pub created_right : (d d' : Disk) (file : ℕ) (es : List Entry) → get d.table file ≡ None → Creates d file d' → AreRight d es → AreRight d' es
created_right d d' file es none b all =
    all_map (IsRight d) (IsRight d') (λ e r. right_put d d' file 0 [] b e r (λ is. absurd (no_some (get d.table e.0.0) (ap (get d.table) is ∙ none) r.there))) es all

pub may_created_right : (d d' : Disk) (file : ℕ) (es : List Entry) → get d.table file ≡ None → MayCreate d file d' → AreRight d es → AreRight d' es
may_created_right d d' file es none may all = ⊎_elim (λ k. kept_right d d' es k all) (λ b. created_right d d' file es none b all) may

length_or : (o : Option (List ℕ)) → unwrap_or (option_map length o) 0 ≡ length (unwrap_or o [])
length_or None = refl
length_or (Some s) = refl

pub length_is : (d : Disk) (file : ℕ) → IsLawfulDisk d → d.honest → len_of d file ≡ length (bytes_of d file)
length_is d file l h = ap (λ o. unwrap_or o 0) (l.lengths h file) ∙ length_or (get d.files file)

-- what is put behind does not change what is in front
front_same : (s more : List ℕ) (at n : ℕ) → at + n ≤ length s → take n (drop at s) ≡ take n (drop at (s ++ more))
front_same s more at n l =
    sym (ap (take n) (drop-append-le at s more (omega (arith, l))) ∙ take-append-le n (drop at s) more (omega (arith, l, length-drop at s)))

pub grown_right : (d d' : Disk) (file : ℕ) (bytes : List ℕ) (es : List Entry) → IsLawfulDisk d → Appends d file bytes d' → AreRight d es → AreRight d' es
grown_right d d' file bytes es l b all = all_map (IsRight d) (IsRight d') (λ e r. right_put d d' file (len_of d file + length bytes) (bytes_of d file ++ bytes) b e r (λ is.
    let within : e.0.1 + length e.1 ≤ len_of d file = subst (λ f. e.0.1 + length e.1 ≤ len_of d f) is r.within in (
      omega (arith, within),
      λ h.
          r.bytes h ∙ ap (λ f. take (length e.1) (drop e.0.1 (bytes_of d f))) is
          ∙ front_same (bytes_of d file) bytes e.0.1 (length e.1) (omega (arith, within, length_is d file l h)),
    ))) es all

-- what was put behind is at the end that the file had
pub added_right : (d d' : Disk) (file : ℕ) (bytes : List ℕ) → IsLawfulDisk d → Appends d file bytes d' → 0 < length bytes → IsRight d' ((file, len_of d file), bytes)
added_right d d' file bytes l b some =
    let put : get d'.table file ≡ Some (len_of d file + length bytes) = ap (λ t. get t file) b.table ∙ get_inserted d.table file (len_of d file + length bytes) in
    record {
      there = subst (λ o. IsSome o) (sym put) refl;
      some = some;
      within = subst (λ o. len_of d file + length bytes ≤ unwrap_or o 0) (sym put) (omega arith);
      bytes = λ h.
          let has = bytes_of d file in
          let file_is : get d'.files file ≡ Some (has ++ bytes) = ap (λ f. get f file) (b.files h) ∙ get_inserted d.files file (has ++ bytes) in
          sym (ap (λ o. take (length bytes) (drop (len_of d file) (unwrap_or o []))) file_is
          ∙ ap (take (length bytes)) (drop_at has bytes (len_of d file) (sym (length_is d file l (b.honest h)))) ∙ take_all (length bytes) bytes (omega arith));
    }

not_both : (file len : ℕ) (e : Entry) → stays file len e ≡ true → e.0.0 ≡ file → e.0.1 + length e.1 ≤ len
not_both file len e s is =
    ltb-false len (e.0.1 + length e.1) (elim_not (nat_lt len (e.0.1 + length e.1)) (sym (ap (λ b. not (b && nat_lt len (e.0.1 + length e.1))) (eq-eqb e.0.0 file is)) ∙ s))
  where
    elim_not : (b : Bool) → not b ≡ true → b ≡ false
    elim_not true e = cc
    elim_not false e = refl

part_same : (s : List ℕ) (at n len : ℕ) → at + n ≤ len → take n (drop at s) ≡ take n (drop at (take len s))
part_same s zero n len l = sym (take-take n len s (omega (arith, l)))
part_same [] (suc at) n zero l = refl
part_same [] (suc at) n (suc len) l = refl
part_same (x ∷ s) (suc at) n zero l = absurd (omega (arith, l))
part_same (x ∷ s) (suc at) n (suc len) l = part_same s at n len (omega (arith, l))

pub cut_right : (d d' : Disk) (file len : ℕ) (es : List Entry) → Cuts d file len d' → AreRight d es → AreRight d' (behind_cut file len es)
cut_right d d' file len es b all = all_map (λ e. IsRight d e × (stays file len e ≡ true)) (IsRight d') (λ e p. right_put d d' file len (take len (bytes_of d file)) b e p.0 (λ is.
    let within = not_both file len e p.1 is in (
      within,
      λ h.
          p.0.bytes h ∙ ap (λ f. take (length e.1) (drop e.0.1 (bytes_of d f))) is
          ∙ part_same (bytes_of d file) e.0.1 (length e.1) len within,
    ))) (behind_cut file len es) (all_passed (IsRight d) (stays file len) es all)

pub fewer_right : (d : Disk) (file len : ℕ) (es : List Entry) → AreRight d es → AreRight d (behind_cut file len es)
fewer_right d file len es all = all_map (λ e. IsRight d e × (stays file len e ≡ true)) (IsRight d) (λ e p. p.0) (behind_cut file len es) (all_passed (IsRight d) (stays file len) es all)

right_removes : (d d' : Disk) (file : ℕ) → Removes d file d' → (e : Entry) → IsRight d e → e.0.0 ≢ file → IsRight d' e
right_removes d d' file b e r ne =
    let other : get d'.table e.0.0 ≡ get d.table e.0.0 = ap (λ t. get t e.0.0) b.table ∙ get_kept d.table file e.0.0 ne in
    record {
      there = subst (λ o. IsSome o) (sym other) r.there;
      some = r.some;
      within = subst (λ o. e.0.1 + length e.1 ≤ unwrap_or o 0) (sym other) r.within;
      bytes = λ h.
          let file_is : get d'.files e.0.0 ≡ get d.files e.0.0 = ap (λ f. get f e.0.0) (b.files h) ∙ get_kept d.files file e.0.0 ne in
          r.bytes (b.honest h) ∙ ap (λ o. take (length e.1) (drop e.0.1 (unwrap_or o []))) (sym file_is);
    }

pub removed_right : (d d' : Disk) (file : ℕ) (es : List Entry) → Removes d file d' → AreRight d es → AreRight d' (behind_cut file 0 es)
removed_right d d' file es b all = all_map (λ e. IsRight d e × (stays file 0 e ≡ true)) (IsRight d') (λ e p. right_removes d d' file b e p.0 (λ is.
    absurd (omega (arith, not_both file 0 e p.1 is, p.0.some)))) (behind_cut file 0 es) (all_passed (IsRight d) (stays file 0) es all)

-- ---- what is found, and what is read

found_right : (d : Disk) (es : List Entry) (file at : ℕ) → d.honest → AreRight d es → cached_at es file at ≡ take (length (cached_at es file at)) (drop at (bytes_of d file))
found_right d [] file at h all = refl
found_right d (e ∷ es) file at h all = (elim (same_place (file, at) e.0) as (λ b. same_place (file, at) e.0 ≡ b
    → unwrap_or (cond b (Some e.1) (lookup (same_place (file, at)) es)) []
    ≡ take (length (unwrap_or (cond b (Some e.1) (lookup (same_place (file, at)) es)) [])) (drop at (bytes_of d file))) [
      | true ↦ λ is.
          let both = and_parts (nat_eq file e.0.0) (nat_eq at e.0.1) is in
          let f : file ≡ e.0.0 = eqb-true file e.0.0 both.0 in
          let a : at ≡ e.0.1 = eqb-true at e.0.1 both.1 in
          all.0.bytes h ∙ ap (λ x. take (length e.1) (drop x (bytes_of d e.0.0))) (sym a) ∙ ap (λ x. take (length e.1) (drop at (bytes_of d x))) (sym f)
      | false ↦ λ is. found_right d es file at h all.1
    ]) refl

take_add : (n m : ℕ) (s : List ℕ) → take n s ++ take m (drop n s) ≡ take (n + m) s
take_add zero m s = ap (λ k. take k s) (let e : m ≡ 0 + m = omega arith in e)
take_add (suc n) m [] = ap (take m) refl ∙ none m ∙ sym (none (suc n + m))
  where
    none : (k : ℕ) → take {A = ℕ} k [] ≡ []
    none zero = refl
    none (suc k) = refl
take_add (suc n) m (x ∷ s) = ap (λ r. x ∷ r) (take_add n m s) ∙ ap (λ k. take k (x ∷ s)) (let e : suc (n + m) ≡ suc n + m = omega arith in e)

part_found : (n : ℕ) (b s : List ℕ) → b ≡ take (length b) s → take n b ≡ take (length (take n b)) s
part_found n b s is =
    let short : n ≤ length b → take n b ≡ take (length (take n b)) s = λ l.
    ap (take n) is ∙ take-take n (length b) s l ∙ ap (λ k. take k s) (let e : n ≡ length (take n b) = omega (arith, length-take n b, l) in e) in
    let long : length b ≤ n → take n b ≡ take (length (take n b)) s = λ l.
    take_all n b l ∙ is ∙ ap (λ k. take k s) (let e : length b ≡ length (take n b) = omega (arith, length-take n b, l) in e) in
    (elim (nat_le n (length b)) as (λ c. nat_le n (length b) ≡ c → take n b ≡ take (length (take n b)) s) [
      | true ↦ λ c. short (leb-true n (length b) c)
      | false ↦ λ c. long (omega (arith, leb-false n (length b) c))
    ]) refl

-- ---- what is found does not go by the order

behind_moved : (q k : ℕ × ℕ) (es : List Entry) (e : Entry) → lookup_entry (same_place k) es ≡ Some e → same_place k e.0 ≡ true
    → cond (same_place q e.0) (Some e.1) (lookup (same_place q) (remove_entry (same_place k) es)) ≡ lookup (same_place q) es
behind_moved q k [] e is at_k = cc
behind_moved q k (f ∷ es) e is at_k = (elim (same_place k f.0) as (λ b. same_place k f.0 ≡ b → cond b (Some f) (lookup_entry (same_place k) es) ≡ Some e
    → cond (same_place q e.0) (Some e.1) (lookup (same_place q) (cond b es (f ∷ remove_entry (same_place k) es))) ≡ cond (same_place q f.0) (Some f.1) (lookup (same_place q) es)) [
      | true ↦ λ at_f h. let same : f ≡ e = cc in ap (λ (x : Entry). cond (same_place q x.0) (Some x.1) (lookup (same_place q) es)) (sym same)
      | false ↦ λ at_f h. swap q k f e (lookup (same_place q) (remove_entry (same_place k) es)) (lookup (same_place q) es) at_k at_f (behind_moved q k es e h at_k)
    ]) refl is
  where
    swap : (q k : ℕ × ℕ) (f e : Entry) (less all : Option (List ℕ)) → same_place k e.0 ≡ true → same_place k f.0 ≡ false → cond (same_place q e.0) (Some e.1) less ≡ all
        → cond (same_place q e.0) (Some e.1) (cond (same_place q f.0) (Some f.1) less) ≡ cond (same_place q f.0) (Some f.1) all
    swap q k f e less all at_k at_f same = (elim (same_place q f.0) as (λ b. same_place q f.0 ≡ b
        → cond (same_place q e.0) (Some e.1) (cond b (Some f.1) less) ≡ cond b (Some f.1) all) [
          | true ↦ λ is. (elim (same_place q e.0) as (λ b. same_place q e.0 ≡ b → cond b (Some e.1) (Some f.1) ≡ Some f.1) [
            | true ↦ λ both. absurd (both_ways (same_place k f.0) at_f (same_place_equiv.congr k e.0 f.0 at_k ∙ sym (same_place_equiv.congr q e.0 f.0 both) ∙ is))
            | false ↦ λ _. refl
          ]) refl
          | false ↦ λ is. same
        ]) refl

lookup_front : (q k : ℕ × ℕ) (es : List Entry) (o : Option Entry) → lookup_entry (same_place k) es ≡ o
    → lookup (same_place q) (option_map_or (λ e. e ∷ remove_entry (same_place k) es) o es) ≡ lookup (same_place q) es
lookup_front q k es None is = refl
lookup_front q k es (Some e) is = behind_moved q k es e is (Contains-lookup_entry (same_place k) es e is).1

found_moved : (es : List Entry) (k : ℕ × ℕ) (file at : ℕ) → cached_at (promoted (same_place k) es) file at ≡ cached_at es file at
found_moved es k file at = ap (λ o. unwrap_or o []) (lookup_front (file, at) k es (lookup_entry (same_place k) es) refl)

found_read : (k : ℕ) (es : List Entry) (file at n a : ℕ) → cached_at (reads k es file at n).1 file a ≡ cached_at es file a
found_read k es file at n a = reads_keep (λ x. cached_at x file a) (λ place x. found_moved x place file a) k es file at n

joined_first : (b : List ℕ) (es fs : List Entry) (r s : List ℕ × List Entry) → r.0 ≡ s.0 → (prepended b es r).0 ≡ (prepended b fs s).0
joined_first [] es fs r s more = refl
joined_first (x ∷ b) es fs r s more = ap (λ y. x ∷ b ++ y) more

joined_alike : (b c : List ℕ) (es fs : List Entry) (r s : List ℕ × List Entry) → b ≡ c → r.0 ≡ s.0 → (prepended b es r).0 ≡ (prepended c fs s).0
joined_alike b c es fs r s same more = joined_first b es fs r s more ∙ ap (λ x. (prepended x fs s).0) same

reads_alike : (k : ℕ) (es fs : List Entry) (file at n : ℕ) → ((a : ℕ) → cached_at es file a ≡ cached_at fs file a) → (reads k es file at n).0 ≡ (reads k fs file at n).0
reads_alike zero es fs file at n same = refl
reads_alike (suc k) es fs file at n same =
    let b = take n (cached_at es file at) in
    let c = take n (cached_at fs file at) in
    let e : b ≡ c = ap (take n) (same at) in
    let x = used es file at in
    let y = used fs file at in
    let more = reads_alike k x y file (at + length b) (n - length b) (λ a. found_moved es (file, at) file a ∙ same a ∙ sym (found_moved fs (file, at) file a)) in
    elim (n == 0) as (λ d. (cond d ([], es) (prepended b x (reads k x file (at + length b) (n - length b)))).0 ≡ (cond d ([], fs) (prepended c y (reads k y file (at + length c) (n - length c)))).0) [
      | true ↦ refl
      | false ↦ joined_alike b c x y (reads k x file (at + length b) (n - length b)) (reads k y file (at + length c) (n - length c)) e
          (more ∙ (λ i. (reads k y file (at + length (e i)) (n - length (e i))).0))
    ]

-- what was kept is kept after it was read
pub kept_read : (es : List Entry) (file at n : ℕ) → is_kept es file at n ≡ true → is_kept (reads n es file at n).1 file at n ≡ true
kept_read es file at n is = ap (λ x. length x == n) (reads_alike n (reads n es file at n).1 es file at n (found_read n es file at n)) ∙ is

-- what is kept now is kept
kept_now : (most_entries most_bytes : ℕ) (es : List Entry) (file at : ℕ) (bytes : List ℕ) → is_fit most_entries most_bytes bytes ≡ true
    → is_kept (after_keep most_entries most_bytes es file at bytes true) file at (length bytes) ≡ true
kept_now most_entries most_bytes es file at bytes fit =
    let n = length bytes in
    let some = fit_some most_entries most_bytes bytes fit in
    let front = used es file at in
    let more = with_bytes most_entries most_bytes es file at bytes in
    ap (λ f. is_kept (cond (not f) es (cond (nat_le n (length (cached_at es file at))) front more)) file at n) fit
    ∙ (elim (nat_le n (length (cached_at es file at))) as (λ c. nat_le n (length (cached_at es file at)) ≡ c → is_kept (cond c front more) file at n ≡ true) [
      | true ↦ λ c. kept_long front file at n some (omega (arith, leb-true n (length (cached_at es file at)) c, ap length (found_moved es (file, at) file at)))
      | false ↦ λ c. kept_long more file at n some (omega (arith, ap (λ d. length (unwrap_or (cond d (Some bytes) (lookup (same_place (file, at)) (with_room most_entries most_bytes es file at bytes))) [])) (same_place_equiv.refl (file, at))))
    ]) refl

pub kept_told : (most_entries most_bytes : ℕ) (es es' : List Entry) (file at at' n : ℕ) (bytes : List ℕ) (kept : Bool) → es' ≡ after_keep most_entries most_bytes es file at bytes kept
    → kept ≡ true → is_fit most_entries most_bytes bytes ≡ true → at' ≡ at → n ≡ length bytes → is_kept es' file at' n ≡ true
kept_told most_entries most_bytes es es' file at at' n bytes kept is told fit place size =
    (λ i. is_kept (is i) file (place i) (size i))
    ∙ ap (λ k. is_kept (after_keep most_entries most_bytes es file at bytes k) file at (length bytes)) told
    ∙ kept_now most_entries most_bytes es file at bytes fit

joined_right : (b s : List ℕ) (at : ℕ) (es : List Entry) (r : List ℕ × List Entry) → b ≡ take (length b) (drop at s) → r.0 ≡ take (length r.0) (drop (at + length b) s)
    → (prepended b es r).0 ≡ take (length (prepended b es r).0) (drop at s)
joined_right [] s at es r is more = refl
joined_right (x ∷ b) s at es r is more =
    let c = x ∷ b in
    (λ i. is i ++ more i)
    ∙ ap (λ y. take (length c) (drop at s) ++ take (length r.0) y) (sym (drop-drop (length c) at s))
    ∙ take_add (length c) (length r.0) (drop at s) ∙ ap (λ k. take k (drop at s)) (sym (length-append c r.0))

reads_right : (d : Disk) (k : ℕ) (es : List Entry) (file at n : ℕ) → d.honest → ((a : ℕ) → cached_at es file a ≡ take (length (cached_at es file a)) (drop a (bytes_of d file)))
    → (reads k es file at n).0 ≡ take (length (reads k es file at n).0) (drop at (bytes_of d file))
reads_right d zero es file at n h right = refl
reads_right d (suc k) es file at n h right =
    let b = take n (cached_at es file at) in
    let next = used es file at in
    let here = part_found n (cached_at es file at) (drop at (bytes_of d file)) (right at) in
    elim (n == 0) as (λ c. (cond c ([], es) (prepended b next (reads k next file (at + length b) (n - length b)))).0
    ≡ take (length (cond c ([], es) (prepended b next (reads k next file (at + length b) (n - length b)))).0) (drop at (bytes_of d file))) [
      | true ↦ refl
      | false ↦ joined_right b (bytes_of d file) at next (reads k next file (at + length b) (n - length b)) here
          (reads_right d k next file (at + length b) (n - length b) h (λ a. found_moved es (file, at) file a ∙ right a ∙ ap (λ x. take (length x) (drop a (bytes_of d file))) (sym (found_moved es (file, at) file a))))
    ]

-- what is read of entries that are right is right
pub read_right : (d : Disk) (es : List Entry) (file at n : ℕ) → d.honest → AreRight d es → is_kept es file at n ≡ true
    → (reads n es file at n).0 ≡ take n (drop at (bytes_of d file))
read_right d es file at n h all kept =
    reads_right d n es file at n h (λ a. found_right d es file a h all) ∙ ap (λ k. take k (drop at (bytes_of d file))) (eqb-true (length (reads n es file at n).0) n kept)

-- what holds after an answer and after a refusal holds
pub on_either : {T E G : Type 0} (result : Result T E) (P Q : Type 0) → OnOk result P → OnErr result Q → (P → G) → (Q → G) → G
on_either (Ok x) P Q ok err f g = f ok
on_either (Err x) P Q ok err f g = g err

-- what was read stands where it was read
pub one_read : (d e : Disk) (file at n : ℕ) (bytes : List ℕ) → Keeps d e → IsThere d file → at + n ≤ len_of d file → length bytes ≡ n
    → (e.honest → bytes ≡ take n (drop at (bytes_of d file))) → 0 < length bytes → IsRight e ((file, at), bytes)
one_read d e file at n bytes k there within size is some = record {
  there = subst (λ (t : Table). IsSome (get t file)) (sym k.table) there;
  some = some;
  within = subst (λ (t : Table). at + length bytes ≤ unwrap_or (get t file) 0) (sym k.table) (subst (λ m. at + m ≤ len_of d file) (sym size) within);
  bytes = λ h. is h ∙ ap (λ m. take m (drop at (bytes_of d file))) (sym size) ∙ ap (λ (f : Files). take (length bytes) (drop at (unwrap_or (get f file) []))) (sym (k.files h));
}

-- what was put behind stands at the end that was told
pub one_added : (d e f : Disk) (file at : ℕ) (bytes : List ℕ) → Keeps d e → IsLawfulDisk e → Appends e file bytes f → at ≡ len_of d file → 0 < length bytes → IsRight f ((file, at), bytes)
one_added d e f file at bytes k l b is some =
    let told : len_of e file ≡ at = ap (λ (t : Table). unwrap_or (get t file) 0) k.table ∙ sym is in
    subst (λ x. IsRight f ((file, x), bytes)) told (added_right e f file bytes l b some)

module _ {A : Type 0} (d : Disk) (cache : Option (LruCache (ℕ × ℕ) (Vec ℕ A))) (size most_entries most_bytes : ℕ) (tidy : IsTidy d cache size most_entries most_bytes) where
  -- after a read from memory, and a call that leaves the files
  pub tidy_read : (e : Disk) (cache' : Option (LruCache (ℕ × ℕ) (Vec ℕ A))) (k file at n : ℕ) → Keeps d e → entries_in cache' ≡ (reads k (entries_in cache) file at n).1
      → HasCap most_entries cache' → IsTidy e cache' size most_entries most_bytes
  tidy_read e cache' k file at n keeps is cap = record {
    counted = tidy.counted ∙ sym (ap total is ∙ total_reads k (entries_in cache) file at n);
    cap = cap;
    within = subst (λ x. AreWithin most_entries most_bytes x) (sym is) (within_reads most_entries most_bytes k (entries_in cache) file at n tidy.within);
    right = subst (λ x. AreRight e x) (sym is) (kept_right d e (reads k (entries_in cache) file at n).1 keeps (all_reads (IsRight d) k (entries_in cache) file at n tidy.right));
  }

  -- after some bytes were to be kept
  pub tidy_kept : (cache' : Option (LruCache (ℕ × ℕ) (Vec ℕ A))) (size' file at : ℕ) (bytes : List ℕ) (kept : Bool) → size' ≡ total (entries_in cache')
      → entries_in cache' ≡ after_keep most_entries most_bytes (entries_in cache) file at bytes kept → HasCap most_entries cache'
      → (0 < length bytes → IsRight d ((file, at), bytes)) → IsTidy d cache' size' most_entries most_bytes
  tidy_kept cache' size' file at bytes kept counted is cap one = record {
    counted = counted;
    cap = cap;
    within = subst (λ x. AreWithin most_entries most_bytes x) (sym is) (within_kept most_entries most_bytes (entries_in cache) file at bytes tidy.within kept);
    right = subst (λ x. AreRight d x) (sym is)
        (all_kept (IsRight d) most_entries most_bytes (entries_in cache) file at bytes kept tidy.right (λ fit. one (fit_some most_entries most_bytes bytes fit)));
  }
