-- The table, after one batch more or less.
use Rattle.std.proofs.Common.{◌≡◌, ◌∙◌, ◌≤◌, ◌<◌, ◌+◌, ◌-◌, ◌%◌, ◌^◌, ℕ, zero, suc, ℤ, Bool, true, false, cond, List, [], ◌∷◌, ◌++◌, length, take, drop, map, get_or, Option, Some, None, refl, sym, ap, subst, arith, Result, Ok, Err, IsOk, OnOk, true≢false, ⊎_elim}
use Rattle.std.proofs.lemmas.Bool.{cases_lt}
use Rattle.std.proofs.lemmas.Bool.Decides.{Decides-int_eq}
use Rattle.std.proofs.lemmas.List.{map-append, length-map, length-append, get_or_append_left, get_or_push, take-append-le, take_at}
use Rattle.std.specs.Ordering.{int_eq}
use Rattle.kb_producers.specs.declared.kept.Kept.{Kept}
use Rattle.kb_producers.specs.declared.link.Link.{Link}
use Rattle.kb_producers.specs.Table.{kept_from, newest_place, one_on, IsLinked, AreLinked, IsNewest, IsTable}
use Rattle.kb_producers.proofs.Places.{place_popped, place_pushed}

is_int : (x y : ℤ) → int_eq x y ≡ true → x ≡ y
is_int x y e = (Decides-int_eq x y).0 e

-- an entry tells the place
pub place_told : (gone place count : ℕ) (o : Option ℕ) → IsNewest gone place o → o ≡ Some count → gone < 2 ^ 32 → place < 2 ^ 32 → (count + (2 ^ 32 - gone)) % 2 ^ 32 ≡ place
place_told gone place count o is e small few = let told : (0 < place) × (count ≡ (gone + place) % 2 ^ 32) = subst (IsNewest gone place) e is in omega (arith, told.1)

pub place_none : (gone place : ℕ) (o : Option ℕ) → IsNewest gone place o → o ≡ None → 0 ≡ place
place_none gone place o is e = sym (subst (IsNewest gone place) e is)

-- ---- without the oldest

-- what an entry tells, where its batch stays
shifted : (t : Bool) (gone p : ℕ) (e : Option ℕ) → IsNewest gone (one_on p t) e → (one_on p t ≡ 1 → ⊥) → IsNewest ((gone + 1) % 2 ^ 32) p e
shifted true gone zero e is more = absurd (more refl)
shifted false gone zero None is more = refl
shifted false gone zero (Some count) is more = absurd (omega (arith, is.0))
shifted t gone (suc p) None is more = absurd (omega (arith, is))
shifted t gone (suc p) (Some count) is more = (omega arith, omega (arith, is.1))

module _ (first : Link) (rest : List Link) (entry : ℤ → Option ℕ) (gone : ℕ) where
  linked_popped : AreLinked (first ∷ rest) → AreLinked rest
  linked_popped linked i d lt =
      let at = linked (suc i) d (omega (arith, lt)) in
      let place = place_popped (get_or rest i d).producer_id (kept_from first) (take i (map kept_from rest)) in
      omega (arith, at, place)

  apart : (id : ℤ) (p : ℕ) → int_eq first.producer_id id ≡ false → one_on p (int_eq first.producer_id id) ≡ 1 → ⊥
  apart id zero other one = absurd (omega (arith, ap (one_on 0) (sym other) ∙ one))
  apart id (suc p) other one = omega (arith, one)

  -- where its producer has a newer one
  pub popped : IsTable (first ∷ rest) entry gone → (newest_place first.producer_id (map kept_from (first ∷ rest)) ≡ 1 → ⊥) → IsTable rest entry ((gone + 1) % 2 ^ 32)
  popped is more = record {
    few = let few = is.few in omega (arith, few);
    linked = linked_popped is.linked;
    newest = λ id. shifted (int_eq first.producer_id id) gone (newest_place id (map kept_from rest)) (entry id) (is.newest id) (each id (int_eq first.producer_id id) refl);
  }
    where
      each : (id : ℤ) (t : Bool) → int_eq first.producer_id id ≡ t → one_on (newest_place id (map kept_from rest)) (int_eq first.producer_id id) ≡ 1 → ⊥
      each id true same one = more (subst (λ i. newest_place i (map kept_from (first ∷ rest)) ≡ 1) (sym (is_int first.producer_id id same)) one)
      each id false other one = apart id (newest_place id (map kept_from rest)) other one

  -- where it is the newest of its producer
  pub popped_newest : (entry' : ℤ → Option ℕ) → IsTable (first ∷ rest) entry gone → newest_place first.producer_id (map kept_from (first ∷ rest)) ≡ 1 → ((q : ℤ) → entry' q ≡ cond (int_eq first.producer_id q) None (entry q)) → IsTable rest entry' ((gone + 1) % 2 ^ 32)
  popped_newest entry' is one told = record {
    few = let few = is.few in omega (arith, few);
    linked = linked_popped is.linked;
    newest = λ id. subst (IsNewest ((gone + 1) % 2 ^ 32) (newest_place id (map kept_from rest))) (sym (told id)) (each id (int_eq first.producer_id id) refl);
  }
    where
      each : (id : ℤ) (t : Bool) → int_eq first.producer_id id ≡ t → IsNewest ((gone + 1) % 2 ^ 32) (newest_place id (map kept_from rest)) (cond (int_eq first.producer_id id) None (entry id))
      each id true same =
          let none : newest_place first.producer_id (map kept_from rest) ≡ 0 = omega (arith, one, place_popped first.producer_id (kept_from first) (map kept_from rest)) in
          subst (λ o. IsNewest ((gone + 1) % 2 ^ 32) (newest_place id (map kept_from rest)) o) (sym (ap (λ (t : Bool). cond t None (entry id)) same))
          (subst (λ i. newest_place i (map kept_from rest) ≡ 0) (is_int first.producer_id id same) none)
      each id false other =
          subst (λ o. IsNewest ((gone + 1) % 2 ^ 32) (newest_place id (map kept_from rest)) o) (sym (ap (λ (t : Bool). cond t None (entry id)) other))
          (shifted (int_eq first.producer_id id) gone (newest_place id (map kept_from rest)) (entry id) (is.newest id) (apart id (newest_place id (map kept_from rest)) other))

-- the list is its first link and what is left of it
pub front_popped : (links rest : List Link) (first : Link) → 0 < length links → first ≡ get_or links 0 first → rest ≡ drop 1 links → links ≡ first ∷ rest
front_popped [] rest first some is left = absurd (omega (arith, some))
front_popped (l ∷ links) rest first some is left = cc

-- ---- with one more

linked_pushed : (links : List Link) (l : Link) → AreLinked links → IsLinked l (length links) (map kept_from links) → AreLinked (links ++ l ∷ [])
linked_pushed links l linked leads i d lt = ⊎_elim older last (cases_lt i (length links))
  where
    at : (x : Link) (ks : List Kept) → get_or (links ++ l ∷ []) i d ≡ x → take i (map kept_from (links ++ l ∷ [])) ≡ ks → IsLinked x i ks → IsLinked (get_or (links ++ l ∷ []) i d) i (take i (map kept_from (links ++ l ∷ [])))
    at x ks is taken h =
        subst (λ (y : Link). IsLinked y i (take i (map kept_from (links ++ l ∷ [])))) (sym is)
        (subst (IsLinked x i) (sym taken) h)

    mapped : map kept_from (links ++ l ∷ []) ≡ map kept_from links ++ kept_from l ∷ []
    mapped = map-append kept_from links (l ∷ [])

    long : length (map kept_from links) ≡ length links
    long = length-map links kept_from

    older : i < length links → IsLinked (get_or (links ++ l ∷ []) i d) i (take i (map kept_from (links ++ l ∷ [])))
    older less = at (get_or links i d) (take i (map kept_from links)) (get_or_append_left links (l ∷ []) d i less) (ap (take i) mapped ∙ take-append-le i (map kept_from links) (kept_from l ∷ []) (omega (arith, less, long))) (linked i d less)

    last : length links ≤ i → IsLinked (get_or (links ++ l ∷ []) i d) i (take i (map kept_from (links ++ l ∷ [])))
    last more =
        let here : length links ≡ i = let size = length-append links (l ∷ []) in omega (arith, more, lt, size) in
        at l (map kept_from links) (get_or_push links l d i here) (ap (take i) mapped ∙ take_at (map kept_from links) (kept_from l ∷ []) i (long ∙ here)) (subst (λ n. IsLinked l n (map kept_from links)) here leads)

pub pushed : (links : List Link) (l : Link) (entry entry' : ℤ → Option ℕ) (gone count : ℕ) → IsTable links entry gone → length links + 1 < 2 ^ 32 → IsLinked l (length links) (map kept_from links) → count ≡ (gone + (length links + 1)) % 2 ^ 32 → ((q : ℤ) → entry' q ≡ cond (int_eq l.producer_id q) (Some count) (entry q)) → IsTable (links ++ l ∷ []) entry' gone
pushed links l entry entry' gone count is few leads counts told = record {
  few = let size = length-append links (l ∷ []) in omega (arith, few, size);
  linked = linked_pushed links l is.linked leads;
  newest = λ id. subst (λ ks. IsNewest gone (newest_place id ks) (entry' id)) (sym (map-append kept_from links (l ∷ [])))
      (subst (λ p. IsNewest gone p (entry' id)) (sym (place_pushed id (map kept_from links) (kept_from l)))
      (subst (IsNewest gone (cond (int_eq l.producer_id id) (suc (length (map kept_from links))) (newest_place id (map kept_from links)))) (sym (told id)) (each id (int_eq l.producer_id id))));
}
  where
    each : (id : ℤ) (t : Bool) → IsNewest gone (cond t (suc (length (map kept_from links))) (newest_place id (map kept_from links))) (cond t (Some count) (entry id))
    each id true = (omega arith, omega (arith, counts, length-map links kept_from))
    each id false = is.newest id

pub ok_gives : {T E P : Type 0} (r : Result T E) → IsOk r → OnOk r P → P
ok_gives (Ok x) is p = p
ok_gives (Err e) is p = absurd (true≢false (sym is))
