-- The place of a producer's newest batch.
use Rattle.std.proofs.Common.{◌≡◌, ◌∙◌, ◌≤◌, ◌<◌, ◌+◌, ◌-◌, ℕ, zero, suc, ℤ, Bool, true, false, cond, List, [], ◌∷◌, ◌++◌, length, take, get_or, refl, sym, ap, subst, arith, map, reverse, add-one}
use Rattle.std.proofs.lemmas.List.{take_more, take-take, length-take, length-map, get_or-map, reverse-append, append_assoc}
use Rattle.std.proofs.lemmas.List.Elements.{filter-append}
use Rattle.std.proofs.lemmas.Bool.Decides.{Decides-int_eq}
use Rattle.std.specs.Ordering.{int_eq}
use Rattle.kb_producers.specs.declared.kept.Kept.{Kept}
use Rattle.kb_producers.specs.declared.link.Link.{Link}
use Rattle.kb_producers.specs.Verdict.{batches_of}
use Rattle.kb_producers.specs.Table.{kept_from, newest_place, one_on, IsLinked, AreLinked}

one_on_le : (p n : ℕ) (t : Bool) → p ≤ n → one_on p t ≤ suc n
one_on_le zero n true h = omega (arith, h)
one_on_le zero n false h = omega arith
one_on_le (suc p) n t h = omega (arith, h)

-- it is one of them
pub place_le : (id : ℤ) (ks : List Kept) → newest_place id ks ≤ length ks
place_le id [] = omega arith
place_le id (k ∷ ks) = one_on_le (newest_place id ks) (length ks) (int_eq k.producer_id id) (place_le id ks)

one_back : (p : ℕ) (t : Bool) → p ≡ one_on p t - 1
one_back zero true = refl
one_back zero false = refl
one_back (suc p) t = omega arith

-- without the oldest it is one further in front
pub place_popped : (id : ℤ) (k : Kept) (ks : List Kept) → newest_place id ks ≡ newest_place id (k ∷ ks) - 1
place_popped id k ks = one_back (newest_place id ks) (int_eq k.producer_id id)

one_pushed : (t f : Bool) (n p : ℕ) → one_on (cond f (suc n) p) t ≡ cond f (suc (suc n)) (one_on p t)
one_pushed t true n p = refl
one_pushed t false n p = refl

alone : (t : Bool) → one_on 0 t ≡ cond t 1 0
alone true = refl
alone false = refl

-- with one more it is that, where it is the producer's
pub place_pushed : (id : ℤ) (ks : List Kept) (k : Kept) → newest_place id (ks ++ k ∷ []) ≡ cond (int_eq k.producer_id id) (suc (length ks)) (newest_place id ks)
place_pushed id [] k = alone (int_eq k.producer_id id)
place_pushed id (x ∷ ks) k = ap (λ p. one_on p (int_eq x.producer_id id)) (place_pushed id ks k) ∙ one_pushed (int_eq x.producer_id id) (int_eq k.producer_id id) (length ks) (newest_place id ks)

-- behind it the producer has none
pub batches_within : (id : ℤ) (ks : List Kept) → batches_of id (take (newest_place id ks) ks) ≡ batches_of id ks
batches_within id [] = refl
batches_within id (k ∷ ks) = by (newest_place id ks) (int_eq k.producer_id id) refl (batches_within id ks)
  where
    by : (p : ℕ) (t : Bool) → int_eq k.producer_id id ≡ t → batches_of id (take p ks) ≡ batches_of id ks → batches_of id (take (one_on p t) (k ∷ ks)) ≡ batches_of id (k ∷ ks)
    by zero true e rest = ap (λ (t : Bool). cond t (k ∷ []) []) e ∙ ap (λ bs. k ∷ bs) rest ∙ sym (ap (λ (t : Bool). cond t (k ∷ batches_of id ks) (batches_of id ks)) e)
    by zero false e rest = rest ∙ sym (ap (λ (t : Bool). cond t (k ∷ batches_of id ks) (batches_of id ks)) e)
    by (suc p) t e rest = ap (λ bs. cond (int_eq k.producer_id id) (k ∷ bs) bs) rest

pub place_within : (id : ℤ) (ks : List Kept) → newest_place id (take (newest_place id ks) ks) ≡ newest_place id ks
place_within id [] = refl
place_within id (k ∷ ks) = by (newest_place id ks) (int_eq k.producer_id id) refl (place_within id ks)
  where
    by : (p : ℕ) (t : Bool) → int_eq k.producer_id id ≡ t → newest_place id (take p ks) ≡ p → newest_place id (take (one_on p t) (k ∷ ks)) ≡ one_on p t
    by zero true e rest = ap (one_on 0) e
    by zero false e rest = refl
    by (suc p) t e rest = ap (λ q. one_on q (int_eq k.producer_id id)) rest

-- ---- a walk from the newest on

module _ (id : ℤ) (ks : List Kept) (m : ℕ) (d : Kept) (lt : m < length ks) where
  taken : take (suc m) ks ≡ take m ks ++ get_or ks m d ∷ []
  taken = ap (λ n. take n ks) (sym (add-one m)) ∙ take_more ks m d lt

  -- where the newest of the first so many is the last of them, that is the producer's
  pub own_at : newest_place id (take (suc m) ks) ≡ suc m → int_eq (get_or ks m d).producer_id id ≡ true
  own_at is = by (int_eq (get_or ks m d).producer_id id) (sym (place_pushed id (take m ks) (get_or ks m d)) ∙ ap (newest_place id) (sym taken) ∙ is)
    where
      by : (t : Bool) → cond t (suc (length (take m ks))) (newest_place id (take m ks)) ≡ suc m → t ≡ true
      by true e = refl
      by false e = absurd (omega (arith, e, place_le id (take m ks), length-take m ks))

  -- the producer's among them, the newest first, are that and those up to the newest in front of it
  pub batches_from : (place : ℕ) → newest_place id (take (suc m) ks) ≡ suc m → place ≡ newest_place id (take m ks) → reverse (batches_of id (take (suc m) ks)) ≡ get_or ks m d ∷ reverse (batches_of id (take place ks))
  batches_from place is next =
      ap (λ xs. reverse (batches_of id xs)) taken
      ∙ ap reverse (filter-append (λ (k : Kept). int_eq k.producer_id id) (take m ks) (get_or ks m d ∷ []))
      ∙ ap (λ (t : Bool). reverse (batches_of id (take m ks) ++ cond t (get_or ks m d ∷ []) [])) (own_at is)
      ∙ reverse-append (batches_of id (take m ks)) (get_or ks m d ∷ [])
      ∙ ap (λ bs. get_or ks m d ∷ reverse bs) (sym (batches_within id (take m ks)))
      ∙ ap (λ xs. get_or ks m d ∷ reverse (batches_of id xs)) (shorter ∙ ap (λ n. take n ks) (sym next))
    where
      shorter : take (newest_place id (take m ks)) (take m ks) ≡ take (newest_place id (take m ks)) ks
      shorter = take-take (newest_place id (take m ks)) m ks (omega (arith, place_le id (take m ks), length-take m ks))

  -- and so the walk goes on
  pub place_next : (place : ℕ) → place ≡ newest_place id (take m ks) → newest_place id (take place ks) ≡ place
  place_next place next =
      ap (λ n. newest_place id (take n ks)) next
      ∙ ap (newest_place id) (sym (take-take (newest_place id (take m ks)) m ks (omega (arith, place_le id (take m ks), length-take m ks))))
      ∙ place_within id (take m ks) ∙ sym next

-- ---- the same, from link to link

module _ (links : List Link) (id : ℤ) (m : ℕ) (l : Link) (lt : m < length links) (is : l ≡ get_or links m l) where
  kept_at : get_or (map kept_from links) m (kept_from l) ≡ kept_from l
  kept_at = get_or-map kept_from links m l (kept_from l) lt ∙ ap kept_from (sym is)

  in_kept : m < length (map kept_from links)
  in_kept = omega (arith, lt, length-map links kept_from)

  -- where the link leads
  pub place_led : AreLinked links → newest_place id (take (suc m) (map kept_from links)) ≡ suc m → suc m - l.before ≡ newest_place id (take m (map kept_from links))
  place_led linked place =
      let own : int_eq l.producer_id id ≡ true = ap (λ (k : Kept). int_eq k.producer_id id) (sym kept_at) ∙ own_at id (map kept_from links) m (kept_from l) in_kept place in
      let at = subst (λ (x : Link). IsLinked x m (take m (map kept_from links))) (sym is) (linked m l lt) in
      at ∙ ap (λ i. newest_place i (take m (map kept_from links))) ((Decides-int_eq l.producer_id id).0 own)

  -- what the walk has after one turn more
  pub turn_on : (turn next : ℕ) (recent recent' all : List Kept) → turn < 5 → newest_place id (take (suc m) (map kept_from links)) ≡ suc m → next ≡ newest_place id (take m (map kept_from links)) → recent' ≡ recent ++ kept_from l ∷ [] → recent ++ take (5 - turn) (reverse (batches_of id (take (suc m) (map kept_from links)))) ≡ all → recent' ++ take (5 - (turn + 1)) (reverse (batches_of id (take next (map kept_from links)))) ≡ all
  turn_on turn next recent recent' all few place leads more so_far =
      let left : 5 - turn ≡ suc (5 - (turn + 1)) = omega (arith, few) in
      let from = batches_from id (map kept_from links) m (kept_from l) in_kept next place leads in
      ap (λ r. r ++ take (5 - (turn + 1)) (reverse (batches_of id (take next (map kept_from links))))) more
      ∙ append_assoc recent (kept_from l ∷ []) (take (5 - (turn + 1)) (reverse (batches_of id (take next (map kept_from links)))))
      ∙ ap (λ k. recent ++ k ∷ take (5 - (turn + 1)) (reverse (batches_of id (take next (map kept_from links))))) (sym kept_at)
      ∙ ap (λ bs. recent ++ take (suc (5 - (turn + 1))) bs) (sym from)
      ∙ ap (λ n. recent ++ take n (reverse (batches_of id (take (suc m) (map kept_from links))))) (sym left)
      ∙ so_far
