-- A change of each member, member by member, and of one.
use Rattle.std.proofs.Common.{◌≡◌, ℕ, zero, suc, ◌+◌, ◌<◌, List, [], ◌∷◌, length, Option, Some, None, slice_get, refl, sym, ap, ◌∙◌, Bool, true, false, nat_eq, arith, position, map, get_or, is_some, true≢false, ◌++◌, length-append, if◌then◌else◌}
use Rattle.std.specs.Map.{remove_entry}
use Rattle.indexmap.specs.IndexMap.{insert_entry}
use Rattle.std.specs.Option.{option_to_list}
use Rattle.std.proofs.lemmas.List.{same_from_push}
use Rattle.std.specs.Map.{lookup, keys_of}
use Rattle.std.proofs.Math.Numerals.{suc-eq-add-one}
use Rattle.std.proofs.lemmas.Option.{same_Some, none-some}
use Rattle.std.specs.List.{AllByRecursion}
use Rattle.indexmap.specs.Layout.{set_value_at}
use Rattle.indexmap.proofs.MapLemmas.{Found-position, absent_from_lookup}
use Rattle.kb_groups.specs.declared.member.Member.{Member}
use Rattle.kb_groups.specs.Members.{Roster, member, each, changed, put, without}

-- The first i members changed.
unfoldable pub front : (ℕ → Member → Member) → ℕ → Roster → Roster
front f zero es = es
front f (suc i) [] = []
front f (suc i) (e ∷ es) = (e.0, f e.0 e.1) ∷ front f i es

pub front_at : (f : ℕ → Member → Member) (i : ℕ) (es : Roster) (n : ℕ) (m : Member) → slice_get (front f i es) i ≡ Some (n, m) → set_value_at (front f i es) i (f n m) ≡ front f (suc i) es
unfolding front
front_at f zero [] n m h = refl
front_at f zero (e ∷ es) n m h = ap (λ p. (e.0, f p.0 p.1) ∷ es) (sym (same_Some _ _ h))
front_at f (suc i) [] n m h = refl
front_at f (suc i) (e ∷ es) n m h = ap (λ r. (e.0, f e.0 e.1) ∷ r) (front_at f i es n m h)

pub length-front : (f : ℕ → Member → Member) (i : ℕ) (es : Roster) → length (front f i es) ≡ length es
unfolding front
length-front f zero es = refl
length-front f (suc i) [] = refl
length-front f (suc i) (e ∷ es) = ap suc (length-front f i es)

pub front_all : (f : ℕ → Member → Member) (es : Roster) → front f (length es) es ≡ each f es
unfolding front each
front_all f [] = refl
front_all f (e ∷ es) = ap (λ r. (e.0, f e.0 e.1) ∷ r) (front_all f es)

-- The place of the first entry whose key passes.
abbrev First : (ℕ → Bool) → Roster → ℕ → Type 0
First t [] i = ⊥
First t (e ∷ es) zero = t e.0 ≡ true
First t (e ∷ es) (suc i) = (t e.0 ≡ false) × First t es i

changed_first : (n : ℕ) (f : Member → Member) (es : Roster) (i k : ℕ) (m : Member) → First (nat_eq n) es i → slice_get es i ≡ Some (k, m) → set_value_at es i (f m) ≡ changed n f es
unfolding changed
changed_first n f [] i k m h s = refl
changed_first n f (e ∷ es) zero k m h s = rw h (ap (λ p. (e.0, f p.1) ∷ es) (sym (same_Some _ _ s)))
changed_first n f (e ∷ es) (suc i) k m h s = rw h.0 (ap (λ r. e ∷ r) (changed_first n f es i k m h.1 s))

pub changed_at : (n : ℕ) (f : Member → Member) (es : Roster) (i k : ℕ) (m : Member) → position (nat_eq n) (keys_of es) ≡ Some i → slice_get es i ≡ Some (k, m) → set_value_at es i (f m) ≡ changed n f es
changed_at n f es i k m p s = changed_first n f es i k m (Found-position (nat_eq n) es i p).first s

changed_absent : (n : ℕ) (f : Member → Member) (es : Roster) → AllByRecursion (λ k. nat_eq n k ≡ false) (keys_of es) → changed n f es ≡ es
unfolding changed
changed_absent n f [] h = refl
changed_absent n f (e ∷ es) h = rw h.0 (ap (λ r. e ∷ r) (changed_absent n f es h.1))

pub changed_none : (n : ℕ) (f : Member → Member) (es : Roster) → is_some (position (nat_eq n) (keys_of es)) ≡ is_some (lookup (nat_eq n) es) → position (nat_eq n) (keys_of es) ≡ None → changed n f es ≡ es
changed_none n f es h p = changed_absent n f es (absent_from_lookup (nat_eq n) es (none_of (lookup (nat_eq n) es) (sym h ∙ ap is_some p)))
  where
    none_of : (o : Option Member) → is_some o ≡ false → o ≡ None
    none_of None q = refl
    none_of (Some x) q = absurd (true≢false q)

pub length-set : (es : Roster) (i : ℕ) (w : Member) → length (set_value_at es i w) ≡ length es
length-set [] i w = refl
length-set (e ∷ es) zero w = refl
length-set (e ∷ es) (suc i) w = ap suc (length-set es i w)

-- The same where the list so far goes by another name.
pub front_step : (f : ℕ → Member → Member) (i : ℕ) (es so_far : Roster) (n : ℕ) (m : Member) → so_far ≡ front f i es → slice_get so_far i ≡ Some (n, m) → set_value_at so_far i (f n m) ≡ front f (i + 1) es
front_step f i es so_far n m p h = rw p (rw (← suc-eq-add-one i) (front_at f i es n m (sym (ap (λ l. slice_get l i) p) ∙ h)))

-- At the end every member is changed.
pub front_end : (f : ℕ → Member → Member) (i : ℕ) (es so_far : Roster) → so_far ≡ front f i es → i ≡ length es → so_far ≡ each f es
front_end f i es so_far p q = p ∙ ap (λ k. front f k es) q ∙ front_all f es

-- A map's insertion puts a member.
pub inserted_put : (n : ℕ) (m : Member) (es : Roster) → insert_entry nat_eq es n m ≡ put n m es
unfolding put
inserted_put n m [] = refl
inserted_put n m (e ∷ es) = ap (λ l. if nat_eq n e.0 then (e.0, m) ∷ es else e ∷ l) (inserted_put n m es)

-- A map's removal leaves the others.
pub removed_without : (n : ℕ) (es : Roster) → remove_entry (nat_eq n) es ≡ without n es
unfolding without
removed_without n [] = refl
removed_without n (e ∷ es) = ap (λ l. if nat_eq n e.0 then es else e ∷ l) (removed_without n es)

-- A new member comes last.
put_new : (n : ℕ) (m : Member) (es : Roster) → member es n ≡ None → put n m es ≡ es ++ (n, m) ∷ []
unfolding put
put_new n m [] h = refl
put_new n m (e ∷ es) h = by (nat_eq n e.0) refl (put_new n m es)
  where
    by : (b : Bool) → nat_eq n e.0 ≡ b → (member es n ≡ None → put n m es ≡ es ++ (n, m) ∷ []) → put n m (e ∷ es) ≡ (e ∷ es) ++ (n, m) ∷ []
    by true q rest = absurd (none-some e.1 (sym h ∙ ap (λ b. if b then Some e.1 else member es n) q))
    by false q rest = rw q (ap (λ l. e ∷ l) (rest (ap (λ b. if b then Some e.1 else member es n) (sym q) ∙ h)))

-- What was put last comes off again.
pub popped_put : (n : ℕ) (m : Member) (ms es left : Roster) (r : Option (ℕ × Member)) → None ≡ member ms n → es ≡ put n m ms → es ≡ left ++ option_to_list r → (0 < length es → is_some r ≡ true) → left ≡ ms
popped_put n m ms es left None h p q some =
    let e : es ≡ ms ++ (n, m) ∷ [] = p ∙ put_new n m ms (sym h) in
    absurd (true≢false (sym (some (omega (arith, ap length e, length-append ms ((n, m) ∷ []))))))
popped_put n m ms es left (Some x) h p q some = sym ((same_from_push ms left (n, m) x (sym (put_new n m ms (sym h)) ∙ sym p ∙ q)).0)

-- What was changed by putting a member is changed back.
pub changed_put : (n : ℕ) (m old : Member) (es : Roster) → Some old ≡ member es n → changed n (λ _. old) (put n m es) ≡ es
unfolding put changed
changed_put n m old [] h = absurd (none-some old (sym h))
changed_put n m old (e ∷ es) h = by (nat_eq n e.0) refl (changed_put n m old es)
  where
    by : (b : Bool) → nat_eq n e.0 ≡ b → (Some old ≡ member es n → changed n (λ _. old) (put n m es) ≡ es) → changed n (λ _. old) (put n m (e ∷ es)) ≡ e ∷ es
    by true q rest = rw q (rw q (ap (λ v. (e.0, v) ∷ es) (same_Some _ _ (h ∙ ap (λ b. if b then Some e.1 else member es n) q))))
    by false q rest = rw q (rw q (ap (λ l. e ∷ l) (rest (h ∙ ap (λ b. if b then Some e.1 else member es n) q))))

-- The entry at i is not changed yet.
front_here : (f : ℕ → Member → Member) (i : ℕ) (es : Roster) → slice_get (front f i es) i ≡ slice_get es i
unfolding front
front_here f zero es = refl
front_here f (suc i) [] = refl
front_here f (suc i) (e ∷ es) = front_here f i es

mapped_at : (f : ℕ × Member → List ℕ) (es : Roster) (i : ℕ) (e : ℕ × Member) → slice_get es i ≡ Some e → get_or (map f es) i [] ≡ f e
mapped_at f [] i e h = absurd (none-some e h)
mapped_at f (d ∷ es) zero e h = ap f (same_Some _ _ h)
mapped_at f (d ∷ es) (suc i) e h = mapped_at f es i e h

get_or_within : (xs : List (List ℕ)) (i : ℕ) (a : List ℕ) → i < length xs → get_or xs i a ≡ get_or xs i []
get_or_within [] i a h = absurd (omega (arith, h))
get_or_within (x ∷ xs) zero a h = refl
get_or_within (x ∷ xs) (suc i) a h = get_or_within xs i a (omega (arith, h))

-- What a member is handed is its assignment, as the gifts stand for the members of before.
pub gift_is : (f : ℕ → Member → Member) (g : ℕ × Member → List ℕ) (i : ℕ) (es cur : Roster) (first gifts : List (List ℕ)) (n : ℕ) (m : Member) (gift : List ℕ) → first ≡ map g es → cur ≡ front f i es → slice_get cur i ≡ Some (n, m) → get_or gifts i [] ≡ get_or first i [] → i < length gifts → gift ≡ get_or gifts i gift → gift ≡ g (n, m)
gift_is f g i es cur first gifts n m gift h c at same within e =
    e ∙ get_or_within gifts i gift within ∙ same ∙ ap (λ l. get_or l i []) h ∙ mapped_at g es i (n, m) (sym (front_here f i es) ∙ ap (λ l. slice_get l i) (sym c) ∙ at)
