-- What a change of one entry does to the files of all.
use Rattle.std.proofs.Common.{◌≡◌, ◌∙◌, ℕ, Bool, true, false, cond, List, [], ◌∷◌, ◌++◌, append_assoc, append-nil, Option, Some, None, refl, sym, ap, subst}
use Rattle.std.specs.Prelude.{IsPermutation}
use Rattle.std.specs.Map.{lookup, remove_entry, set_value}
use Rattle.std.specs.BTreeMap.{insert_entry, is_at}
use Rattle.std.specs.Ordering.{match_ordering, is_eq}
use Rattle.std.specs.declared.cmp.Ordering.{Ordering}
use Rattle.std.specs.declared.cmp.Ordering.TheVariants.{Less, Equal, Greater}
use Rattle.std.specs.declared.alloc.Global.{Global}
use Rattle.std.specs.declared.vec.Vec.{Vec}
use Rattle.std.proofs.lemmas.Option.{none-some}
use Rattle.std.proofs.lemmas.List.Sorted.{IsPermutation-refl, IsPermutation-sym, IsPermutation-append_left, IsPermutation-append_right, IsPermutation-trans, IsPermutation-append_comm, IsPermutation-middle, IsPermutation-to_front}
use Rattle.kb_opening.specs.Directory.{items_of, owned_in, only}
use Rattle.kb_opening.specs.declared.owner.Owner.{Owner}

-- ---- lists in another order

pub same_files : {X : Type 0} (xs ys : List X) → xs ≡ ys → IsPermutation xs ys
same_files xs ys e = subst (IsPermutation xs) e (IsPermutation-refl xs)

-- the second of three comes first
pub second_first : {X : Type 0} (xs ys zs : List X) → IsPermutation (xs ++ (ys ++ zs)) (ys ++ (xs ++ zs))
second_first xs ys zs =
    IsPermutation-trans _ _ _ (same_files (xs ++ (ys ++ zs)) ((xs ++ ys) ++ zs) (sym (append_assoc xs ys zs)))
    (IsPermutation-trans _ _ _ (IsPermutation-append_left zs (xs ++ ys) (ys ++ xs) (IsPermutation-append_comm xs ys)) (same_files ((ys ++ xs) ++ zs) (ys ++ (xs ++ zs)) (append_assoc ys xs zs)))

-- what is done behind some files
pub behind_others : {X : Type 0} (front xs ys zs : List X) → IsPermutation xs (ys ++ zs) → IsPermutation (front ++ xs) (ys ++ (front ++ zs))
behind_others front xs ys zs h = IsPermutation-trans _ _ _ (IsPermutation-append_right front xs (ys ++ zs) h) (second_first front ys zs)

-- what is done in front of some files
pub before_others : {X : Type 0} (xs ys zs back : List X) → IsPermutation xs (ys ++ zs) → IsPermutation (xs ++ back) (ys ++ (zs ++ back))
before_others xs ys zs back h = IsPermutation-trans _ _ _ (IsPermutation-append_left back xs (ys ++ zs) h) (same_files ((ys ++ zs) ++ back) (ys ++ (zs ++ back)) (append_assoc ys zs back))

-- ---- the files of all owners

-- without the entry of a key
pub owned_without : (test : Owner → Bool) (es : List (Owner × Vec ℕ Global)) → IsPermutation (owned_in es) (items_of (lookup test es) ++ owned_in (remove_entry test es))
owned_without test [] = IsPermutation-refl []
owned_without test (e ∷ es) =
    elim (test e.0) as (λ b. IsPermutation (e.1.items ++ owned_in es) (items_of (cond b (Some e.1) (lookup test es)) ++ owned_in (cond b es (e ∷ remove_entry test es)))) [
      | true ↦ IsPermutation-refl (e.1.items ++ owned_in es)
      | false ↦ behind_others e.1.items (owned_in es) (items_of (lookup test es)) (owned_in (remove_entry test es)) (owned_without test es)
    ]

-- one more behind the files of a list
pub one_behind : (file : ℕ) (xs ys zs : List ℕ) → ys ≡ xs ++ file ∷ [] → IsPermutation (file ∷ (xs ++ zs)) (ys ++ zs)
one_behind file xs ys zs e =
    IsPermutation-trans _ _ _ (IsPermutation-sym _ _ (IsPermutation-middle xs file zs))
    (same_files (xs ++ file ∷ zs) (ys ++ zs) (sym (append_assoc xs (file ∷ []) zs) ∙ sym (ap (λ us. us ++ zs) e)))

-- with one more file in the entry of a key
pub owned_with_one : (test : Owner → Bool) (es : List (Owner × Vec ℕ Global)) (file : ℕ) (old new : Vec ℕ Global)
    → lookup test es ≡ Some old → new.items ≡ old.items ++ file ∷ [] → IsPermutation (file ∷ owned_in es) (owned_in (set_value test es new))
owned_with_one test [] file old new found grown = absurd (none-some old found)
owned_with_one test (e ∷ es) file old new found grown =
    elim (test e.0) as (λ b. cond b (Some e.1) (lookup test es) ≡ Some old → IsPermutation (file ∷ (e.1.items ++ owned_in es)) (owned_in (cond b ((e.0, new) ∷ es) (e ∷ set_value test es new)))) [
      | true ↦ λ is. one_behind file e.1.items new.items (owned_in es) (grown ∙ ap (λ o. items_of o ++ file ∷ []) (sym is))
      | false ↦ λ is.
          IsPermutation-trans _ _ _ (IsPermutation-sym _ _ (IsPermutation-middle e.1.items file (owned_in es)))
          (IsPermutation-append_right e.1.items (file ∷ owned_in es) (owned_in (set_value test es new)) (owned_with_one test es file old new is grown))
    ] found

-- with the entry of a new key
pub owned_with_new : (cmp : Owner → Owner → Ordering) (es : List (Owner × Vec ℕ Global)) (k : Owner) (new : Vec ℕ Global)
    → lookup (is_at (cmp k)) es ≡ None → IsPermutation (new.items ++ owned_in es) (owned_in (insert_entry cmp es k new))
owned_with_new cmp [] k new none = IsPermutation-refl (new.items ++ [])
owned_with_new cmp (e ∷ es) k new none =
    elim (cmp k e.0) as (λ o. cond (is_eq o) (Some e.1) (lookup (is_at (cmp k)) es) ≡ None
    → IsPermutation (new.items ++ (e.1.items ++ owned_in es)) (owned_in (match_ordering o ((k, new) ∷ e ∷ es) ((e.0, new) ∷ es) (e ∷ insert_entry cmp es k new)))) [
      | Less ↦ λ is. IsPermutation-refl (new.items ++ (e.1.items ++ owned_in es))
      | Equal ↦ λ is. absurd (none-some e.1 (sym is))
      | Greater ↦ λ is.
          IsPermutation-trans _ _ _ (second_first new.items e.1.items (owned_in es))
          (IsPermutation-append_right e.1.items (new.items ++ owned_in es) (owned_in (insert_entry cmp es k new)) (owned_with_new cmp es k new is))
    ] none

-- ---- the files of one owner

-- at a key that has one more file, and at the others
pub one_more_at : (b : Bool) (file : ℕ) (items : List ℕ) (new : Vec ℕ Global) (old : Option (Vec ℕ Global))
    → (b ≡ true → items_of old ≡ items) → new.items ≡ items ++ file ∷ [] → items_of (cond b (Some new) old) ≡ items_of old ++ only b file
one_more_at true file items new old is grown = grown ∙ sym (ap (λ us. us ++ file ∷ []) (is refl))
one_more_at false file items new old is grown = sym (append-nil (items_of old))

-- ---- all files

-- an entry was taken out
pub taken_out : (test : Owner → Bool) (es now : List (Owner × Vec ℕ Global)) (strays taken : List ℕ) → now ≡ remove_entry test es → taken ≡ items_of (lookup test es)
    → IsPermutation (owned_in es ++ strays) (taken ++ (owned_in now ++ strays))
taken_out test es now strays taken is took =
    before_others (owned_in es) taken (owned_in now) strays
    (IsPermutation-trans _ _ _ (owned_without test es) (same_files _ _ (ap (λ us. us ++ owned_in (remove_entry test es)) (sym took) ∙ sym (ap (λ us. taken ++ owned_in us) is))))

-- a file was put behind those of an entry
pub put_behind : (test : Owner → Bool) (es now : List (Owner × Vec ℕ Global)) (strays : List ℕ) (file : ℕ) (old new : Vec ℕ Global)
    → now ≡ set_value test es new → lookup test es ≡ Some old → new.items ≡ old.items ++ file ∷ [] → IsPermutation (file ∷ (owned_in es ++ strays)) (owned_in now ++ strays)
put_behind test es now strays file old new is found grown =
    IsPermutation-append_left strays (file ∷ owned_in es) (owned_in now)
    (IsPermutation-trans _ _ _ (owned_with_one test es file old new found grown) (same_files _ _ (sym (ap owned_in is))))

-- a file was put into a new entry
pub put_new : (cmp : Owner → Owner → Ordering) (es now : List (Owner × Vec ℕ Global)) (strays : List ℕ) (k : Owner) (file : ℕ) (new : Vec ℕ Global)
    → now ≡ insert_entry cmp es k new → lookup (is_at (cmp k)) es ≡ None → new.items ≡ file ∷ [] → IsPermutation (file ∷ (owned_in es ++ strays)) (owned_in now ++ strays)
put_new cmp es now strays k file new is none only_one =
    IsPermutation-append_left strays (file ∷ owned_in es) (owned_in now)
    (IsPermutation-trans _ _ _ (same_files (file ∷ owned_in es) (new.items ++ owned_in es) (sym (ap (λ us. us ++ owned_in es) only_one)))
    (IsPermutation-trans _ _ _ (owned_with_new cmp es k new none) (same_files _ _ (sym (ap owned_in is)))))

-- a file went to the strays
pub strayed : (file : ℕ) (es : List (Owner × Vec ℕ Global)) (strays now : List ℕ) → now ≡ strays ++ file ∷ [] → IsPermutation (file ∷ (owned_in es ++ strays)) (owned_in es ++ now)
strayed file es strays now grown =
    IsPermutation-trans _ _ _ (IsPermutation-sym _ _ (IsPermutation-to_front (owned_in es ++ strays) file))
    (same_files ((owned_in es ++ strays) ++ file ∷ []) (owned_in es ++ now) (append_assoc (owned_in es) strays (file ∷ []) ∙ sym (ap (λ us. owned_in es ++ us) grown)))

-- ---- what is left

pub owned_push : (es : List (Owner × Vec ℕ Global)) (e : Owner × Vec ℕ Global) → owned_in (es ++ e ∷ []) ≡ owned_in es ++ e.1.items
owned_push [] e = append-nil e.1.items
owned_push (d ∷ es) e = ap (λ us. d.1.items ++ us) (owned_push es e) ∙ sym (append_assoc d.1.items (owned_in es) e.1.items)

pub left_more : (strays left now : List ℕ) (es : List (Owner × Vec ℕ Global)) (e : Owner × Vec ℕ Global) → left ≡ strays ++ owned_in es → now ≡ left ++ e.1.items → now ≡ strays ++ owned_in (es ++ e ∷ [])
left_more strays left now es e had grown =
    grown ∙ ap (λ us. us ++ e.1.items) had ∙ append_assoc strays (owned_in es) e.1.items ∙ sym (ap (λ us. strays ++ us) (owned_push es e))

pub all_left : (strays left sorted : List ℕ) (es : List (Owner × Vec ℕ Global)) → left ≡ strays ++ owned_in es → IsPermutation left sorted → IsPermutation (owned_in es ++ strays) sorted
all_left strays left sorted es is moved =
    IsPermutation-trans _ _ _ (IsPermutation-append_comm (owned_in es) strays) (IsPermutation-trans _ _ _ (same_files (strays ++ owned_in es) left (sym is)) moved)
