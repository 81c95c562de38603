-- Arrays: what fits, and what is written.
use Rattle.std.proofs.Common.{◌≡◌, ◌∙◌, sym, ap, refl, subst, ℕ, ◌<◌, ◌^◌, List, [], ◌∷◌, ◌++◌, length, map, get_or, append_assoc, w32}
use Rattle.std.proofs.lemmas.List.{append-nil, length-map}
use Rattle.std.specs.List.{flat_map}
use Rattle.std.proofs.lemmas.List.Elements.{All-cons, All-get_or, All-head, All-nil, All-tail}
use Rattle.kb_wire.specs.Codec.{Codec, count, counted, nullable_counted, int, sized, nullable, items, array, nullable_array, utf8, string, nullable_string}
use Rattle.std.specs.Prelude.{All, Option, Some}

-- the count of an array that fits
pub count_fits : {A : Type 0} (c : Codec A) (vs : List A) (n : ℕ) → (array c).Fits vs → n ≡ length vs → (count w32).Fits n
unfolding sized items
count_fits c vs n fits is = subst (count w32).Fits (sym is) fits.0

-- an item of an array that fits
pub item_fits : {A : Type 0} (c : Codec A) (vs : List A) (i : ℕ) (e : A) → (array c).Fits vs → i < length vs → e ≡ get_or vs i e → c.Fits e
unfolding sized items
item_fits c vs i e fits lt is = subst c.Fits (sym is) (All-get_or c.Fits vs i e lt fits.1)

pub array_written : {A : Type 0} (c : Codec A) (vs : List A) (n : ℕ) → n ≡ length vs → (count w32).written n ++ flat_map c.written vs ≡ (array c).written vs
unfolding sized items
array_written c vs n is = ap (λ m. (count w32).written m ++ flat_map c.written vs) is

-- each of others, where each of those has what it is made of
pub each_fits : {A B : Type 0} (P : A → Type 0) (Q : B → Type 0) (f : A → B) → ((v : A) → P v → Q (f v)) → (vs : List A) → All P vs → All Q (map f vs)
each_fits P Q f so [] all = All-nil Q
each_fits P Q f so (v ∷ vs) all = All-cons Q (f v) (map f vs) (so v (All-head P v vs all)) (each_fits P Q f so vs (All-tail P v vs all))

-- as many others, each of which fits
pub many_fit : {A B : Type 0} (c : Codec B) (f : A → B) (vs : List A) → (count w32).Fits (length vs) → All c.Fits (map f vs) → (array c).Fits (map f vs)
unfolding sized items
many_fit c f vs few each = (subst (count w32).Fits (sym (length-map vs f)) few, each)

-- one after another
pub written_both : (old s1 s2 x y : List ℕ) → s1 ≡ old ++ x → s2 ≡ s1 ++ y → s2 ≡ old ++ (x ++ y)
written_both old s1 s2 x y p q = q ∙ ap (λ s. s ++ y) p ∙ append_assoc old x y

-- a count below 2 ^ 31 fits
pub small_count : (n : ℕ) → n < 2 ^ 31 → (count w32).Fits n
unfolding counted int
small_count n lt = (tt, record { sfits = lt })

-- an array of one item
pub one_written : {A : Type 0} (c : Codec A) (v : A) → (count w32).written 1 ++ c.written v ≡ (array c).written (v ∷ [])
one_written c v = ap (λ x. (count w32).written 1 ++ x) (sym (append-nil (c.written v))) ∙ array_written c (v ∷ []) 1 refl

-- an array that might have been null
pub array_of_nullable : {A : Type 0} (c : Codec A) (o : Option (List A)) (vs : List A) → o ≡ Some vs → (nullable_array c).Fits o → (array c).Fits vs
unfolding nullable nullable_counted sized counted items
array_of_nullable c o vs is fits = subst (nullable_array c).Fits is fits

-- a text where null might stand
pub text_fits_nullable : (v : List ℕ) → string.Fits v → nullable_string.Fits (Some v)
unfolding nullable nullable_counted sized counted utf8
text_fits_nullable v fits = fits
