-- What is one of some, by a test that tells what is the same.
use Rattle.std.proofs.Common.{◌≡◌, ◌≢◌, ◌↔◌, ◌∙◌, ℕ, zero, suc, List, [], ◌∷◌, Bool, true, false, ◌||◌, Some, None, IsTrue, slice_get, ap, refl, subst, sym}
use Rattle.std.specs.List.{list_any}

some_is : {X : Type 0} (x y : X) → Some x ≡ Some y → x ≡ y
some_is x y is = cc

module _ {A : Type 0} (test : A → Bool) (b : A) (tells : (a : A) → IsTrue (test a) ↔ (a ≡ b)) where
  here_or : (x : A) (xs : List A) (rest r : Bool) → test x ≡ r → (r || rest) ≡ true → (rest ≡ true → (i : ℕ) × (slice_get xs i ≡ Some b))
      → (i : ℕ) × (slice_get (x ∷ xs) i ≡ Some b)
  here_or x xs rest true is any later = (0, ap (λ y. Some y) ((tells x).0 is))
  here_or x xs rest false is any later = let there = later any in (suc there.0, there.1)

  pub listed : (xs : List A) → list_any test xs ≡ true → (i : ℕ) × (slice_get xs i ≡ Some b)
  listed [] is = absurd (let no : false ≡ true = is in cc)
  listed (x ∷ xs) is = here_or x xs (list_any test xs) (test x) refl is (listed xs)

  nor_here : (x : A) (xs : List A) (rest r : Bool) → test x ≡ r → (r || rest) ≡ false → (rest ≡ false → (i : ℕ) → slice_get xs i ≢ Some b)
      → (i : ℕ) → slice_get (x ∷ xs) i ≢ Some b
  nor_here x xs rest true is none later i at = absurd (let no : true ≡ false = none in cc)
  nor_here x xs rest false is none later zero at = absurd (let no : false ≡ true = sym is ∙ (tells x).1 (some_is x b at) in cc)
  nor_here x xs rest false is none later (suc i) at = later none i at

  pub unlisted : (xs : List A) → list_any test xs ≡ false → (i : ℕ) → slice_get xs i ≢ Some b
  unlisted [] is i at = absurd (let no : None ≡ Some b = at in cc)
  unlisted (x ∷ xs) is i at = nor_here x xs (list_any test xs) (test x) refl is (unlisted xs) i at

-- what a search answered of them
pub listed_by : {A : Type 0} {test : A → Bool} {r : Bool} (xs ys : List A) (b : A) → r ≡ list_any test xs → xs ≡ ys → r ≡ true
    → ((a : A) → IsTrue (test a) ↔ (a ≡ b)) → (i : ℕ) × (slice_get ys i ≡ Some b)
listed_by {A} {test} {r} xs ys b answer same is tells = listed test b tells ys (subst (λ zs. list_any test zs ≡ true) same (sym answer ∙ is))

pub unlisted_by : {A : Type 0} {test : A → Bool} {r : Bool} (xs ys : List A) (b : A) → r ≡ list_any test xs → xs ≡ ys → r ≡ false
    → ((a : A) → IsTrue (test a) ↔ (a ≡ b)) → (i : ℕ) → slice_get ys i ≢ Some b
unlisted_by {A} {test} {r} xs ys b answer same is tells = unlisted test b tells ys (subst (λ zs. list_any test zs ≡ false) same (sym answer ∙ is))
