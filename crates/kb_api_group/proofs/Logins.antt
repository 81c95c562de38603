-- What a message of SASL PLAIN says is what the grammar says.
use Rattle.std.proofs.Common.{◌≡◌, ℕ, suc, Bool, true, false, cond, eqb, List, [], ◌∷◌, ◌++◌, length, Option, Some, None, refl, sym, ap, subst, ◌∙◌, append_assoc, arith, inl, inr}
use Rattle.std.specs.Prelude.{not, ◌≢◌, ◌⊎◌, ◌&&◌, ◌||◌, is_none, option_and_then, IfSome}
use Rattle.std.specs.Str.{bytes_eq}
use Rattle.std.proofs.lemmas.Bool.Decides.{nat_tests}
use Rattle.std.proofs.lemmas.Slice.Eq.{bytes_eq-Decides}
use Rattle.kb_api_group.specs.declared.plain.PlainLogin.{PlainLogin}
use Rattle.kb_api_group.specs.Plain.{IsPlain, at_nul, is_empty, login_of, plain}
use Rattle.kb_api_group.proofs.Nuls.{at_nul-around, at_nul-free, at_nul-at, at_nul-nowhere}

chained : {A B : Type 0} (o : Option A) (f : A → Option B) (y : B) → option_and_then f o ≡ Some y → (x : A) × (o ≡ Some x) × (f x ≡ Some y)
chained None f y e = absurd cc
chained (Some x) f y e = (x, refl, e)

both : (a b : Bool) → (a && b) ≡ true → (a ≡ true) × (b ≡ true)
both true b e = (refl, e)
both false b e = absurd cc

either : (a b : Bool) → (a || b) ≡ true → (a ≡ true) ⊎ (b ≡ true)
either true b e = inl refl
either false b e = inr e

abbrev said : PlainLogin → Option PlainLogin
said l = Some l

abbrev unsaid : Option PlainLogin
unsaid = None

guarded : (t : Bool) (x y : PlainLogin) → cond t (said x) unsaid ≡ said y → (t ≡ true) × (x ≡ y)
guarded true x y e = (refl, cc)
guarded false x y e = absurd cc

is_nowhere : (o : Option (List ℕ × List ℕ)) → is_none o ≡ true → o ≡ None
is_nowhere None e = refl
is_nowhere (Some p) e = absurd cc

full : (n : ℕ) → eqb (suc n) 0 ≡ false
full n = grind (arith, nat_tests)

some_byte : (s : List ℕ) → not (is_empty s) ≡ true → s ≢ []
some_byte [] e = absurd cc
some_byte (b ∷ s) e = λ f. absurd (let g : b ∷ s ≡ [] = f in cc)

no_byte : (s : List ℕ) → is_empty s ≡ true → s ≡ []
no_byte [] e = refl
no_byte (b ∷ s) e = absurd (let f : true ≡ false = sym e ∙ full (length s) in cc)

not_empty : (s : List ℕ) → s ≢ [] → not (is_empty s) ≡ true
not_empty [] h = absurd (h refl)
not_empty (b ∷ s) h = rw (full (length s)) refl

same_name : (z c : List ℕ) → (is_empty z || bytes_eq z c) ≡ true → (z ≡ []) ⊎ (z ≡ c)
same_name z c e = elim (either (is_empty z) (bytes_eq z c) e) [ inl a ↦ inl (no_byte z a) | inr b ↦ inr ((bytes_eq-Decides z c).0 b) ]

one_name : (z c : List ℕ) → (z ≡ []) ⊎ (z ≡ c) → (is_empty z || bytes_eq z c) ≡ true
one_name [] c h = refl
one_name (b ∷ z) c (inl h) = absurd cc
one_name (b ∷ z) c (inr h) = let yes : bytes_eq (b ∷ z) c ≡ true = (bytes_eq-Decides (b ∷ z) c).1 h in rw (full (length z)) yes

of_parts : (m z rest c p : List ℕ) (l : PlainLogin) → at_nul m ≡ Some (z, rest) → at_nul rest ≡ Some (c, p) → login_of z c p ≡ Some l → IsPlain m l
of_parts m z rest c p l e f h =
    let g = guarded (is_none (at_nul p) && not (is_empty c) && not (is_empty p) && (is_empty z || bytes_eq z c)) (record { authcid = c; passwd = p }) l h in
    let last = both (is_none (at_nul p) && not (is_empty c) && not (is_empty p)) (is_empty z || bytes_eq z c) g.0 in
    let third = both (is_none (at_nul p) && not (is_empty c)) (not (is_empty p)) last.0 in
    let first = both (is_none (at_nul p)) (not (is_empty c)) third.0 in
    let a = at_nul-around m z rest e in
    let b = at_nul-around rest c p f in
    subst (λ (x : PlainLogin). IsPlain m x) g.1 (record {
      authzid = z;
      spelled = a.0 ∙ ap (λ t. z ++ 0 ∷ t) b.0 ∙ sym (append_assoc z (0 ∷ c) (0 ∷ p));
      two_nuls = (a.1, b.1, at_nul-free p (is_nowhere (at_nul p) first.0));
      named = some_byte c first.1;
      secret = some_byte p third.1;
      same = same_name z c last.1;
    })

pub plain-found : (m : List ℕ) (l : PlainLogin) → plain m ≡ Some l → IsPlain m l
unfolding plain
plain-found m l e =
    let f = chained (at_nul m) (λ a. option_and_then (λ b. login_of a.0 b.0 b.1) (at_nul a.1)) l e in
    let g = chained (at_nul f.0.1) (λ b. login_of f.0.0 b.0 b.1) l f.2 in
    of_parts m f.0.0 f.0.1 g.0.0 g.0.1 l f.1 g.1 g.2

passes : (z c p : List ℕ) → at_nul p ≡ None → c ≢ [] → p ≢ [] → (z ≡ []) ⊎ (z ≡ c) → login_of z c p ≡ Some (record { authcid = c; passwd = p })
passes z c p e named secret same = rw (e, not_empty c named, not_empty p secret, one_name z c same) refl

pub plain-only : (m : List ℕ) (l : PlainLogin) → IsPlain m l → plain m ≡ Some l
unfolding plain
plain-only m l h =
    let n = h.two_nuls in
    let is : m ≡ h.authzid ++ 0 ∷ (l.authcid ++ 0 ∷ l.passwd) = h.spelled ∙ append_assoc h.authzid (0 ∷ l.authcid) (0 ∷ l.passwd) in
    rw (is, at_nul-at h.authzid (l.authcid ++ 0 ∷ l.passwd) n.0, at_nul-at l.authcid l.passwd n.1) (passes h.authzid l.authcid l.passwd (at_nul-nowhere l.passwd n.2) h.named h.secret h.same)

pub is_found : (m : List ℕ) (r : Option PlainLogin) → r ≡ plain m → IfSome r (IsPlain m)
is_found m None e = tt
is_found m (Some l) e = plain-found m l (sym e)
