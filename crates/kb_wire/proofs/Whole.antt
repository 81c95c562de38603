-- A whole body that was read is spelled so, and one that is spelled so is read.
use Rattle.std.proofs.Common.{◌≡◌, ℕ, cond, eqb, List, [], ◌++◌, length, Result, Ok, Err, refl, sym, ap, subst, ◌∙◌}
use Rattle.std.specs.Prelude.{IfOk}
use Rattle.std.proofs.lemmas.Bool.{eqb-true}
use Rattle.std.proofs.lemmas.List.{append-nil, nil_from_length, append_cancel_right}
use Rattle.kb_wire.specs.declared.fault.WireFault.{WireFault}
use Rattle.kb_wire.specs.declared.fault.WireFault.TheVariants.{Short, Bad}
use Rattle.kb_wire.specs.declared.fault.ReadFault.{ReadFault}
use Rattle.kb_wire.specs.Codec.{Codec, whole}
use Rattle.kb_wire.specs.Laws.{IsLawful, bind_ok, guard_passed, ok_is}
use Rattle.kb_wire.specs.Reads.{ReadsWhole}

whole_found : {A : Type 0} (c : Codec A) → IsLawful c → (s : List ℕ) (v : A) → whole c s ≡ Ok v → c.Spells s v
whole_found c l s v e =
    let p = bind_ok (c.read s) (λ x. cond (eqb (length x.1) 0) (Ok x.0) (Err Bad)) v e in
    let g = guard_passed (eqb (length p.0.1) 0) Bad p.0.0 v p.2 in
    let f = l.found s p.0.0 p.0.1 p.1 in
    let none : p.0.1 ≡ [] = nil_from_length p.0.1 (eqb-true _ _ g.0) in
    let all : f.0 ≡ s = sym (f.1 ∙ ap (λ t. f.0 ++ t) none ∙ append-nil f.0) in
    subst (λ x. c.Spells x v) all (subst (λ w. c.Spells f.0 w) g.1 f.2)

whole_only : {A : Type 0} (c : Codec A) → IsLawful c → (s : List ℕ) (v : A) → c.Spells s v → whole c s ≡ Ok v
whole_only c l s v h =
    let e : c.read s ≡ Ok (v, []) = ap c.read (sym (append-nil s)) ∙ l.only s v [] h in
    rw e refl

pub is_found : {A : Type 0} (c : Codec A) → IsLawful c → (s : List ℕ) (r : Result A ReadFault) → ReadsWhole (whole c s) r → IfOk r (λ v. c.Spells s v)
is_found c l s (Ok v) given = whole_found c l s v given
is_found c l s (Err e) given = tt

pub is_fit : {A : Type 0} (c : Codec A) → IsLawful c → (s : List ℕ) (r : Result A ReadFault) → ReadsWhole (whole c s) r → IfOk r (λ v. c.Fits v)
is_fit c l s (Ok v) given = l.fits s v (whole_found c l s v given)
is_fit c l s (Err e) given = tt

pub is_only : {A : Type 0} (c : Codec A) → IsLawful c → (s : List ℕ) (r : Result A ReadFault) → ReadsWhole (whole c s) r → (v : A) → c.Spells s v → ReadsWhole (Ok v) r
is_only {A} c l s r given v h = subst (λ (w : Result A WireFault). ReadsWhole w r) (whole_only c l s v h) given

same : {A : Type 0} (r : Result A WireFault) (a b : A) → r ≡ Ok a → r ≡ Ok b → a ≡ b
same r a b e f = ok_is a b (sym e ∙ f)

-- no bytes spell two values, and no spelling begins another
pub one_only : {A : Type 0} (c : Codec A) → IsLawful c → (x y s t : List ℕ) (v w : A) → c.Spells x v → c.Spells y w → x ++ s ≡ y ++ t → (v ≡ w) × (x ≡ y)
one_only c l x y s t v w hx hy e =
    let is = same (c.read (x ++ s)) (v, s) (w, t) (l.only x v s hx) (ap c.read e ∙ l.only y w t hy) in
    (ap (λ p. p.0) is, append_cancel_right x y s (e ∙ ap (λ p. y ++ p.1) (sym is)))

pub bad_stays : {A : Type 0} (c : Codec A) → IsLawful c → (s t : List ℕ) → c.read s ≡ Err Bad → c.read (s ++ t) ≡ Err Bad
bad_stays c l s t e = l.bad s t e

pub short_ends : {A : Type 0} (c : Codec A) → IsLawful c → (s : List ℕ) → c.read s ≡ Err Short → (t : List ℕ) × (c.read (s ++ t) ≡ Err Short → ⊥)
short_ends c l s e = l.ends s

pub spelled_again : {A : Type 0} (c : Codec A) → IsLawful c → (x : List ℕ) (v : A) → c.Spells x v → c.Spells (c.written v) v
spelled_again c l x v h = l.again v (l.in_range x v h) (l.fits x v h)
