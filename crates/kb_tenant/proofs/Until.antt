-- What is written until it is more than so many bytes.
use Rattle.std.proofs.Common.{◌≡◌, ◌∙◌, sym, ap, refl, subst, ℕ, suc, ◌+◌, ◌<◌, ◌≤◌, Bool, true, false, List, [], ◌∷◌, ◌++◌, length, map, drop, get_or, drop-cons, add-one, append_assoc, arith, inl, inr, if◌then◌else◌, w32}
use Rattle.std.specs.Prelude.{nat_lt}
use Rattle.std.specs.List.{flat_map}
use Rattle.std.proofs.lemmas.Bool.{ltb-true, lt-ltb, le-ltb}
use Rattle.std.proofs.lemmas.List.{append-nil, length-append, length-map}
use Rattle.kb_wire.specs.Codec.{Codec, array, count}
use Rattle.kb_tenant.specs.Replies.{written_until, array_until, AreUntil}
use Rattle.kb_tenant.proofs.Fitting.{array_written}
use Rattle.kb_tenant.proofs.Serving.{drop_past}

-- more than so many bytes, and what stands behind them
pub longer : (most : ℕ) (out more : List ℕ) → most < length out → most < length (out ++ more)
longer most out more lt = omega (arith, lt, length-append out more)

-- one entry is written, and the others are to come
pub until_next : {E A : Type 0} (most : ℕ) (write : A → List ℕ) (f : E → A) (out more : List ℕ) (es : List E) (i : ℕ) (e : E) → length out ≤ most → i < length es → e ≡ get_or es i e
    → more ≡ out ++ write (f e) → written_until most write more (map f (drop (i + 1) es)) ≡ written_until most write out (map f (drop i es))
unfolding written_until
until_next {E} {A} most write f out more es i e few lt is wrote =
    let rest = drop (suc i) es in
    let there : drop i es ≡ e ∷ rest = drop-cons es i e lt ∙ ap (λ x. x ∷ rest) (sym is) in
    let others : List ℕ = written_until most write (out ++ write (f e)) (map f rest) in
    ap (λ m. written_until most write m (map f (drop (i + 1) es))) wrote
    ∙ ap (λ n. written_until most write (out ++ write (f e)) (map f (drop n es))) (add-one i)
    ∙ ap (λ b. if b then out else others) (sym (le-ltb most (length out) few))
    ∙ ap (λ l. written_until most write out (map f l)) (sym there)

-- behind the last entry nothing is to come
pub until_over : {E A : Type 0} (most : ℕ) (write : A → List ℕ) (f : E → A) (out : List ℕ) (es : List E) (i : ℕ) → length es ≤ i → written_until most write out (map f (drop i es)) ≡ out
unfolding written_until
until_over most write f out es i le = ap (λ l. written_until most write out (map f l)) (drop_past es i le)

-- where there are more than so many bytes nothing is to come
pub until_past : {A : Type 0} (most : ℕ) (write : A → List ℕ) (out : List ℕ) (vs : List A) → most < length out → written_until most write out vs ≡ out
unfolding written_until
until_past most write out [] many = refl
until_past most write out (v ∷ vs) many = ap (λ b. if b then out else written_until most write (out ++ write v) vs) (lt-ltb most (length out) many)

-- It is all; or both are more than so many bytes.
pub until_all : {A : Type 0} (most : ℕ) (write : A → List ℕ) (out : List ℕ) (vs : List A) → AreUntil most (out ++ flat_map write vs) (written_until most write out vs)
unfolding written_until
until_all most write out [] = inl (sym (append-nil out))
until_all {A} most write out (v ∷ vs) = by (nat_lt most (length out)) refl (until_all most write (out ++ write v) vs)
  where
    others : List ℕ
    others = written_until most write (out ++ write v) vs

    by : (b : Bool) → nat_lt most (length out) ≡ b → AreUntil most ((out ++ write v) ++ flat_map write vs) others → AreUntil most (out ++ (write v ++ flat_map write vs)) (if b then out else others)
    by true many all = inr (longer most out (write v ++ flat_map write vs) (ltb-true most (length out) many), ltb-true most (length out) many)
    by false few all = subst (λ x. AreUntil most x others) (append_assoc out (write v) (flat_map write vs)) all

-- an array
pub array_until_all : {A : Type 0} (most : ℕ) (c : Codec A) (out : List ℕ) (vs : List A) → AreUntil most (out ++ (array c).written vs) (array_until most c out vs)
array_until_all most c out vs =
    subst (λ x. AreUntil most x (array_until most c out vs)) (append_assoc out ((count w32).written (length vs)) (flat_map c.written vs) ∙ ap (λ x. out ++ x) (array_written c vs (length vs) refl))
    (until_all most c.written (out ++ (count w32).written (length vs)) vs)

-- an array behind its count
pub until_counted : {E A : Type 0} (most : ℕ) (c : Codec A) (f : E → A) (old out : List ℕ) (es : List E) → out ≡ old ++ (count w32).written (length es)
    → written_until most c.written out (map f es) ≡ array_until most c old (map f es)
until_counted most c f old out es counted = ap (λ s. written_until most c.written s (map f es)) (counted ∙ ap (λ n. old ++ (count w32).written n) (sym (length-map es f)))

-- the same of the same bytes
pub are_until : (most : ℕ) (all whole made bytes : List ℕ) → all ≡ whole → bytes ≡ made → AreUntil most all made → AreUntil most whole bytes
are_until most all whole made bytes p q until = subst (λ x. AreUntil most x bytes) p (subst (λ x. AreUntil most all x) (sym q) until)

-- the first is written
pub until_first : {A : Type 0} (most : ℕ) (write : A → List ℕ) (out : List ℕ) (v : A) (vs : List A) → length out ≤ most → written_until most write out (v ∷ vs) ≡ written_until most write (out ++ write v) vs
unfolding written_until
until_first most write out v vs few = ap (λ b. if b then out else written_until most write (out ++ write v) vs) (le-ltb most (length out) few)

-- nothing is to come
pub until_none : {A : Type 0} (most : ℕ) (write : A → List ℕ) (out : List ℕ) → out ≡ written_until most write out []
unfolding written_until
until_none most write out = refl

-- what stands behind both
pub until_behind : (most : ℕ) (all bytes more : List ℕ) → AreUntil most all bytes → AreUntil most (all ++ more) (bytes ++ more)
until_behind most all bytes more (inl same) = inl (ap (λ s. s ++ more) same)
until_behind most all bytes more (inr many) = inr (longer most all more many.0, longer most bytes more many.1)

-- Where the bytes are too many, so are all.
pub until_long : (most : ℕ) (all bytes : List ℕ) → most < length bytes → AreUntil most all bytes → most < length all
until_long most all bytes many (inl same) = subst (λ s. most < length s) same many
until_long most all bytes many (inr both) = both.0

-- Where they are not, they are all.
pub until_same : (most : ℕ) (all bytes : List ℕ) → length bytes ≤ most → AreUntil most all bytes → bytes ≡ all
until_same most all bytes few (inl same) = same
until_same most all bytes few (inr both) = absurd (omega (arith, few, both.1))
