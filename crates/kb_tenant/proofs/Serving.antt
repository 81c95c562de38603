-- Steps that are taken one after another, and what they write.
use Rattle.std.proofs.Common.{◌≡◌, ◌∙◌, sym, ap, refl, ℕ, zero, suc, ◌+◌, ◌<◌, ◌≤◌, List, [], ◌∷◌, ◌++◌, length, map, drop, get_or, drop-cons, add-one, append_assoc, arith}
use Rattle.std.specs.List.{flat_map}
use Rattle.std.proofs.lemmas.List.{append-nil}
use Rattle.kb_tenant_state.specs.Scene.{Scene}
use Rattle.kb_tenant_state.specs.Parts.{Seen}
use Rattle.kb_tenant_state.specs.Steps.{IsStep, Meets, meets_then}
use Rattle.kb_tenant_state.specs.World.{World}

-- the world stays in a scene
abbrev pub Stays : Scene Seen → Scene Seen → Type 0
Stays a b = b.disk.honest → a.agrees → b.state.world ≡ a.state.world

pub stays_then : (a b c : Scene Seen) → IsStep a b → IsStep b c → Stays a b → Stays b c → Stays a c
stays_then a b c p q x y honest agree =
    let before = q.frame.others.honest honest in
    y honest (p.frame.agrees before agree) ∙ x before agree

pub drop_past : {E : Type 0} (es : List E) (i : ℕ) → length es ≤ i → drop i es ≡ []
drop_past [] zero h = refl
drop_past [] (suc i) h = refl
drop_past (e ∷ es) zero h = absurd (omega arith)
drop_past (e ∷ es) (suc i) h = drop_past es i (omega (arith, h))

-- the answer to the entry at a place is written: what is to come is what was to come
pub write_next : {E A : Type 0} (write : A → List ℕ) (f : E → A) (out more : List ℕ) (es : List E) (i : ℕ) (e : E) → i < length es → e ≡ get_or es i e → more ≡ out ++ write (f e)
    → more ++ flat_map write (map f (drop (i + 1) es)) ≡ out ++ flat_map write (map f (drop i es))
write_next {E} {A} write f out more es i e lt is wrote =
    let rest = drop (suc i) es in
    let there : drop i es ≡ e ∷ rest = drop-cons es i e lt ∙ ap (λ x. x ∷ rest) (sym is) in
    ap (λ m. m ++ flat_map write (map f (drop (i + 1) es))) wrote
    ∙ ap (λ n. (out ++ write (f e)) ++ flat_map write (map f (drop n es))) (add-one i)
    ∙ append_assoc out (write (f e)) (flat_map write (map f rest))
    ∙ ap (λ l. out ++ flat_map write (map f l)) (sym there)

-- behind the last entry nothing is to come
pub write_over : {E A : Type 0} (write : A → List ℕ) (f : E → A) (out : List ℕ) (es : List E) (i : ℕ) → length es ≤ i → out ++ flat_map write (map f (drop i es)) ≡ out
write_over write f out es i le = ap (λ l. out ++ flat_map write (map f l)) (drop_past es i le) ∙ append-nil out

pub get_or_any : {A : Type 0} (xs : List A) (i : ℕ) (d e : A) → i < length xs → get_or xs i d ≡ get_or xs i e
get_or_any [] i d e h = absurd (omega (arith, h))
get_or_any (x ∷ xs) zero d e h = refl
get_or_any (x ∷ xs) (suc i) d e h = get_or_any xs i d e (omega (arith, h))

-- the same, where a step that leaves the world finds the answer
pub told_next : {E A : Type 0} (write : A → List ℕ) (f : World → E → A) (a b d : Scene Seen) (out more total : List ℕ) (es : List E) (i : ℕ) (e : E) → IsStep a b → IsStep b d → Stays a b → i < length es → e ≡ get_or es i e
    → Meets a b (out ++ flat_map write (map (f a.state.world) (drop i es)) ≡ total) → Meets b d (more ≡ out ++ write (f b.state.world e)) → Meets a d (more ++ flat_map write (map (f a.state.world) (drop (i + 1) es)) ≡ total)
told_next write f a b d out more total es i e p q stays lt is told wrote honest agree calm =
    let met = meets_then a b d (out ++ flat_map write (map (f a.state.world) (drop i es)) ≡ total) (more ≡ out ++ write (f b.state.world e)) p q told wrote honest agree calm in
    let world = stays (q.frame.others.honest honest) agree in
    write_next write (f a.state.world) out more es i e lt is (met.1 ∙ ap (λ w. out ++ write (f w e)) world) ∙ met.0

-- behind the last entry all is told
pub told_over : {E A : Type 0} (write : A → List ℕ) (f : World → E → A) (a b : Scene Seen) (out total : List ℕ) (es : List E) (i : ℕ) → length es ≤ i
    → Meets a b (out ++ flat_map write (map (f a.state.world) (drop i es)) ≡ total) → Meets a b (out ≡ total)
told_over write f a b out total es i le told honest agree calm = sym (write_over write (f a.state.world) out es i le) ∙ told honest agree calm
