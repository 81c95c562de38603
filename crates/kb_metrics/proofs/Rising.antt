-- Names that rise from each to the next.
use Rattle.std.proofs.Common.{◌≡◌, ◌∙◌, ◌+◌, ◌<◌, Bor, Bool, true, false, ℕ, suc, List, [], ◌∷◌, length, map, get_or, refl, sym, ap, subst, arith, add-one}
use Rattle.std.proofs.Math.ListN.{get_or-map, length-map}
use Rattle.std.proofs.lemmas.Map.Keys.{Less-from_sorted}
use Rattle.std.specs.Bool.{Decides}
use Rattle.std.specs.Cmp.Lexicographic.{nat_list_cmp_total}
use Rattle.std.specs.List.{AllByRecursion, IsAllAdjacentAnswer}
use Rattle.std.specs.List.Sorted.{IsStrictlySortedBy}
use Rattle.std.specs.Ordering.{is_lt}
use Rattle.std.specs.declared.cmp.Ordering.{Ordering}
use Rattle.std.specs.declared.cmp.Ordering.TheVariants.{Less, Equal, Greater}
use Rattle.kb_settings.specs.Names.{byte_order}

abbrev names : List (Bor (List ℕ)) → List (List ℕ)
names ns = map (λ n. n.now) ns

abbrev pub is_below : Bor (List ℕ) → Bor (List ℕ) → Bool
is_below x y = is_lt (byte_order x.now y.now)

less : (o : Ordering) → true ≡ is_lt o → o ≡ Less
less Less h = refl
less Equal h = absurd cc
less Greater h = absurd cc

below : (x y : List ℕ) (zs : List (List ℕ)) → byte_order x y ≡ Less → AllByRecursion (λ z. byte_order y z ≡ Less) zs
    → AllByRecursion (λ z. byte_order x z ≡ Less) zs
below x y [] h all = tt
below x y (z ∷ zs) h all = (nat_list_cmp_total.trans x y z h all.0, below x y zs h all.1)

-- each name is below the next one, so below all that come
rises : (ns : List (Bor (List ℕ))) → ((k : ℕ) (d : Bor (List ℕ)) → suc k < length ns → true ≡ is_below (get_or ns k d) (get_or ns (suc k) d))
    → IsStrictlySortedBy byte_order (names ns)
unfolding IsStrictlySortedBy
rises [] each = tt
rises (x ∷ []) each = (tt, tt)
rises (x ∷ y ∷ ns) each =
    let rest = rises (y ∷ ns) (λ k d lt. each (suc k) d (omega (arith, lt))) in
    let first : byte_order x.now y.now ≡ Less = less (byte_order x.now y.now) (each 0 x (omega arith)) in
    ((first, below x.now y.now (names ns) first rest.0), rest)

-- a name that is not below the next one
falls : (ns : List (Bor (List ℕ))) (k : ℕ) → k + 1 < length ns
    → ((d : Bor (List ℕ)) → false ≡ is_below (get_or ns k d) (get_or ns (k + 1) d)) → IsStrictlySortedBy byte_order (names ns) → ⊥
falls [] k lt f up = omega (arith, lt)
falls (x ∷ ns) k lt f up =
    let now : Bor (List ℕ) → List ℕ = λ n. n.now in
    let all = x ∷ ns in
    let within : k + 1 < length (map now all) = omega (arith, lt, length-map all now) in
    let lower : byte_order (get_or (map now all) k x.now) (get_or (map now all) (k + 1) x.now) ≡ Less =
    Less-from_sorted byte_order (map now all) k (k + 1) x.now up (omega arith) within in
    let same : is_below (get_or all k x) (get_or all (k + 1) x) ≡ true =
    ap (λ n. is_lt (byte_order n (now (get_or all (k + 1) x)))) (sym (get_or-map now all k x))
    ∙ ap (λ n. is_lt (byte_order (get_or (map now all) k x.now) n)) (sym (get_or-map now all (k + 1) x)) ∙ ap is_lt lower in
    cc (f x, same)

-- whether each is below the next one tells whether they rise
pub decided : (ns : List (Bor (List ℕ))) (r : Bool) → IsAllAdjacentAnswer (λ x y b. b ≡ is_below x y) ns r
    → Decides r (IsStrictlySortedBy byte_order (names ns))
decided ns true h =
    (λ e. rises ns (λ k d lt. subst (λ j. true ≡ is_below (get_or ns k d) (get_or ns j d)) (add-one k) (h k d (omega (arith, lt)))), λ up. refl)
decided ns false h = (λ e. absurd cc, λ up. absurd (falls ns h.0 h.1 h.2 up))
