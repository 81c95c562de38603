-- Groups in byte order of their ids: what a search by halving finds, and what keeps the order.
use Rattle.std.proofs.Common.{◌≡◌, ◌∙◌, ℕ, zero, suc, ◌+◌, ◌≤◌, Bool, true, false, List, [], ◌∷◌, map, length, Option, Some, None, get_or, leb, slice_get, refl, sym, ap, subst, arith, bytes_eq, if◌then◌else◌, true≢false}
use Rattle.std.proofs.Math.ListN.{get_or-map, length-map}
use Rattle.std.proofs.lemmas.List.Sorted.{IsPartitionedBy-leb, searchable_from_sorted}
use Rattle.std.proofs.lemmas.Map.Keys.{Less-from_sorted}
use Rattle.std.proofs.lemmas.Option.{same_Some, none-some}
use Rattle.std.specs.Cmp.Lexicographic.{nat_list_cmp_total, nat_list_eq_equiv, same_text, slice_cmp, texts_ties}
use Rattle.std.specs.FinMap.{slice_cmp-IsAntisymmetric, nat_cmp-IsAntisymmetric}
use Rattle.std.specs.List.{AllByRecursion, insert, slice_set}
use Rattle.std.specs.List.Sorted.{IsPartitionedBy, IsPartitionPoint, IsSortedBy, IsStrictlySortedBy}
use Rattle.std.specs.Option.{option_map}
use Rattle.std.specs.Ordering.{is_eq, is_le, is_lt, nat_cmp, ordering_index, ordering_reverse}
use Rattle.std.specs.declared.cmp.Ordering.{Ordering}
use Rattle.std.specs.declared.cmp.Ordering.TheVariants.{Less, Equal, Greater}
use Rattle.kb_groups.specs.declared.reply.Release.{Release}
use Rattle.kb_coordinator.specs.declared.groups.Entry.{Entry}
use Rattle.kb_coordinator.specs.Groups.{AreSorted, first_above, place_of}
use Rattle.kb_coordinator.specs.Calls.{Ticks, some_ticked}

-- ## Two ids

not_above : (o : Ordering) → is_le o ≡ leb (ordering_index o) 1
not_above Less = refl
not_above Equal = refl
not_above Greater = refl

turned : (o : Ordering) → is_le o ≡ true → is_lt (ordering_reverse o) ≡ false
turned Less h = refl
turned Equal h = refl
turned Greater h = absurd (true≢false (sym h))

turned_over : (o : Ordering) → is_le o ≡ false → is_lt (ordering_reverse o) ≡ true
turned_over Less h = absurd (true≢false h)
turned_over Equal h = absurd (true≢false h)
turned_over Greater h = refl

is_less : (o : Ordering) → is_lt o ≡ true → o ≡ Less
is_less Less h = refl
is_less Equal h = absurd (true≢false (sym h))
is_less Greater h = absurd (true≢false (sym h))

-- An id that is below another is another one.
apart : (x y : List ℕ) → slice_cmp nat_cmp x y ≡ Less → bytes_eq y x ≡ false
apart x y h = texts_ties y x ∙ ap is_eq (nat_list_cmp_total.antisymm y x ∙ ap ordering_reverse h)

-- Of two ids that differ, the one that is not below the other is above it.
above : (x y : List ℕ) → is_lt (slice_cmp nat_cmp x y) ≡ false → bytes_eq y x ≡ false → slice_cmp nat_cmp y x ≡ Less
above x y low differ = nat_list_cmp_total.antisymm y x ∙ by (slice_cmp nat_cmp x y) refl low
  where
    by : (o : Ordering) → slice_cmp nat_cmp x y ≡ o → is_lt o ≡ false → ordering_reverse o ≡ Less
    by Less e h = absurd (true≢false h)
    by Equal e h =
        let same : x ≡ y = slice_cmp-IsAntisymmetric nat_cmp-IsAntisymmetric x y e in
        absurd (true≢false (sym (nat_list_eq_equiv.refl y) ∙ ap (bytes_eq y) (sym same) ∙ differ))
    by Greater e h = refl

-- ## One id below others

abbrev Below : List ℕ → List (List ℕ) → Type 0
Below x ys = AllByRecursion (λ y. slice_cmp nat_cmp x y ≡ Less) ys

abbrev ids : List Entry → List (List ℕ)
ids es = map (λ e. e.id) es

below_trans : (x y : List ℕ) (zs : List (List ℕ)) → slice_cmp nat_cmp x y ≡ Less → Below y zs → Below x zs
below_trans x y [] h all = tt
below_trans x y (z ∷ zs) h all = (nat_list_cmp_total.trans x y z h all.0, below_trans x y zs h all.1)

none_below : (id : List ℕ) (es : List Entry) → Below id (ids es) → place_of id es ≡ None
unfolding place_of
none_below id [] all = refl
none_below id (e ∷ es) all = ap (λ b. if b then Some 0 else option_map suc (place_of id es)) (apart id e.id all.0) ∙ ap (option_map suc) (none_below id es all.1)

-- ## The search

sorted_entries : (es : List Entry) → AreSorted es → IsSortedBy (λ (x y : Entry). is_lt (slice_cmp nat_cmp x.id y.id)) es
sorted_entries es rises k d low lt =
    let f : Entry → List ℕ = λ e. e.id in
    let here : get_or (map f es) k d.id ≡ (get_or es k d).id = get_or-map f es k d in
    let next : get_or (map f es) (k + 1) d.id ≡ (get_or es (k + 1) d).id = get_or-map f es (k + 1) d in
    let len : length (map f es) ≡ length es = length-map es f in
    let less : slice_cmp nat_cmp (get_or (map f es) k d.id) (get_or (map f es) (k + 1) d.id) ≡ Less = Less-from_sorted (slice_cmp nat_cmp) (map f es) k (k + 1) d.id rises (omega arith) (omega arith) in
    let both : slice_cmp nat_cmp (get_or es k d).id (get_or es (k + 1) d).id ≡ Less = ap (λ a. slice_cmp nat_cmp a (get_or es (k + 1) d).id) (sym here) ∙ ap (slice_cmp nat_cmp (get_or (map f es) k d.id)) (sym next) ∙ less in
    ap is_lt (nat_list_cmp_total.antisymm (get_or es (k + 1) d).id (get_or es k d).id ∙ ap ordering_reverse both)

-- Whether the group's id is not above that one.
abbrev pub at_most : List ℕ → Entry → Bool
at_most id e = is_le (slice_cmp nat_cmp e.id id)

pub parted_by_id : (id : List ℕ) (es : List Entry) → AreSorted es → IsPartitionedBy (at_most id) es
parted_by_id id es rises i j d le lt h =
    let order : Entry → ℕ = λ e. ordering_index (slice_cmp nat_cmp e.id id) in
    let parted = IsPartitionedBy-leb order es 1 (searchable_from_sorted nat_list_cmp_total (λ (e : Entry). e.id) es id (sorted_entries es rises)) in
    not_above _ ∙ parted i j d le lt (sym (not_above _) ∙ h)

pub first_is : (id : List ℕ) (es : List Entry) (i : ℕ) → i ≤ length es → IsPartitionPoint (λ e. at_most id e ≡ true) (λ e. at_most id e ≡ false) es i → i ≡ first_above id es
unfolding first_above
first_is id [] i within parted = omega (arith, within)
first_is id (e ∷ es) zero within parted =
    let high : is_lt (slice_cmp nat_cmp id e.id) ≡ true = ap is_lt (nat_list_cmp_total.antisymm id e.id) ∙ turned_over _ (parted.1 0 e (omega arith) (omega arith)) in
    sym (ap (λ b. if b then 0 else suc (first_above id es)) high)
first_is id (e ∷ es) (suc i) within parted =
    let low : is_lt (slice_cmp nat_cmp id e.id) ≡ false = ap is_lt (nat_list_cmp_total.antisymm id e.id) ∙ turned _ (parted.0 0 e (omega arith) (omega arith)) in
    let rest : i ≡ first_above id es = first_is id es i (omega (arith, within)) (λ k d z l. parted.0 (suc k) d (omega arith) (omega (arith, l)), λ k d z l. parted.1 (suc k) d (omega (arith, z)) (omega (arith, l))) in
    ap suc rest ∙ sym (ap (λ b. if b then 0 else suc (first_above id es)) low)

-- The group before the first one above, if it has that id.
abbrev last_is : List ℕ → ℕ → Option Entry → Option ℕ
last_is id k None = None
last_is id k (Some e) = if bytes_eq e.id id then Some k else None

abbrev before : List ℕ → List Entry → ℕ → Option ℕ
before id es zero = None
before id es (suc k) = last_is id k (slice_get es k)

last_more : (id : List ℕ) (k : ℕ) (o : Option Entry) → option_map suc (last_is id k o) ≡ last_is id (suc k) o
last_more id k None = refl
last_more id k (Some e) = by (bytes_eq e.id id)
  where
    by : (b : Bool) → option_map suc (if b then Some k else None) ≡ (if b then Some (suc k) else None)
    by true = refl
    by false = refl

-- The first of those that are above an id's group is above the id.
none_between : (id : List ℕ) (e : Entry) (es : List Entry) (k : ℕ) → AreSorted (e ∷ es) → first_above id es ≡ suc k → bytes_eq e.id id ≡ false
unfolding first_above IsStrictlySortedBy
none_between id e [] k rises h = absurd (omega (arith, h))
none_between id e (x ∷ es) k rises h = by (bytes_eq e.id id) refl
  where
    by : (b : Bool) → bytes_eq e.id id ≡ b → b ≡ false
    by false q = refl
    by true q =
        let same : e.id ≡ id = same_text e.id id (sym q) in
        let less : is_lt (slice_cmp nat_cmp id x.id) ≡ true = ap (λ y. is_lt (slice_cmp nat_cmp y x.id)) (sym same) ∙ ap is_lt rises.0.0 in
        let none : first_above id (x ∷ es) ≡ 0 = ap (λ b. if b then 0 else suc (first_above id es)) less in
        absurd (omega (arith, h, none))

place_before : (id : List ℕ) (es : List Entry) → AreSorted es → place_of id es ≡ before id es (first_above id es)
unfolding place_of first_above IsStrictlySortedBy
place_before id [] rises = refl
place_before id (e ∷ es) rises = by (is_lt (slice_cmp nat_cmp id e.id)) refl (place_before id es rises.1)
  where
    on : (n : ℕ) → first_above id es ≡ n → place_of id es ≡ before id es n → (if bytes_eq e.id id then Some 0 else option_map suc (place_of id es)) ≡ before id (e ∷ es) (suc n)
    on zero h is = ap (λ o. if bytes_eq e.id id then Some 0 else option_map suc o) is
    on (suc k) h is =
        ap (λ b. if b then Some 0 else option_map suc (place_of id es)) (none_between id e es k rises h) ∙ ap (option_map suc) is ∙ last_more id k (slice_get es k)

    by : (b : Bool) → is_lt (slice_cmp nat_cmp id e.id) ≡ b → place_of id es ≡ before id es (first_above id es) → (if bytes_eq e.id id then Some 0 else option_map suc (place_of id es)) ≡ before id (e ∷ es) (if b then 0 else suc (first_above id es))
    by true h rest =
        let low : slice_cmp nat_cmp id e.id ≡ Less = is_less (slice_cmp nat_cmp id e.id) h in
        none_below id (e ∷ es) (low, below_trans id e.id (ids es) low rises.0)
    by false h rest = on (first_above id es) refl rest

pub place_nowhere : (id : List ℕ) (es : List Entry) (n : ℕ) → AreSorted es → n ≡ first_above id es → n ≡ 0 → None ≡ place_of id es
place_nowhere id es n rises is zero_is = sym (place_before id es rises ∙ ap (before id es) (sym is ∙ zero_is))

pub place_there : (id : List ℕ) (es : List Entry) (n k : ℕ) (e : Entry) → AreSorted es → n ≡ first_above id es → n ≡ suc k → slice_get es k ≡ Some e → bytes_eq e.id id ≡ true → Some k ≡ place_of id es
place_there id es n k e rises is next at same =
    sym (place_before id es rises ∙ ap (before id es) (sym is ∙ next) ∙ ap (last_is id k) at ∙ ap (λ b. if b then Some k else None) same)

pub place_missed : (id : List ℕ) (es : List Entry) (n k : ℕ) (e : Entry) → AreSorted es → n ≡ first_above id es → n ≡ suc k → slice_get es k ≡ Some e → bytes_eq e.id id ≡ false → None ≡ place_of id es
place_missed id es n k e rises is next at differ =
    sym (place_before id es rises ∙ ap (before id es) (sym is ∙ next) ∙ ap (last_is id k) at ∙ ap (λ b. if b then Some k else None) differ)

-- ## What keeps the order

pub none_sorted : (es : List Entry) → es ≡ [] → AreSorted es
unfolding IsStrictlySortedBy
none_sorted [] none = tt
none_sorted (e ∷ es) none = absurd (omega (arith, ap length none))

all_inserted : (P : List ℕ → Type 0) (es : List Entry) (i : ℕ) (n : Entry) → P n.id → AllByRecursion P (ids es) → AllByRecursion P (ids (insert es i n))
all_inserted P [] zero n one all = (one, tt)
all_inserted P [] (suc i) n one all = (one, tt)
all_inserted P (e ∷ es) zero n one all = (one, all)
all_inserted P (e ∷ es) (suc i) n one all = (all.0, all_inserted P es i n one all.1)

differ_first : (id : List ℕ) (e : Entry) (es : List Entry) → place_of id (e ∷ es) ≡ None → (bytes_eq e.id id ≡ false) × (place_of id es ≡ None)
unfolding place_of
differ_first id e es none = by (bytes_eq e.id id) (place_of id es) none
  where
    by : (b : Bool) (o : Option ℕ) → (if b then Some 0 else option_map suc o) ≡ None → (b ≡ false) × (o ≡ None)
    by true o h = absurd (none-some 0 (sym h))
    by false None h = (refl, refl)
    by false (Some k) h = absurd (none-some (suc k) (sym h))

inserted : (n : Entry) (es : List Entry) → AreSorted es → place_of n.id es ≡ None → AreSorted (insert es (first_above n.id es) n)
unfolding first_above IsStrictlySortedBy
inserted n [] rises none = (tt, tt)
inserted n (e ∷ es) rises none = by (is_lt (slice_cmp nat_cmp n.id e.id)) refl (inserted n es rises.1 (differ_first n.id e es none).1)
  where
    by : (b : Bool) → is_lt (slice_cmp nat_cmp n.id e.id) ≡ b → AreSorted (insert es (first_above n.id es) n) → AreSorted (insert (e ∷ es) (if b then 0 else suc (first_above n.id es)) n)
    by true h rest =
        let low : slice_cmp nat_cmp n.id e.id ≡ Less = is_less (slice_cmp nat_cmp n.id e.id) h in
        ((low, below_trans n.id e.id (ids es) low rises.0), rises)
    by false h rest =
        (all_inserted (λ y. slice_cmp nat_cmp e.id y ≡ Less) es (first_above n.id es) n (above n.id e.id h (differ_first n.id e es none).0) rises.0, rest)

pub sorted_inserted : (n : Entry) (es : List Entry) (place : ℕ) → AreSorted es → place_of n.id es ≡ None → place ≡ first_above n.id es → AreSorted (insert es place n)
sorted_inserted n es place rises none is = subst (λ i. AreSorted (insert es i n)) (sym is) (inserted n es rises none)

-- The same ids.
pub sorted_same : (es new : List Entry) → map (λ (e : Entry). e.id) es ≡ map (λ (e : Entry). e.id) new → AreSorted es → AreSorted new
sorted_same es new is rises = subst (λ (l : List (List ℕ)). IsStrictlySortedBy (slice_cmp nat_cmp) l) is rises

pub ids_put : (es : List Entry) (i : ℕ) (e n : Entry) → slice_get es i ≡ Some e → n.id ≡ e.id → ids es ≡ ids (slice_set es i n)
ids_put [] i e n at is = refl
ids_put (x ∷ es) zero e n at is = ap (λ y. y ∷ ids es) (ap (λ (y : Entry). y.id) (same_Some _ _ at) ∙ sym is)
ids_put (x ∷ es) (suc i) e n at is = ap (λ l. x.id ∷ l) (ids_put es i e n at is)

pub ids_each : (f : Entry → Entry) → ((e : Entry) → (f e).id ≡ e.id) → (es : List Entry) → ids es ≡ ids (map f es)
ids_each f keeps [] = refl
ids_each f keeps (e ∷ es) = λ k. sym (keeps e) k ∷ ids_each f keeps es k

ids_ticked : (clock : ℕ) (marks : List Bool) (es : List Entry) → length marks ≡ length es → ids es ≡ ids (some_ticked clock marks es)
unfolding some_ticked
ids_ticked clock [] [] h = refl
ids_ticked clock [] (e ∷ es) h = absurd (omega (arith, h))
ids_ticked clock (m ∷ ms) [] h = absurd (omega (arith, h))
ids_ticked clock (true ∷ ms) (e ∷ es) h = ap (λ l. e.id ∷ l) (ids_ticked clock ms es (omega (arith, h)))
ids_ticked clock (false ∷ ms) (e ∷ es) h = ap (λ l. e.id ∷ l) (ids_ticked clock ms es (omega (arith, h)))

pub sorted_ticked : (clock : ℕ) (es new : List Entry) (rs : List Release) (k : ℕ) → Ticks clock es new rs k → AreSorted es → AreSorted new
sorted_ticked clock es new rs k (marks, same, is, released, refused) rises = sorted_same es new (ids_ticked clock marks es same ∙ ap ids (sym is)) rises

pub sorted_put : (es : List Entry) (i : ℕ) (e n : Entry) → slice_get es i ≡ Some e → n.id ≡ e.id → AreSorted es → AreSorted (slice_set es i n)
sorted_put es i e n at is rises = sorted_same es (slice_set es i n) (ids_put es i e n at is) rises
