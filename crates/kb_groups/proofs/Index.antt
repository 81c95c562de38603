-- What an index of names leads to.
use Rattle.std.proofs.Common.{◌≡◌, ◌∙◌, ◌||◌, true≢false, arith, nat_lt, get_or, ℕ, suc, Bor, Bool, true, false, List, [], ◌∷◌, ◌++◌, length, Option, Some, None, refl, sym, ap, subst, slice_get, is_some, if◌then◌else◌, bytes_eq}
use Rattle.std.specs.Option.{option_map, option_map_or, option_copied, IfSome}
use Rattle.std.specs.Ordering.{is_eq, nat_cmp}
use Rattle.std.specs.Cmp.{eq_by_cmp_equiv}
use Rattle.std.specs.Cmp.Lexicographic.{slice_cmp, bytes_decides, nat_list_cmp_total, nat_list_eq_equiv}
use Rattle.std.specs.Map.{lookup, IsKeyTest, AreApart, KeepsOthers}
use Rattle.std.specs.BTreeMap.{BTreeMap, UpdatesBy}
use Rattle.std.specs.declared.vec.Vec.{Vec}
use Rattle.std.proofs.lemmas.Option.{same_Some, none-some, slice_get_past}
use Rattle.std.proofs.lemmas.Map.Text.{is_eq-slice_cmp}
use Rattle.kb_groups.specs.declared.protocol.Protocol.{Protocol}
use Rattle.kb_groups.specs.Protocols.{lists, metadata}
use Rattle.kb_groups.proofs.Steps.{at_index}
use Rattle.kb_groups.specs.Index.{place_of, first_place, IsIndex, noted, found}

-- ## A change of the index

apart : (bs cs ks : List ℕ) → bytes_eq bs cs ≡ false → is_eq (slice_cmp nat_cmp bs ks) ≡ true → is_eq (slice_cmp nat_cmp cs ks) ≡ false
apart bs cs ks n y =
    let same : bytes_eq bs ks ≡ true = sym (is_eq-slice_cmp bs ks) ∙ y in
    is_eq-slice_cmp cs ks ∙ nat_list_eq_equiv.symm cs ks ∙ sym (nat_list_eq_equiv.congr bs ks cs same) ∙ n

other_entries : {K X : Type 0} (eq : K → K → Bool) (test : K → Bool) (old new : List (K × X)) → KeepsOthers eq test old new → (other : K → Bool) → IsKeyTest eq other → AreApart test other → lookup other new ≡ lookup other old
unfolding KeepsOthers
other_entries eq test old new h = h

-- A name that was set leads to its place, and another one where it did.
pub place_of_updated : {Y : Type 0} (bs : List ℕ) (m n : BTreeMap (Vec ℕ Y) ℕ) (w : Option ℕ) → UpdatesBy (λ x y. slice_cmp nat_cmp x.items y.items) (λ k. slice_cmp nat_cmp bs k.items) m n w → (cs : List ℕ) → place_of n cs ≡ (if bytes_eq bs cs then w else place_of m cs)
place_of_updated bs m n w h cs = elim (bytes_eq bs cs) as (λ b. bytes_eq bs cs ≡ b → place_of n cs ≡ (if b then w else place_of m cs)) [
  | true ↦ λ y. subst (λ l. place_of n l ≡ w) ((bytes_decides bs cs).0 y) h.1
  | false ↦ λ y. other_entries _ _ _ _ h.3 _ (λ a b. (eq_by_cmp_equiv nat_list_cmp_total).congr cs a.items b.items) (λ k. apart bs cs k.items y)
] refl

none_of : (o : Option ℕ) → is_some o ≡ false → o ≡ None
none_of None h = refl
none_of (Some x) h = absurd (true≢false h)

-- A new name is noted.
pub noted_inserted : {Y : Type 0} (bs name : List ℕ) (m n : BTreeMap (Vec ℕ Y) ℕ) (place : ℕ) → UpdatesBy (λ x y. slice_cmp nat_cmp x.items y.items) (λ k. slice_cmp nat_cmp bs k.items) m n (Some place) → bs ≡ name → is_some (place_of m name) ≡ false → (q : List ℕ) → place_of n q ≡ (if bytes_eq name q then noted (place_of m q) place else place_of m q)
noted_inserted bs name m n place u e new q =
    let set : place_of n q ≡ (if bytes_eq name q then Some place else place_of m q) = place_of_updated bs m n (Some place) u q ∙ ap (λ l. if bytes_eq l q then Some place else place_of m q) e in
    elim (bytes_eq name q) as (λ b. bytes_eq name q ≡ b → place_of n q ≡ (if b then noted (place_of m q) place else place_of m q)) [
      | true ↦ λ y.
          let none : place_of m q ≡ None = ap (place_of m) (sym ((bytes_decides name q).0 y)) ∙ none_of _ new in
          set ∙ ap (λ b. if b then Some place else place_of m q) y ∙ sym (ap (λ o. noted o place) none)
      | false ↦ λ y. set ∙ ap (λ b. if b then Some place else place_of m q) y
    ] refl

-- ## The first protocol of a name

noted_later : (o : Option ℕ) (b : Bool) (n : ℕ) → option_map suc (if b then noted o n else o) ≡ (if b then noted (option_map suc o) (suc n) else option_map suc o)
noted_later None true n = refl
noted_later None false n = refl
noted_later (Some i) true n = refl
noted_later (Some i) false n = refl

-- Behind one more protocol in front.
before : (a b : Bool) (o next : Option ℕ) (n first : ℕ) → next ≡ (if b then noted o n else o) → (if a then Some first else option_map suc next) ≡ (if b then noted (if a then Some first else option_map suc o) (suc n) else (if a then Some first else option_map suc o))
before true true o next n first e = refl
before true false o next n first e = refl
before false b o next n first e = ap (option_map suc) e ∙ noted_later o b n

-- One protocol more at the end is the first only of a name that is new.
first_place_push : (ps : List Protocol) (p : Protocol) (q : List ℕ) → first_place (ps ++ p ∷ []) q ≡ (if bytes_eq p.name q then noted (first_place ps q) (length ps) else first_place ps q)
unfolding first_place
first_place_push [] p q = alone 0 (bytes_eq p.name q)
  where
    alone : (first : ℕ) (b : Bool) → (if b then Some first else option_map suc None) ≡ (if b then noted None first else None)
    alone first true = refl
    alone first false = refl
first_place_push (x ∷ ps) p q = before (bytes_eq x.name q) (bytes_eq p.name q) (first_place ps q) _ (length ps) 0 (first_place_push ps p q)

-- The index of protocols with one more, whose name was noted.
pub index_push : {Y : Type 0} (m n : BTreeMap (Vec ℕ Y) ℕ) (ps next : List Protocol) (p : Protocol) (name : List ℕ) (place : ℕ) → IsIndex m ps → ((q : List ℕ) → place_of n q ≡ (if bytes_eq name q then noted (place_of m q) place else place_of m q)) → name ≡ p.name → place ≡ length ps → next ≡ ps ++ p ∷ [] → IsIndex n next
index_push m n ps next p name place is set e len new q =
    set q ∙ (λ j. if bytes_eq (e j) q then noted (is q j) (len j) else is q j) ∙ sym (first_place_push ps p q) ∙ sym (ap (λ l. first_place l q) new)

-- An index of nothing.
pub index_none : {Y : Type 0} (m : BTreeMap (Vec ℕ Y) ℕ) (ps : List Protocol) → m.entries ≡ [] → ps ≡ [] → IsIndex m ps
unfolding first_place
index_none m ps e f q = ap (lookup (λ k. is_eq (slice_cmp nat_cmp q k.items))) e ∙ sym (ap (λ l. first_place l q) f)

-- One protocol: it has the name, or the first of that name is further on.
found_step : (p : Protocol) (ps : List Protocol) (name : List ℕ) (i : ℕ) → ((j : ℕ) → first_place ps name ≡ Some j → slice_get ps j ≡ found ps name) → (b : Bool) (o : Option ℕ) → first_place ps name ≡ o → (if b then Some 0 else option_map suc o) ≡ Some i → slice_get (p ∷ ps) i ≡ (if b then Some p else found ps name)
found_step p ps name i further true o e h = ap (slice_get (p ∷ ps)) (sym (same_Some _ _ h))
found_step p ps name i further false None e h = absurd (none-some i h)
found_step p ps name i further false (Some j) e h = ap (slice_get (p ∷ ps)) (sym (same_Some _ _ h)) ∙ further j e

-- The protocol at the first place of a name is the first of that name.
pub found_at : (ps : List Protocol) (name : List ℕ) (i : ℕ) → first_place ps name ≡ Some i → slice_get ps i ≡ found ps name
unfolding first_place found
found_at [] name i h = absurd (none-some i h)
found_at (p ∷ ps) name i h = found_step p ps name i (found_at ps name) (bytes_eq p.name name) (first_place ps name) refl h

-- The protocol in front is the first of its name.
pub found_front : (ps : List Protocol) (p : Protocol) (text name : List ℕ) → Some p ≡ slice_get ps 0 → text ≡ p.name → bytes_eq text name ≡ true → Some p ≡ found ps name
unfolding found
found_front [] p text name front is same = absurd (none-some p (sym front))
found_front (q ∷ ps) p text name front is same =
    let e : p ≡ q = same_Some _ _ front in
    let named : bytes_eq q.name name ≡ true = ap (λ l. bytes_eq l name) (sym (is ∙ ap (λ (r : Protocol). r.name) e)) ∙ same in
    front ∙ sym (ap (λ b. if b then Some q else found ps name) named)

none_step : (p : Protocol) (ps : List Protocol) (name : List ℕ) → (first_place ps name ≡ None → None ≡ found ps name) → (b : Bool) (o : Option ℕ) → first_place ps name ≡ o → (if b then Some 0 else option_map suc o) ≡ None → None ≡ (if b then Some p else found ps name)
none_step p ps name further true o e h = absurd (none-some _ (sym h))
none_step p ps name further false None e h = further e
none_step p ps name further false (Some j) e h = absurd (none-some _ (sym h))

pub found_none : (ps : List Protocol) (name : List ℕ) → first_place ps name ≡ None → None ≡ found ps name
unfolding first_place found
found_none [] name h = refl
found_none (p ∷ ps) name h = none_step p ps name (found_none ps name) (bytes_eq p.name name) (first_place ps name) refl h

-- Whether a name is listed, and its metadata, by the first protocol of that name.
pub lists_found : (ps : List Protocol) (name : List ℕ) → is_some (found ps name) ≡ lists ps name
unfolding found lists
lists_found [] name = refl
lists_found (p ∷ ps) name = elim (bytes_eq p.name name) as (λ b. is_some (if b then Some p else found ps name) ≡ (b || lists ps name)) [ true ↦ refl | false ↦ lists_found ps name ]

pub metadata_found : (ps : List Protocol) (name : List ℕ) → option_map_or (λ (p : Protocol). p.metadata) (found ps name) [] ≡ metadata ps name
unfolding found metadata
metadata_found [] name = refl
metadata_found (p ∷ ps) name = elim (bytes_eq p.name name) as (λ b. option_map_or (λ (r : Protocol). r.metadata) (if b then Some p else found ps name) [] ≡ (if b then p.metadata else metadata ps name)) [ true ↦ refl | false ↦ metadata_found ps name ]

-- What was found says whether the name is listed, and its metadata.
pub listed_by : (ps all : List Protocol) (name : List ℕ) (r : Option (Bor Protocol)) (b : Bool) → ps ≡ all → option_copied r ≡ found ps name → b ≡ is_some r → b ≡ lists all name
listed_by ps all name r b same e is = is ∙ copied r ∙ ap is_some e ∙ lists_found ps name ∙ ap (λ l. lists l name) same
  where
    copied : (o : Option (Bor Protocol)) → is_some o ≡ is_some (option_copied o)
    copied None = refl
    copied (Some x) = refl

pub metadata_some : (ps all : List Protocol) (p : Protocol) (name : List ℕ) → ps ≡ all → Some p ≡ found ps name → p.metadata ≡ metadata all name
metadata_some ps all p name same e = ap (λ o. option_map_or (λ (r : Protocol). r.metadata) o []) e ∙ metadata_found ps name ∙ ap (λ l. metadata l name) same

pub metadata_none : (ps all : List Protocol) (name : List ℕ) → ps ≡ all → None ≡ found ps name → [] ≡ metadata all name
metadata_none ps all name same e = ap (λ o. option_map_or (λ (r : Protocol). r.metadata) o []) e ∙ metadata_found ps name ∙ ap (λ l. metadata l name) same

-- What `get` answers.
pub got : (xs : List Protocol) (i : ℕ) (r : Option (Bor Protocol)) → is_some r ≡ nat_lt i (length xs) → IfSome r (λ x. x.now ≡ get_or xs i x.now) → option_copied r ≡ slice_get xs i
got xs i None h e = sym (slice_get_past xs i (grind (arith, h)))
got xs i (Some x) h e = sym (at_index xs i x.now (grind (arith, h)) e)
