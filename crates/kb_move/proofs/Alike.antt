-- Files that say the same come to the same.
use Rattle.std.proofs.Common.{◌≡◌, ◌∙◌, ◌<◌, ◌+◌, ℕ, Bool, true, false, List, [], ◌∷◌, length, map, max, get_or, ap, refl, sym, subst, arith}
use Rattle.std.specs.Prelude.{if◌then◌else◌}
use Rattle.std.specs.Prelude.{filter, IsPermutation, IsSorted}
use Rattle.std.specs.List.{All, AllByRecursion, swap}
use Rattle.std.proofs.Math.ListN.{get_or-map as get_or-mapped, set}
use Rattle.std.specs.List.Sorted.{SwapsInRange, apply_swaps}
use Rattle.std.specs.Ordering.{is_lt, nat_cmp, ordering_then}
use Rattle.std.proofs.lemmas.List.{get_or-map, length-map, map-set}
use Rattle.std.proofs.lemmas.List.Elements.{All-filter, All-map, recursion_from_All}
use Rattle.std.proofs.lemmas.List.Sorted.{All-permutation, IsPermutation-map}
use Rattle.kb_store.specs.Disk.{Files}
use Rattle.kb_segment.specs.Header.{Header, header_in}
use Rattle.kb_segment_log.specs.SegmentLog.{bytes_at}
use Rattle.kb_segment_log.specs.Chain.{Chain, ComesTo, Part, base_at, behind_header, first_of, part_at, parts_at, place_at, place_cmp, base_said, IsChain}
use Rattle.kb_opening.specs.Opened.{ComesToKnown, IsOpened}
use Rattle.kb_opening.specs.Owners.{catalog_of, is_of_catalog, is_of_partition, partition_of, passes, says}
use Rattle.kb_batch.specs.Batch.{natural}
use Rattle.kb_topics.specs.Known.{Known}
use Rattle.kb_tenant_state.specs.Logs.{Logs}
use Rattle.kb_move.specs.Alike.{AreAlike, numbers_here, numbers_there, owners_of}

-- ---- lists

map_then : {X Y Z : Type 0} (f : X → Y) (h : Y → Z) (xs : List X) → map h (map f xs) ≡ map (λ x. h (f x)) xs
map_then f h [] = refl
map_then f h (x ∷ xs) = ap (λ ys. h (f x) ∷ ys) (map_then f h xs)

map_alike : {X Y : Type 0} (f h : X → Y) (xs : List X) → AllByRecursion (λ x. f x ≡ h x) xs → map f xs ≡ map h xs
map_alike f h [] e = refl
map_alike f h (x ∷ xs) e = ap (λ y. y ∷ map f xs) e.0 ∙ ap (λ ys. h x ∷ ys) (map_alike f h xs e.1)

pub filter_map : {X Y : Type 0} (f : X → Y) (test : Y → Bool) (xs : List X) → filter test (map f xs) ≡ map f (filter (λ x. test (f x)) xs)
filter_map f test [] = refl
filter_map f test (x ∷ xs) = by (test (f x)) (filter_map f test xs)
  where
    by : (b : Bool) → filter test (map f xs) ≡ map f (filter (λ x. test (f x)) xs)
        → (if◌then◌else◌ b (f x ∷ filter test (map f xs)) (filter test (map f xs))) ≡ map f (if◌then◌else◌ b (x ∷ filter (λ x. test (f x)) xs) (filter (λ x. test (f x)) xs))
    by true e = ap (λ ys. f x ∷ ys) e
    by false e = e

pub filter_alike : {X : Type 0} (p q : X → Bool) (xs : List X) → AllByRecursion (λ x. p x ≡ q x) xs → filter p xs ≡ filter q xs
filter_alike p q [] e = refl
filter_alike p q (x ∷ xs) e =
    ap (λ b. if◌then◌else◌ b (x ∷ filter p xs) (filter p xs)) e.0 ∙ ap (λ ys. if◌then◌else◌ (q x) (x ∷ ys) ys) (filter_alike p q xs e.1)

swap_map : {X Y : Type 0} (f : X → Y) (xs : List X) (i j : ℕ) → map f (swap xs i j) ≡ swap (map f xs) i j
swap_map f [] i j = refl
swap_map f (d ∷ ys) i j =
    let xs = d ∷ ys in
    map-set f (set xs i (get_or xs j d)) j (get_or xs i d)
    ∙ ap (λ l. set l j (f (get_or xs i d))) (map-set f xs i (get_or xs j d))
    ∙ ap (λ x. set (set (map f xs) i x) j (f (get_or xs i d))) (sym (get_or-mapped f xs j d))
    ∙ ap (λ x. set (set (map f xs) i (get_or (map f xs) j (f d))) j x) (sym (get_or-mapped f xs i d))

swaps_map : {X Y : Type 0} (f : X → Y) (xs : List X) (moves : List (ℕ × ℕ)) → map f (apply_swaps xs moves) ≡ apply_swaps (map f xs) moves
swaps_map f xs [] = refl
swaps_map f xs (m ∷ moves) = swap_map f (apply_swaps xs moves) m.0 m.1 ∙ ap (λ l. swap l m.0 m.1) (swaps_map f xs moves)

-- ---- the same files, seen from the other side, or some of them

abbrev flip : ℕ × ℕ → ℕ × ℕ
flip p = (p.1, p.0)

there_flipped : (ps : List (ℕ × ℕ)) → numbers_there (map flip ps) ≡ numbers_here ps
there_flipped ps = map_then flip (λ p. p.1) ps

here_flipped : (ps : List (ℕ × ℕ)) → numbers_here (map flip ps) ≡ numbers_there ps
here_flipped ps = map_then flip (λ p. p.0) ps

module _ (f g : Files) where
  alike_flipped : (ps : List (ℕ × ℕ)) → AreAlike f g ps → AreAlike g f (map flip ps)
  alike_flipped ps a = record {
    bytes = All-map (λ p. bytes_at f p.1 ≡ bytes_at g p.0) flip ps (λ k d lt. sym (a.bytes k d lt));
    order = All-map (λ p. All (λ q. nat_cmp p.1 q.1 ≡ nat_cmp p.0 q.0) (map flip ps)) flip ps
        (λ k d lt. All-map (λ q. nat_cmp (flip (get_or ps k d)).1 q.1 ≡ nat_cmp (flip (get_or ps k d)).0 q.0) flip ps
        (λ j e le. sym (a.order k d lt j e le)));
  }

  alike_some : (test : ℕ × ℕ → Bool) (ps : List (ℕ × ℕ)) → AreAlike f g ps → AreAlike f g (filter test ps)
  alike_some test ps a = record {
    bytes = All-filter test (λ p. bytes_at g p.1 ≡ bytes_at f p.0) ps a.bytes;
    order = All-filter test (λ p. All (λ q. nat_cmp p.1 q.1 ≡ nat_cmp p.0 q.0) (filter test ps)) ps
        (λ k d lt. All-filter test (λ q. nat_cmp (get_or ps k d).1 q.1 ≡ nat_cmp (get_or ps k d).0 q.0) ps (a.order k d lt));
  }

  alike_moved : (ps qs : List (ℕ × ℕ)) → IsPermutation ps qs → AreAlike f g ps → AreAlike f g qs
  alike_moved ps qs moved a = record {
    bytes = All-permutation (λ p. bytes_at g p.1 ≡ bytes_at f p.0) ps qs moved a.bytes;
    order = All-permutation (λ p. All (λ q. nat_cmp p.1 q.1 ≡ nat_cmp p.0 q.0) qs) ps qs moved
        (λ k d lt. All-permutation (λ q. nat_cmp (get_or ps k d).1 q.1 ≡ nat_cmp (get_or ps k d).0 q.0) ps qs moved (a.order k d lt));
  }

  -- ---- those of a log

  said_by : (ℕ × ℕ → ℕ) → Files → (Header → Bool) → ℕ × ℕ → Bool
  said_by side files test p = says files test (side p)

  pub there_of : (test : Header → Bool) (ps : List (ℕ × ℕ)) → AreAlike f g ps
      → filter (says g test) (numbers_there ps) ≡ numbers_there (filter (λ p. says f test p.0) ps)
  there_of test ps a =
      filter_map (λ p. p.1) (says g test) ps
      ∙ ap numbers_there (filter_alike (λ p. says g test p.1) (λ p. says f test p.0) ps
      (recursion_from_All (λ p. says g test p.1 ≡ says f test p.0) ps (λ k d lt. ap (λ b. passes test (header_in b)) (a.bytes k d lt))))

  here_of : (test : Header → Bool) (ps : List (ℕ × ℕ)) → filter (says f test) (numbers_here ps) ≡ numbers_here (filter (λ p. says f test p.0) ps)
  here_of test ps = filter_map (λ p. p.0) (says f test) ps

  -- ---- a chain

  module _ (ps : List (ℕ × ℕ)) (a : AreAlike f g ps) (start : ℕ) (bs : List (List ℕ)) (c : Chain f (numbers_here ps) start bs) where
    abbrev these : IsPermutation (map (λ p. place_at f p.0) ps) c.order
    these = subst (λ xs. IsPermutation xs c.order) (map_then (λ p. p.0) (place_at f) ps) c.ordered.these

    abbrev qs : List (ℕ × ℕ)
    qs = apply_swaps ps these.moves

    abbrev moved : IsPermutation ps qs
    moved = record {
      moves = these.moves;
      below = subst (λ n. SwapsInRange n these.moves) (length-map ps (λ p. place_at f p.0)) these.below;
      is = refl;
    }

    alike : AreAlike f g qs
    alike = alike_moved ps qs moved a

    ordered_is : c.order ≡ map (λ p. place_at f p.0) qs
    ordered_is = these.is ∙ sym (swaps_map (λ p. place_at f p.0) ps these.moves)

    base_same : (k : ℕ) (d : ℕ × ℕ) → k < length qs → base_at g (get_or qs k d).1 ≡ base_at f (get_or qs k d).0
    base_same k d lt = ap (λ b. base_said (header_in b)) (alike.bytes k d lt)

    parts_same : parts_at g (map (λ p. place_at g p.1) qs) ≡ parts_at f c.order
    parts_same =
        map_then (λ p. place_at g p.1) (λ p. part_at g p.file) qs
        ∙ map_alike (λ p. part_at g p.1) (λ p. part_at f p.0) qs
        (recursion_from_All (λ p. part_at g p.1 ≡ part_at f p.0) qs (λ k d lt. ap part_of (alike.bytes k d lt)))
        ∙ sym (map_then (λ p. place_at f p.0) (λ p. part_at f p.file) qs)
        ∙ ap (parts_at f) (sym ordered_is)
      where
        part_of : List ℕ → Part
        part_of b = record { base = base_said (header_in b); body = behind_header (header_in b) b }

    first_same : first_of start (map (λ p. place_at g p.1) qs) ≡ first_of start c.order
    first_same = heads qs alike.bytes ∙ ap (first_of start) (sym ordered_is)
      where
        heads : (xs : List (ℕ × ℕ)) → All (λ p. bytes_at g p.1 ≡ bytes_at f p.0) xs
            → first_of start (map (λ p. place_at g p.1) xs) ≡ first_of start (map (λ p. place_at f p.0) xs)
        heads [] h = refl
        heads (x ∷ xs) h = ap (λ b. base_said (header_in b)) (h 0 x (omega arith))

    chain_there : Chain g (numbers_there ps) start bs
    chain_there = record {
      order = map (λ p. place_at g p.1) qs;
      ordered = record {
        these = subst (λ xs. IsPermutation xs (map (λ p. place_at g p.1) qs)) (sym (map_then (λ p. p.1) (place_at g) ps))
            (IsPermutation-map (λ p. place_at g p.1) ps qs moved);
        sorted = λ k d low lt.
            let z : ℕ × ℕ = (0, 0) in
            let le : k + 1 < length qs = subst (λ n. k + 1 < n) (length-map qs (λ p. place_at g p.1)) lt in
            let here : k < length qs = omega (arith, le) in
            let x = get_or qs k z in
            let y = get_or qs (k + 1) z in
            let rose = subst (IsSorted place_cmp) ordered_is c.ordered.sorted k d low (subst (λ n. k + 1 < n) (sym (length-map qs (λ p. place_at f p.0))) le) in
            let of_pairs : is_lt (place_cmp (place_at f y.0) (place_at f x.0)) ≡ false =
            sym (λ i. is_lt (place_cmp (get_or-map (λ p. place_at f p.0) qs (k + 1) z d le i) (get_or-map (λ p. place_at f p.0) qs k z d here i))) ∙ rose in
            let order : nat_cmp y.1 x.1 ≡ nat_cmp y.0 x.0 = alike.order (k + 1) z le k z here in
            let same : place_cmp (place_at g y.1) (place_at g x.1) ≡ place_cmp (place_at f y.0) (place_at f x.0) =
            (λ i. ordering_then (nat_cmp (base_same (k + 1) z le i) (base_same k z here i)) (order i)) in
            (λ i. is_lt (place_cmp (get_or-map (λ p. place_at g p.1) qs (k + 1) z d le i) (get_or-map (λ p. place_at g p.1) qs k z d here i)))
            ∙ ap is_lt same
            ∙ of_pairs;
      };
      end = c.end;
      count = c.count;
      chain = subst (λ fs. IsChain (first_of start (map (λ p. place_at g p.1) qs)) fs bs c.end c.count) (sym parts_same)
          (subst (λ n. IsChain n (parts_at f c.order) bs c.end c.count) (sym first_same) c.chain);
    }

    comes_first : first_of start chain_there.order ≡ first_of start c.order
    unfolding chain_there
    comes_first = first_same

    comes_last : chain_there.end ≡ c.end
    unfolding chain_there
    comes_last = refl

  -- ---- a log, and a catalog

  log_there : (ps : List (ℕ × ℕ)) → AreAlike f g ps → (start first last : ℕ) (bs : List (List ℕ))
      → ComesTo f (numbers_here ps) start first last bs → ComesTo g (numbers_there ps) start first last bs
  log_there ps a start first last bs t = record {
    bs = t.bs;
    chain = chain_there ps a start t.bs t.chain;
    starts = t.starts ∙ ap (λ n. max n start) (sym (comes_first ps a start t.bs t.chain));
    ends = t.ends ∙ ap (λ n. max n start) (sym (comes_last ps a start t.bs t.chain));
    batches = t.batches;
  }

  known_there : (ps : List (ℕ × ℕ)) → AreAlike f g ps → (generation : ℕ) (k : Known)
      → ComesToKnown f (numbers_here ps) generation k → ComesToKnown g (numbers_there ps) generation k
  known_there ps a generation k t = record { commands = t.commands; chain = chain_there ps a 0 t.commands t.chain; known = t.known }

  catalog_there : (ps : List (ℕ × ℕ)) → AreAlike f g ps → (name : List ℕ) (generation : ℕ) (k : Known)
      → ComesToKnown f (catalog_of f name generation (numbers_here ps)) generation k
      → ComesToKnown g (catalog_of g name generation (numbers_there ps)) generation k
  catalog_there ps a name generation k t =
      let test = is_of_catalog name generation in
      let mine : ℕ × ℕ → Bool = (λ p. says f test p.0) in
      subst (λ ns. ComesToKnown g ns generation k) (sym (there_of test ps a))
      (known_there (filter mine ps) (alike_some mine ps a) generation k (subst (λ ns. ComesToKnown f ns generation k) (here_of test ps) t))

  partition_there : (ps : List (ℕ × ℕ)) → AreAlike f g ps → (name : List ℕ) (i p start first last : ℕ) (bs : List (List ℕ))
      → ComesTo f (partition_of f name i p (numbers_here ps)) start first last bs
      → ComesTo g (partition_of g name i p (numbers_there ps)) start first last bs
  partition_there ps a name i p start first last bs t =
      let test = is_of_partition name i p in
      let mine : ℕ × ℕ → Bool = (λ q. says f test q.0) in
      subst (λ ns. ComesTo g ns start first last bs) (sym (there_of test ps a))
      (log_there (filter mine ps) (alike_some mine ps a) start first last bs (subst (λ ns. ComesTo f ns start first last bs) (here_of test ps) t))

-- ---- a tenant

catalog_here : (f g : Files) (ps : List (ℕ × ℕ)) → AreAlike f g ps → (name : List ℕ) (generation : ℕ) (k : Known)
    → ComesToKnown g (catalog_of g name generation (numbers_there ps)) generation k
    → ComesToKnown f (catalog_of f name generation (numbers_here ps)) generation k
catalog_here f g ps a name generation k t =
    subst (λ ns. ComesToKnown f (catalog_of f name generation ns) generation k) (there_flipped ps)
    (catalog_there g f (map flip ps) (alike_flipped f g ps a) name generation k
    (subst (λ ns. ComesToKnown g (catalog_of g name generation ns) generation k) (sym (here_flipped ps)) t))

pub opened_alike : (f g : Files) (ps : List (ℕ × ℕ)) (name : List ℕ) (k : Known) (logs : Logs) → AreAlike f g ps
    → IsOpened f (owners_of f (numbers_here ps) name) k logs → IsOpened g (owners_of g (numbers_there ps) name) k logs
opened_alike f g ps name k logs a o = record {
  generation = o.generation;
  in_use = record {
    small = o.in_use.small;
    whole = catalog_there f g ps a name o.generation k o.in_use.whole;
    greatest = λ above lt small other t. o.in_use.greatest above lt small other (catalog_here f g ps a name above other t);
  };
  has = record {
    tied = o.has.tied;
    each = λ i p part at.
        let l = o.has.each i p part at in
        (l.0, l.1, partition_there f g ps a name i p (natural part.start) l.0.start l.0.end l.0.batches l.2);
  };
}
