-- What a log has after a loss of power, by what is left of its files.
use Rattle.std.proofs.Common.{◌≡◌, ◌∙◌, ◌≤◌, ◌++◌, ◌∷◌, ◌⊎◌, [], ℕ, List, map, max, sym, ap, subst, refl, inl, inr, ⊎_elim, arith}
use Rattle.std.specs.Prelude.{nat_eq}
use Rattle.std.specs.List.{AllByRecursion, Contains, IsDistinct}
use Rattle.std.proofs.lemmas.List.{map-append}
use Rattle.kb_store.specs.Disk.{Files}
use Rattle.kb_log.specs.Log.{IsRun, starting}
use Rattle.kb_segment_log.specs.SegmentLaws.{run_ordered}
use Rattle.kb_segment_log.specs.Chain.{base_at, part_at, place_at, parts_at, numbers_of, numbers_in, first_of, IsChain, Chain, ComesTo}
use Rattle.kb_segment_log.proofs.Comes.{chain_run}
use Rattle.kb_segment_log.proofs.Remaining.{order_said}
use Rattle.kb_loss.specs.Fronts.{IsFrontOf}
use Rattle.kb_loss.specs.Chains.{first_at, LastsIn, HasAll}
use Rattle.kb_loss.proofs.Fronts.{front_none, run_none, front_ordered, starting_front, starting_twice, starting_behind}
use Rattle.kb_loss.proofs.Orders.{Spot, Has, has_of, Once, once_front, once_behind, front_has, Rising, rising_front, rising_behind, rising_moved, order_rises, order_once, order_has, has_order, taken_split, ordered_front}
use Rattle.kb_loss.proofs.Chains.{Through, through_run, through_of, first_through, Parted, parted, upto, upto_front, upto_low, upto_most, begin_found, found_base, found_there, behind_none, chain_on}

-- ---- files by their numbers

parts_numbers : (files : Files) (order : List Spot) → parts_at files order ≡ map (part_at files) (numbers_of order)
parts_numbers files [] = refl
parts_numbers files (p ∷ ps) = ap (λ xs. part_at files p.file ∷ xs) (parts_numbers files ps)

first_numbers : (files : Files) (start : ℕ) (order : List Spot) → AllByRecursion (λ (p : Spot). place_at files p.file ≡ p) order → first_of start order ≡ first_at files start (numbers_of order)
first_numbers files start [] said = refl
first_numbers files start (p ∷ ps) said = sym (ap (λ (x : Spot). x.base) said.0)

-- ---- the files of a chain, and what is found

module _ (files : Files) (ns : List ℕ) (from : ℕ) (bs : List (List ℕ)) (c : Chain files ns from bs) (start : ℕ) (found : Files) (ms : List ℕ) (l : LastsIn c start found ms) (apart : IsDistinct nat_eq ns) (far : IsDistinct nat_eq ms) (to : ℕ) (cs : List (List ℕ)) (d : Chain found ms to cs) where
  in_order : (P : List ℕ → Type 0) → ((xs ys : List ℕ) → P (xs ++ ys) → P xs) → P (numbers_of c.order) → P (l.gone ++ l.kept)
  in_order P front all =
      let split = taken_split c.count c.order in
      subst P l.split (front (numbers_in c) split.0 (subst P split.1 all))

  rising : Rising (base_at files) l.kept
  rising = rising_behind (base_at files) l.gone l.kept (in_order (Rising (base_at files)) (rising_front (base_at files)) (order_rises files ns c.order c.ordered))

  once : Once l.kept
  once = once_behind l.gone l.kept (in_order Once once_front (order_once files ns c.order c.ordered apart))

  -- those that begin below the end
  abbrev ks : List ℕ
  ks = upto (base_at files) c.end l.kept

  abbrev qs : List ℕ
  qs = numbers_of d.order

  front : IsFrontOf ks l.kept
  front = upto_front (base_at files) c.end l.kept

  kept_has : (k : ℕ) → Has ks k → Has l.kept k
  kept_has k mine = subst (λ (xs : List ℕ). Has xs k) (sym front.split) (front_has ks front.rest k mine)

  same_base : (k : ℕ) → Has l.kept k → base_at found k ≡ base_at files k
  same_base = found_base files found ms l.kept l.stay

  abbrev only : (q : ℕ) → Has qs q → Has ks q ⊎ (c.end ≤ base_at found q)
  only q mine = ⊎_elim
      (λ (kept : Contains l.kept q).
      let has = has_of l.kept q kept in
      ⊎_elim
      (λ (low : Has ks q). inl low)
      (λ (high : c.end ≤ base_at files q). let same = same_base q has in inr (omega (arith, high, same)))
      (upto_most (base_at files) c.end l.kept rising q has))
      (λ (high : c.end ≤ base_at found q). inr high)
      (l.further q (has_order found ms d.order d.ordered q mine))

  ahead : IsFrontOf ks qs
  ahead = ordered_front (base_at found) c.end ks qs
      (rising_moved (base_at files) (base_at found) ks (λ k mine. same_base k (kept_has k mine)) (rising_front (base_at files) ks front.rest (subst (Rising (base_at files)) front.split rising)))
      (order_rises found ms d.order d.ordered)
      (once_front ks front.rest (subst Once front.split once))
      (order_once found ms d.order d.ordered far)
      (λ k mine. let same = same_base k (kept_has k mine) in omega (arith, upto_low (base_at files) c.end l.kept k mine, same))
      (λ k mine. order_has found ms d.order d.ordered k (found_there files found ms l.kept l.stay k (kept_has k mine)))
      only

  -- the chain of what is found
  further : IsChain (first_of to d.order) (map (part_at found) (ks ++ ahead.rest)) cs d.end d.count
  further = subst (λ (xs : List ℕ). IsChain (first_of to d.order) (map (part_at found) xs) cs d.end d.count) ahead.split
      (subst (λ xs. IsChain (first_of to d.order) xs cs d.end d.count) (parts_numbers found d.order) d.chain)

  -- of the files that are kept there is no batch, or their chain stands in front of the one that is found
  pub fronts : (at : ℕ) (xs : List (List ℕ)) → Through at (map (part_at files) l.kept) xs c.end → (xs ≡ []) ⊎ ((first_of to d.order ≡ at) × IsFrontOf xs cs)
  fronts at xs t = by ks refl
    where
      by : (us : List ℕ) → ks ≡ us → (xs ≡ []) ⊎ ((first_of to d.order ≡ at) × IsFrontOf xs cs)
      by [] is = inl (behind_none files at l.kept xs c.end t is)
      by (u ∷ us) is =
          let is_kept : first_at files c.end l.kept ≡ base_at files u = ap (first_at files c.end) (front.split ∙ ap (λ zs. zs ++ front.rest) is) in
          let is_found : first_at found to qs ≡ base_at found u = ap (first_at found to) (ahead.split ∙ ap (λ zs. zs ++ ahead.rest) is) in
          let mine : Has ks u = subst (λ (zs : List ℕ). Has zs u) (sym is) (inl refl) in
          let first : first_of to d.order ≡ at =
          first_numbers found to d.order (order_said found ms d.order d.ordered) ∙ is_found ∙ same_base u (kept_has u mine) ∙ sym is_kept ∙ first_through files at l.kept xs c.end t in
          inr (
            first,
            chain_on files at l.kept (map (part_at found) (ks ++ ahead.rest)) xs cs c.end d.end d.count t (begin_found files found ms c.end l.kept ahead.rest l.stay)
                (subst (λ (n : ℕ). IsChain n (map (part_at found) (ks ++ ahead.rest)) cs d.end d.count) first further),
          )

  all_through : Through (first_of from c.order) (map (part_at files) (l.gone ++ l.kept)) bs c.end
  all_through = subst (λ (xs : List ℕ). Through (first_of from c.order) (map (part_at files) xs) bs c.end) l.split (through_of files (first_of from c.order) c.order bs c.end c.count c.chain)

  pub none_gone : l.gone ≡ [] → Through (first_of from c.order) (map (part_at files) l.kept) bs c.end
  none_gone is = subst (λ (xs : List ℕ). Through (first_of from c.order) (map (part_at files) (xs ++ l.kept)) bs c.end) is all_through

  pub some_gone : Parted (first_of from c.order) (map (part_at files) l.kept) bs c.end
  some_gone = parted (first_of from c.order) (map (part_at files) l.gone) (map (part_at files) l.kept) bs c.end
      (subst (λ xs. Through (first_of from c.order) xs bs c.end) (map-append (part_at files) l.gone l.kept) all_through)

-- ---- a whole chain

-- where nothing is gone, or nothing but files that end at 0
pub whole_front : (files : Files) (ns : List ℕ) (from : ℕ) (bs : List (List ℕ)) (c : Chain files ns from bs) (found : Files) (ms : List ℕ) (l : LastsIn c 0 found ms) → IsDistinct nat_eq ns → IsDistinct nat_eq ms → (to : ℕ) (cs : List (List ℕ)) → Chain found ms to cs → IsFrontOf bs cs
whole_front files ns from bs c found ms l apart far to cs d = ⊎_elim
    (λ (none : l.gone ≡ []). front (first_of from c.order) bs (none_gone files ns from bs c 0 found ms l apart far to cs d none))
    (λ (low : first_at files c.end l.kept ≤ 0).
    let p = some_gone files ns from bs c 0 found ms l apart far to cs d in
    let is : first_at files c.end l.kept ≡ p.mid = first_through files p.mid l.kept p.behind c.end p.rest in
    let nothing : p.front ≡ [] = run_none (first_of from c.order) p.mid p.front p.run (omega (arith, low, is)) in
    let whole : bs ≡ p.behind = p.split ∙ ap (λ zs. zs ++ p.behind) nothing in
    subst (λ (zs : List (List ℕ)). IsFrontOf zs cs) (sym whole) (front p.mid p.behind p.rest))
    l.below
  where
    front : (at : ℕ) (xs : List (List ℕ)) → Through at (map (part_at files) l.kept) xs c.end → IsFrontOf xs cs
    front at xs t = ⊎_elim
        (λ (none : xs ≡ []). front_none xs cs none)
        (λ (some : (first_of to d.order ≡ at) × IsFrontOf xs cs). some.1)
        (fronts files ns from bs c 0 found ms l apart far to cs d at xs t)

-- ---- a log

module _ (files : Files) (ns : List ℕ) (from first last : ℕ) (list : List (List ℕ)) (i : ComesTo files ns from first last list) (start : ℕ) (later : from ≤ start) (found : Files) (ms : List ℕ) (l : LastsIn i.chain start found ms) (apart : IsDistinct nat_eq ns) (far : IsDistinct nat_eq ms) (first' last' : ℕ) (list' : List (List ℕ)) (j : ComesTo found ms start first' last' list') where
  -- by the batches of the files that are kept
  abbrev log_by : (at : ℕ) (xs : List (List ℕ)) → Through at (map (part_at files) l.kept) xs i.chain.end → starting start list ≡ starting (max at start) xs → (xs ≡ [] → (list ≡ [] → last ≤ start) → last ≤ start) → HasAll start list last list' last'
  log_by at xs t same ends = ⊎_elim
      (λ (none : xs ≡ []). record {
        batches = front_none (starting start list) list' (same ∙ ap (starting (max at start)) none);
        ends = λ known. omega (arith, ends none known, j.ends);
        starts = omega (arith, j.ends);
      })
      (λ (some : (first_of start j.chain.order ≡ at) × IsFrontOf xs j.bs).
      let begins : first' ≡ max at start = j.starts ∙ ap (λ n. max n start) some.0 in
      let run = chain_run (first_of start j.chain.order) (parts_at found j.chain.order) j.bs j.chain.end j.chain.count j.chain.chain in
      let order : i.chain.end ≤ j.chain.end = front_ordered at i.chain.end j.chain.end xs j.bs (through_run at (map (part_at files) l.kept) xs i.chain.end t) (subst (λ (n : ℕ). IsRun n j.bs j.chain.end) some.0 run) some.1 in
      record {
        batches = subst (λ (zs : List (List ℕ)). IsFrontOf zs list') (sym same)
            (subst (λ (zs : List (List ℕ)). IsFrontOf (starting (max at start) xs) zs) (sym (j.batches ∙ ap (λ n. starting n j.bs) begins)) (starting_front (max at start) xs j.bs some.1));
        ends = λ known. omega (arith, order, i.ends, j.ends, later);
        starts = omega (arith, j.ends);
      })
      (fronts files ns from i.bs i.chain start found ms l apart far start j.bs j.chain at xs t)

  twice : starting start list ≡ starting (max start first) i.bs
  twice = ap (starting start) i.batches ∙ starting_twice start first i.bs

  pub log_lasts : HasAll start list last list' last'
  log_lasts = ⊎_elim
      (λ (none : l.gone ≡ []).
      let at = first_of from i.chain.order in
      let is : max start first ≡ max at start = omega (arith, i.starts, later) in
      log_by at i.bs (none_gone files ns from i.bs i.chain start found ms l apart far start j.bs j.chain none) (twice ∙ ap (λ n. starting n i.bs) is)
      (λ wrong known. known (i.batches ∙ ap (starting first) wrong)))
      (λ (low : first_at files i.chain.end l.kept ≤ start).
      let p = some_gone files ns from i.bs i.chain start found ms l apart far start j.bs j.chain in
      let mid : first_at files i.chain.end l.kept ≡ p.mid = first_through files p.mid l.kept p.behind i.chain.end p.rest in
      let order : first_of from i.chain.order ≤ p.mid = run_ordered (first_of from i.chain.order) p.front p.mid p.run in
      let is : max start first ≡ max p.mid start = omega (arith, i.starts, later, low, mid, order) in
      let over : p.mid ≤ max p.mid start = omega arith in
      log_by p.mid p.behind p.rest
      (twice ∙ ap (λ n. starting n i.bs) is ∙ ap (starting (max p.mid start)) p.split ∙ starting_behind (max p.mid start) (first_of from i.chain.order) p.mid p.front p.behind p.run over)
      (λ wrong known.
      let all : p.mid ≡ i.chain.end = subst (λ (zs : List (List ℕ)). IsRun p.mid zs i.chain.end) wrong (through_run p.mid (map (part_at files) l.kept) p.behind i.chain.end p.rest) in
      omega (arith, all, low, mid, i.ends, later)))
      l.below
