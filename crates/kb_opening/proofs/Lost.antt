-- What files come to, those that are left come to, also where others change.
use Rattle.std.proofs.Common.{◌≡◌, ◌∙◌, ◌∷◌, [], ℕ, zero, suc, Bool, true, false, cond, List, refl, sym, ap, subst, arith}
use Rattle.std.specs.Prelude.{is_some, filter, IsSome, IsPermutation}
use Rattle.std.specs.FinMap.{get}
use Rattle.std.specs.List.{All, Contains}
use Rattle.std.proofs.lemmas.Bool.{false≢true}
use Rattle.std.proofs.lemmas.List.Elements.{All-contains_itself}
use Rattle.std.proofs.lemmas.List.Sorted.{IsPermutation-trans, IsPermutation-map}
use Rattle.kb_store.specs.Disk.{Disk, Table, Files, IsThere}
use Rattle.kb_log.specs.Log.{starting}
use Rattle.kb_segment_log.specs.SegmentLog.{Clears}
use Rattle.kb_segment_log.specs.Chain.{Chain, ComesTo, place_at, first_of, parts_at, remaining, LosesNothing}
use Rattle.kb_segment_log.proofs.Remaining.{all_there, permutation_filter}
use Rattle.kb_topics.specs.Known.{Known}
use Rattle.kb_opening.specs.Opened.{ComesToKnown, IsLongestFold}
use Rattle.kb_opening.specs.Catalog.{LosesNoCommand}
use Rattle.kb_opening.proofs.Catalogs.{chain_run, starting_all, max_zero}
use Rattle.kb_opening.proofs.Moved.{Agree, chain_stays}

-- ---- those that are there

contains_cons : (n m : ℕ) (ns : List ℕ) → Contains ns n → Contains (m ∷ ns) n
contains_cons n m ns (k, l, e) = (suc k, omega (arith, l), e)

-- one that passes stands among all
pub of_filter : (p : ℕ → Bool) (ns : List ℕ) (n : ℕ) → Contains (filter p ns) n → Contains ns n
of_filter p [] n has = has
of_filter p (m ∷ ns) n has = each (p m) has (λ rest. of_filter p ns n rest)
  where
    each : (t : Bool) → Contains (cond t (m ∷ filter p ns) (filter p ns)) n → (Contains (filter p ns) n → Contains ns n) → Contains (m ∷ ns) n
    each true (zero, l, e) rec = (zero, omega arith, e)
    each true (suc k, l, e) rec = contains_cons n m ns (rec (k, omega (arith, l), e))
    each false has rec = contains_cons n m ns (rec has)

-- two tests that agree on all of them
pub filter_same : (p q : ℕ → Bool) (ns : List ℕ) → ((n : ℕ) → Contains ns n → p n ≡ q n) → filter p ns ≡ filter q ns
filter_same p q [] same = refl
filter_same p q (n ∷ ns) same =
    ap (λ t. cond t (n ∷ filter p ns) (filter p ns)) (same n (zero, omega arith, refl)) ∙ ap (λ xs. cond (q n) (n ∷ xs) xs) (filter_same p q ns (λ m has. same m (contains_cons m n ns has)))

pub remaining_same : (d e : Table) (ns : List ℕ) → ((n : ℕ) → Contains ns n → get e n ≡ get d n) → remaining e ns ≡ remaining d ns
remaining_same d e ns same = filter_same (λ n. is_some (get e n)) (λ n. is_some (get d n)) ns (λ n has. ap (λ o. is_some o) (same n has))

-- those that are left later are among those that were left before
pub remaining_twice : (d e : Table) (ns : List ℕ) → ((n : ℕ) → IsSome (get e n) → IsSome (get d n)) → remaining e (remaining d ns) ≡ remaining e ns
remaining_twice d e [] was = refl
remaining_twice d e (n ∷ ns) was = each (is_some (get d n)) refl (remaining_twice d e ns was)
  where
    none : (t : Bool) → is_some (get d n) ≡ false → is_some (get e n) ≡ t → remaining e ns ≡ cond t (n ∷ remaining e ns) (remaining e ns)
    none true is there = absurd (false≢true (sym is ∙ was n there))
    none false is there = refl

    each : (t : Bool) → is_some (get d n) ≡ t → remaining e (remaining d ns) ≡ remaining e ns → remaining e (cond t (n ∷ remaining d ns) (remaining d ns)) ≡ cond (is_some (get e n)) (n ∷ remaining e ns) (remaining e ns)
    each true is rec = ap (λ xs. cond (is_some (get e n)) (n ∷ xs) xs) rec
    each false is rec = rec ∙ none (is_some (get e n)) is refl

-- ---- where others change

module _ (P : Files → List ℕ → Type 0) (stays : (f g : Files) (ns : List ℕ) → Agree ns f g → P f ns → P g ns) (owns : ℕ → Type 0) (ns : List ℕ) where
  else_of : (d e : Disk) → All (λ n. IsThere d n) ns → Clears owns d e → ((n : ℕ) → Contains ns n → owns n → ⊥) → e.honest → P d.files ns → P e.files (remaining e.table ns)
  else_of d e there c far h p =
      let here : All (λ n. IsThere e n) ns = λ k x l. subst (λ o. IsSome o) (sym (c.lengths _ (far _ (All-contains_itself ns k x l)))) (there k x l) in
      subst (λ (xs : List ℕ). P e.files xs) (sym (all_there e.table ns here)) (stays d.files e.files ns (λ n has. c.contents h n (far n has)) p)

  then_of : (d e f : Disk) → Clears owns e f → ((n : ℕ) → Contains ns n → owns n → ⊥) → f.honest → (P d.files ns → P e.files (remaining e.table ns)) → P d.files ns → P f.files (remaining f.table ns)
  then_of d e f c far h lost p =
      let same = remaining_same e.table f.table ns (λ n has. c.lengths n (far n has)) in
      subst (λ (xs : List ℕ). P f.files xs) (sym same) (stays e.files f.files (remaining e.table ns) (λ n has. c.contents h n (far n (of_filter (λ m. is_some (get e.table m)) ns n has))) (lost p))

  from_of : (d e f : Disk) → Clears owns d e → ((n : ℕ) → Contains ns n → owns n → ⊥) → e.honest → (P e.files ns → P f.files (remaining f.table ns)) → P d.files ns → P f.files (remaining f.table ns)
  from_of d e f c far h lost p = lost (stays d.files e.files ns (λ n has. c.contents h n (far n has)) p)

pub comes_stays : (start first last : ℕ) (list : List (List ℕ)) (f g : Files) (ns : List ℕ) → Agree ns f g → ComesTo f ns start first last list → ComesTo g ns start first last list
comes_stays start first last list f g ns same c = record { bs = c.bs; chain = chain_stays f g ns same start c.bs c.chain; starts = c.starts; ends = c.ends; batches = c.batches }

pub known_stays : (generation : ℕ) (k : Known) (f g : Files) (ns : List ℕ) → Agree ns f g → ComesToKnown f ns generation k → ComesToKnown g ns generation k
known_stays generation k f g ns same c = record { commands = c.commands; chain = chain_stays f g ns same 0 c.commands c.chain; known = c.known }

module _ (owns : ℕ → Type 0) (ns : List ℕ) (start : ℕ) where
  pub log_else : (d e : Disk) → All (λ n. IsThere d n) ns → Clears owns d e → ((n : ℕ) → Contains ns n → owns n → ⊥) → e.honest → LosesNothing ns start d e
  log_else d e there c far h = λ first last list. else_of (λ f xs. ComesTo f xs start first last list) (comes_stays start first last list) owns ns d e there c far h

  pub log_then : (d e f : Disk) → Clears owns e f → ((n : ℕ) → Contains ns n → owns n → ⊥) → f.honest → LosesNothing ns start d e → LosesNothing ns start d f
  log_then d e f c far h lost = λ first last list. then_of (λ f xs. ComesTo f xs start first last list) (comes_stays start first last list) owns ns d e f c far h (lost first last list)

  pub log_from : (d e f : Disk) → Clears owns d e → ((n : ℕ) → Contains ns n → owns n → ⊥) → e.honest → LosesNothing ns start e f → LosesNothing ns start d f
  log_from d e f c far h lost = λ first last list. from_of (λ f xs. ComesTo f xs start first last list) (comes_stays start first last list) owns ns d e f c far h (lost first last list)

-- nothing changes
pub log_still : (ns : List ℕ) (start : ℕ) (d : Disk) → All (λ n. IsThere d n) ns → LosesNothing ns start d d
log_still ns start d there = λ first last list c. subst (λ (xs : List ℕ). ComesTo d.files xs start first last list) (sym (all_there d.table ns there)) c

pub known_then : (owns : ℕ → Type 0) (ns : List ℕ) (generation : ℕ) (d e f : Disk) → Clears owns e f → ((n : ℕ) → Contains ns n → owns n → ⊥) → f.honest → LosesNoCommand ns generation d e → LosesNoCommand ns generation d f
known_then owns ns generation d e f c far h lost = λ k. then_of (λ f xs. ComesToKnown f xs generation k) (known_stays generation k) owns ns d e f c far h (lost k)

pub known_from : (owns : ℕ → Type 0) (ns : List ℕ) (generation : ℕ) (d e f : Disk) → Clears owns d e → ((n : ℕ) → Contains ns n → owns n → ⊥) → e.honest → LosesNoCommand ns generation e f → LosesNoCommand ns generation d f
known_from owns ns generation d e f c far h lost = λ k. from_of (λ f xs. ComesToKnown f xs generation k) (known_stays generation k) owns ns d e f c far h (lost k)

pub known_still : (ns : List ℕ) (generation : ℕ) (d : Disk) → All (λ n. IsThere d n) ns → LosesNoCommand ns generation d d
known_still ns generation d there = λ k c. subst (λ (xs : List ℕ). ComesToKnown d.files xs generation k) (sym (all_there d.table ns there)) c

-- what files come to that did not change, they came to before
pub known_back : (owns : ℕ → Type 0) (ns : List ℕ) (generation : ℕ) (k : Known) (d e : Disk) → All (λ n. IsThere d n) ns → Clears owns d e → ((n : ℕ) → Contains ns n → owns n → ⊥) → e.honest
    → ComesToKnown e.files (remaining e.table ns) generation k → ComesToKnown d.files ns generation k
known_back owns ns generation k d e there c far h comes =
    let here : All (λ n. IsThere e n) ns = λ j x l. subst (λ o. IsSome o) (sym (c.lengths _ (far _ (All-contains_itself ns j x l)))) (there j x l) in
    known_stays generation k e.files d.files ns (λ n has. sym (c.contents h n (far n has))) (subst (λ (xs : List ℕ). ComesToKnown e.files xs generation k) (all_there e.table ns here) comes)

-- ---- in another order

abbrev pub chain_moved : (files : Files) (ns ms : List ℕ) (start : ℕ) (bs : List (List ℕ)) → IsPermutation ms ns → Chain files ns start bs → Chain files ms start bs
chain_moved files ns ms start bs moved c = record {
  order = c.order;
  ordered = record { these = IsPermutation-trans _ _ _ (IsPermutation-map (place_at files) ms ns moved) c.ordered.these; sorted = c.ordered.sorted };
  end = c.end;
  count = c.count;
  chain = c.chain;
}

pub known_moved : (files : Files) (ns ms : List ℕ) (generation : ℕ) (k : Known) → IsPermutation ms ns → ComesToKnown files ns generation k → ComesToKnown files ms generation k
known_moved files ns ms generation k moved c = record { commands = c.commands; chain = chain_moved files ns ms 0 c.commands moved c.chain; known = c.known }

-- those that are left of a log's files, and those that are left of all
pub left_moved : (d e : Table) (ns ms : List ℕ) → ((n : ℕ) → IsSome (get e n) → IsSome (get d n)) → IsPermutation (remaining d ns) ms → IsPermutation (remaining e ns) (remaining e ms)
left_moved d e ns ms was moved = subst (λ (xs : List ℕ). IsPermutation xs (remaining e ms)) (remaining_twice d e ns was) (permutation_filter (λ n. is_some (get e n)) (remaining d ns) ms moved)

-- ---- a catalog's

-- from 0 on a log has its whole chain
pub whole_chain : (files : Files) (ns : List ℕ) (first last : ℕ) (list : List (List ℕ)) (c : ComesTo files ns 0 first last list) → list ≡ c.bs
whole_chain files ns first last list c =
    let at = first_of 0 c.chain.order in
    c.batches ∙ ap (λ n. starting n c.bs) (c.starts ∙ max_zero at) ∙ starting_all at c.bs c.chain.end (chain_run at (parts_at files c.chain.order) c.bs c.chain.end c.chain.count c.chain.chain)

pub known_of : (files : Files) (ns : List ℕ) (first last : ℕ) (list : List (List ℕ)) (generation : ℕ) (k : Known) → ComesTo files ns 0 first last list → IsLongestFold generation list k → ComesToKnown files ns generation k
known_of files ns first last list generation k c fold = record { commands = c.bs; chain = c.chain; known = subst (λ (x : List (List ℕ)). IsLongestFold generation x k) (whole_chain files ns first last list c) fold }

comes_of : (files : Files) (ns : List ℕ) (commands : List (List ℕ)) (c : Chain files ns 0 commands) → ComesTo files ns 0 (first_of 0 c.order) c.end commands
comes_of files ns commands c =
    let at = first_of 0 c.order in
    record {
      bs = commands;
      chain = c;
      starts = sym (max_zero at);
      ends = sym (max_zero c.end);
      batches = sym (starting_all at commands c.end (chain_run at (parts_at files c.order) commands c.end c.count c.chain));
    }

pub no_command_lost : (ns : List ℕ) (generation : ℕ) (d e : Disk) → LosesNothing ns 0 d e → LosesNoCommand ns generation d e
no_command_lost ns generation d e lost = λ k c. known_of e.files (remaining e.table ns) _ _ c.commands generation k (lost _ _ c.commands (comes_of d.files ns c.commands c.chain)) c.known
