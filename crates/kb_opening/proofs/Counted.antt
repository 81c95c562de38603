-- Each topic has as many partitions as the catalog says.
use Rattle.std.proofs.Common.{◌≡◌, ◌∙◌, ◌≤◌, ◌<◌, ℕ, Bool, true, false, cond, T, List, [], ◌∷◌, Option, Some, None, refl, sym, ap, subst, arith, map, length}
use Rattle.std.specs.Prelude.{option_map, nat_lt, ◌&&◌}
use Rattle.std.specs.Ordering.{nat_cmp, is_lt, eq_by_cmp}
use Rattle.std.specs.FinMap.Entries.{find, is_sorted, below_all, same_entries}
use Rattle.std.specs.List.{AllByRecursion}
use Rattle.std.specs.List.Sorted.{IsStrictlySortedBy}
use Rattle.std.specs.Map.{keys_of, lookup}
use Rattle.std.specs.BTreeMap.{is_at}
use Rattle.std.specs.declared.cmp.Ordering.TheVariants.{Less}
use Rattle.std.specs.declared.alloc.Global.{Global}
use Rattle.std.specs.declared.vec.Vec.{Vec}
use Rattle.std.proofs.lemmas.Bool.Decides.{nat_tests}
use Rattle.std.proofs.lemmas.Cmp.{nat_cmp_total}
use Rattle.std.proofs.lemmas.Map.Keys.{sorted_head, sorted_tail}
use Rattle.std.proofs.lemmas.Map.Lookups.{exact_unsigned}
use Rattle.std.proofs.lemmas.Map.Made.{lookup-map_values}
use Rattle.std.proofs.Math.ListN.{length-map}
use Rattle.std.proofs.lemmas.Option.{none-some, same_Some}
use Rattle.kb_store.specs.Disk.{Files}
use Rattle.kb_log.specs.OnShelf.{Log}
use Rattle.kb_topics.specs.Known.{Known, TopicState, topic_at}
use Rattle.kb_tenant_state.specs.Partitions.{Entries, log_state, logs_of, places_of}
use Rattle.kb_tenant_state.specs.declared.partition.Partition.{Partition}
use Rattle.kb_tenant_state.specs.Tied.{counted, partition_count}
use Rattle.kb_opening.proofs.Below.{counts_below}

-- ---- lists of entries with the same look-ups

find_is : {X : Type 0} (q : ℕ) (es : List (ℕ × X)) → find nat_cmp q es ≡ lookup (is_at (nat_cmp q)) es
find_is q [] = refl
find_is q (e ∷ es) = ap (cond (eq_by_cmp nat_cmp q e.0) (Some e.1)) (find_is q es)

both : (a b : Bool) → T a → T b → T (a && b)
both true b p q = q
both false b p q = absurd p

below_each : {X : Type 0} (x : ℕ) (es : List (ℕ × X)) → AllByRecursion (λ y. nat_cmp x y ≡ Less) (keys_of es) → T (below_all nat_cmp x es)
below_each x [] all = tt
below_each x (e ∷ es) all = both _ _ (subst (λ o. T (is_lt o)) (sym all.0) tt) (below_each x es all.1)

rises : {X : Type 0} (es : List (ℕ × X)) → IsStrictlySortedBy nat_cmp (keys_of es) → T (is_sorted nat_cmp es)
rises [] s = tt
rises (e ∷ es) s = both _ _ (below_each e.0 es (sorted_head nat_cmp e.0 (keys_of es) s)) (rises es (sorted_tail nat_cmp e.0 (keys_of es) s))

same_lists : {X : Type 0} (es fs : List (ℕ × X)) → IsStrictlySortedBy nat_cmp (keys_of es) → IsStrictlySortedBy nat_cmp (keys_of fs)
    → ((j : ℕ) → lookup (is_at (nat_cmp j)) es ≡ lookup (is_at (nat_cmp j)) fs) → es ≡ fs
same_lists es fs s r same = same_entries nat_cmp nat_cmp_total exact_unsigned es fs (rises es s) (rises fs r) (λ q. find_is q es ∙ same q ∙ sym (find_is q fs))

keys_seen : {A B : Type 0} (f : A → B) (es : List (ℕ × A)) → keys_of (map (λ e. (let p : ℕ × B = (e.0, f e.1) in p)) es) ≡ keys_of es
keys_seen f [] = refl
keys_seen f (e ∷ es) = ap (λ ks. e.0 ∷ ks) (keys_seen f es)

-- ---- the topics

-- below the next instance all topics stand
counts_all : (k : Known) → ((i : ℕ) (t : TopicState) → topic_at i k.topics ≡ Some t → i < k.creates) → (j : ℕ) → counts_below k k.creates j ≡ option_map partition_count (topic_at j k.topics)
counts_all k below j = by (topic_at j k.topics) refl
  where
    by : (o : Option TopicState) → topic_at j k.topics ≡ o → cond {A = Option ℕ} (nat_lt j k.creates) (option_map partition_count o) None ≡ option_map partition_count o
    by None e = elim (nat_lt j k.creates) as (λ b. cond {A = Option ℕ} b None None ≡ None) [ true ↦ refl | false ↦ refl ]
    by (Some t) e = let lt = below j t e in ap (λ b. cond {A = Option ℕ} b (Some (partition_count t)) None) (let yes : nat_lt j k.creates ≡ true = grind (arith, nat_tests) in yes)

pub places_tied : {L : Type 0} (k : Known) (es : Entries L) → ((i : ℕ) (t : TopicState) → topic_at i k.topics ≡ Some t → i < k.creates) → IsStrictlySortedBy nat_cmp (keys_of k.topics) → IsStrictlySortedBy nat_cmp (keys_of es)
    → ((j : ℕ) → lookup (is_at (nat_cmp j)) (places_of es) ≡ counts_below k k.creates j) → places_of es ≡ counted partition_count k.topics
places_tied {L} k es below ordered rising places =
    same_lists (places_of es) (counted partition_count k.topics)
    (subst (IsStrictlySortedBy nat_cmp) (sym (keys_seen (λ (t : Vec (Partition L) Global). length t.items) es)) rising)
    (subst (IsStrictlySortedBy nat_cmp) (sym (keys_seen partition_count k.topics)) ordered)
    (λ j. places j ∙ counts_all k below j ∙ sym (lookup-map_values partition_count (is_at (nat_cmp j)) k.topics))

-- a tenant sees as many logs of each topic as it has partitions
pub logs_counted : {L : Type 0} (log : L → Log) (es : Entries L) (files : Files) → counted length (logs_of log es files) ≡ places_of es
logs_counted log [] files = refl
logs_counted {L} log (e ∷ es) files =
    let many : length (map (λ (x : Partition L). log_state (log x.log) files) e.1.items) ≡ length e.1.items = length-map e.1.items (λ (x : Partition L). log_state (log x.log) files) in
    λ i. (e.0, many i) ∷ logs_counted log es files i

-- what is asked of them

pub none_beyond : (k : Known) (j : ℕ) → k.creates ≤ j → counts_below k k.creates j ≡ None
none_beyond k j le = ap (λ b. cond b (option_map partition_count (topic_at j k.topics)) None) (let no : nat_lt j k.creates ≡ false = grind (arith, nat_tests) in no)

pub few_each : (k : Known) → ((i : ℕ) (t : TopicState) → topic_at i k.topics ≡ Some t → i < k.creates) → ((i : ℕ) (t : TopicState) → topic_at i k.topics ≡ Some t → length t.partitions ≤ 64)
    → (j count : ℕ) → counts_below k k.creates j ≡ Some count → count ≤ 64
few_each k below small j count e = by (topic_at j k.topics) refl (sym (counts_all k below j) ∙ e)
  where
    by : (o : Option TopicState) → topic_at j k.topics ≡ o → option_map partition_count o ≡ Some count → count ≤ 64
    by None is none = absurd (none-some count none)
    by (Some t) is some = subst (λ c. c ≤ 64) (same_Some (partition_count t) count some) (small j t is)
