-- What a catalog's topics are after a change.
use Rattle.std.proofs.Common.{◌≡◌, ◌∙◌, ◌<◌, ◌+◌, ℕ, zero, suc, cond, List, [], ◌∷◌, ◌++◌, Option, Some, None, Result, Ok, Err, OnOk, OnErr, IfOk, inl, inr, refl, sym, ap, subst, arith}
use Rattle.std.specs.Prelude.{pos, replicate, slice_get, slice_index_or, IfSome, MatchOption}
use Rattle.std.specs.Ordering.{nat_cmp}
use Rattle.std.specs.Map.{keys_of, remove_entry, set_value}
use Rattle.std.specs.BTreeMap.{BTreeMap, get_by_text, is_at, insert_entry}
use Rattle.std.specs.Option.{option_and_then}
use Rattle.kb_topics.specs.Known.{Known, PartitionState, TopicState, topic_at, named, partition_at, new_partition, without_topic, with_part, with_partition, put_topic}
use Rattle.std.specs.List.Sorted.{IsStrictlySortedBy}
use Rattle.std.specs.Str.{bytes_eq}
use Rattle.std.specs.declared.string.String.{String}
use Rattle.kb_topics.specs.Linked.{IsLinked}
use Rattle.kb_topics.proofs.Commits.{removed_inserted}
use Rattle.kb_topics.proofs.Links.{own_number, cases, bytes_same, bytes_alike, named_is, linked_added}

pub replicate_more : {A : Type 0} (n : ℕ) (x : A) → replicate n x ++ x ∷ [] ≡ replicate (n + 1) x
replicate_more zero x = refl
replicate_more (suc n) x =
    let e : suc (n + 1) ≡ suc n + 1 = omega arith in
    ap (λ xs. x ∷ xs) (replicate_more n x) ∙ ap (λ m. replicate m x) e

-- what was put under a new number and taken out
pub remove_inserted : (n : ℕ) (t : TopicState) (ts : List (ℕ × TopicState)) → topic_at n ts ≡ None → remove_entry (is_at (nat_cmp n)) (insert_entry nat_cmp ts n t) ≡ ts
remove_inserted n t ts none = removed_inserted nat_cmp n (own_number n) t ts none

-- a partition that is there
found_part : (ps : List PartitionState) (m : ℕ) (part : PartitionState) → slice_get ps m ≡ Some part → slice_index_or ps m new_partition ≡ part
found_part [] m part e = absurd cc
found_part (p ∷ ps) zero part e = cc
found_part (p ∷ ps) (suc m) part e = found_part ps m part e

part_put : (k : Known) (n m : ℕ) (new : PartitionState → PartitionState) (t : TopicState) (ts' : List (ℕ × TopicState)) (o : Option PartitionState) → topic_at n k.topics ≡ Some t → ts' ≡ set_value (is_at (nat_cmp n)) k.topics (with_part m (new (slice_index_or t.partitions m new_partition)) t) → slice_get t.partitions m ≡ o → IfSome o (λ part. record k { topics = ts' } ≡ with_partition k (pos n) (pos m) (new part))
part_put k n m new t ts' None e f g = tt
part_put k n m new t ts' (Some part) e f g =
    ap (λ us. record k { topics = us }) (f ∙ ap (λ p. set_value (is_at (nat_cmp n)) k.topics (with_part m (new p) t)) (found_part t.partitions m part g))
    ∙ sym (ap (λ o. record k { topics = put_topic n m (new part) k.topics o }) e)

-- a partition that was changed
pub part_set : (k : Known) (n m : ℕ) (new : PartitionState → PartitionState) (t : TopicState) (ts' : List (ℕ × TopicState)) → topic_at n k.topics ≡ Some t → ts' ≡ set_value (is_at (nat_cmp n)) k.topics (with_part m (new (slice_index_or t.partitions m new_partition)) t) → IfSome (partition_at k (pos n) (pos m)) (λ part. record k { topics = ts' } ≡ with_partition k (pos n) (pos m) (new part))
part_set k n m new t ts' e f =
    subst (λ o. IfSome (option_and_then (λ (u : TopicState). slice_get u.partitions m) o) (λ part. record k { topics = ts' } ≡ with_partition k (pos n) (pos m) (new part))) (sym e)
    (part_put k n m new t ts' (slice_get t.partitions m) e f refl)

held_by : (ps : List PartitionState) (m : ℕ) (P : PartitionState → Type 0) (o : Option PartitionState) → slice_get ps m ≡ o → P (slice_index_or ps m new_partition) → IfSome o P
held_by ps m P None e h = tt
held_by ps m P (Some part) e h = subst P (found_part ps m part e) h

-- what holds of a topic's partition
pub part_holds : (k : Known) (n m : ℕ) (t : TopicState) (P : PartitionState → Type 0) → topic_at n k.topics ≡ Some t → P (slice_index_or t.partitions m new_partition) → IfSome (partition_at k (pos n) (pos m)) P
part_holds k n m t P e h =
    subst (λ o. IfSome (option_and_then (λ (u : TopicState). slice_get u.partitions m) o) P) (sym e) (held_by t.partitions m P (slice_get t.partitions m) refl h)

-- a change that may be refused keeps the name
pub name_kept : {T E : Type 0} (r : Result T E) (t u : TopicState) (m : ℕ) (part : PartitionState) → OnOk r (u ≡ with_part m part t) → OnErr r (u ≡ t) → u.name ≡ t.name
name_kept (Ok x) t u m part h g = ap (λ (v : TopicState). v.name) h
name_kept (Err f) t u m part h g = ap (λ (v : TopicState). v.name) g

pub on_ok_then : {T E P Q : Type 0} (r : Result T E) → (P → Q) → OnOk r P → OnOk r Q
on_ok_then (Ok x) f h = f h
on_ok_then (Err e) f h = tt

pub on_err_then : {T E P Q : Type 0} (r : Result T E) → (P → Q) → OnErr r P → OnErr r Q
on_err_then (Ok x) f h = tt
on_err_then (Err e) f h = f h

pub if_ok_then : {T E : Type 0} (P Q : T → Type 0) (r : Result T E) → ((x : T) → P x → Q x) → IfOk r P → IfOk r Q
if_ok_then P Q (Ok x) f h = f x h
if_ok_then P Q (Err e) f h = tt

-- ---- what a removal by name leaves

pub not_removed : (k k' : Known) (o : Option ℕ) → o ≡ None → k' ≡ k → MatchOption o (k' ≡ k) (λ i. k' ≡ without_topic k i)
not_removed k k' None e f = f
not_removed k k' (Some i) e f = absurd cc

pub was_removed : (k k' : Known) (o : Option ℕ) (i : ℕ) → o ≡ Some i → k' ≡ without_topic k i → MatchOption o (k' ≡ k) (λ i. k' ≡ without_topic k i)
was_removed k k' None i e f = absurd cc
was_removed k k' (Some j) i e f = f ∙ ap (without_topic k) (let same : i ≡ j = cc in same)

-- the instance that was taken out is no topic's
pub gone_removed : (k k' : Known) (o : Option ℕ) (i : ℕ) → o ≡ Some i → MatchOption o (k' ≡ k) (λ i. k' ≡ without_topic k i) → k' ≡ without_topic k i
gone_removed k k' None i e f = absurd cc
gone_removed k k' (Some j) i e f = f ∙ ap (without_topic k) (let same : j ≡ i = cc in same)

pub gone_none : (o : Option ℕ) (ts : List (ℕ × TopicState)) → o ≡ None → IfSome o (λ i. topic_at i ts ≡ None)
gone_none None ts e = tt
gone_none (Some i) ts e = absurd cc

pub gone_some : (o : Option ℕ) (i : ℕ) (ts : List (ℕ × TopicState)) → o ≡ Some i → topic_at i ts ≡ None → IfSome o (λ i. topic_at i ts ≡ None)
gone_some None i ts e f = tt
gone_some (Some j) i ts e f = subst (λ k. topic_at k ts ≡ None) (let same : i ≡ j = cc in same) f

pub gone_at : (o : Option ℕ) (i : ℕ) (ts : List (ℕ × TopicState)) → o ≡ Some i → IfSome o (λ i. topic_at i ts ≡ None) → topic_at i ts ≡ None
gone_at None i ts e f = absurd cc
gone_at (Some j) i ts e f = subst (λ k. topic_at k ts ≡ None) (let same : j ≡ i = cc in same) f

abbrev pub known_of : List (ℕ × TopicState) → ℕ → ℕ → Known
known_of ts n m = record { topics = ts; creates = n; issues = m }

-- ---- names, before and after

-- a name that was put and taken out
pub names_back : (f g h : List ℕ → Option ℕ) (key name : List ℕ) (n : ℕ) → ((q : List ℕ) → g q ≡ cond (bytes_eq key q) (Some n) (f q)) → key ≡ name → ((q : List ℕ) → h q ≡ cond (bytes_eq name q) None (g q)) → f name ≡ None → (q : List ℕ) → h q ≡ f q
names_back f g h key name n put same taken none q =
    elim (cases (bytes_eq name q)) [
      | inl b ↦ taken q ∙ ap (λ c. cond c None (g q)) b ∙ sym none ∙ ap f (bytes_same name q b)
      | inr b ↦ taken q ∙ ap (λ c. cond c None (g q)) b ∙ put q ∙ ap (λ k. cond (bytes_eq k q) (Some n) (f q)) same ∙ ap (λ c. cond c (Some n) (f q)) b
    ]

-- one more topic, and its name
pub linked_inserted : {Y : Type 0} (names names' : BTreeMap (String Y) ℕ) (ts ts' : List (ℕ × TopicState)) (n j : ℕ) (t : TopicState) (key name : List ℕ) → IsLinked names ts n → j < n → topic_at j ts ≡ None → IsStrictlySortedBy nat_cmp (keys_of ts') → ((i : ℕ) → topic_at i ts' ≡ cond (is_at (nat_cmp j) i) (Some t) (topic_at i ts)) → ((q : List ℕ) → get_by_text names' q ≡ cond (bytes_eq key q) (Some j) (get_by_text names q)) → key ≡ name → t.name ≡ name → named name ts ≡ None → IsLinked names' ts' n × (named name ts' ≡ Some j)
linked_inserted names names' ts ts' n j t key name l given free s u v same own none =
    let absent : get_by_text names t.name ≡ None = ap (get_by_text names) own ∙ named_is names ts n l name ∙ none in
    let link : IsLinked names' ts' n = linked_added names ts n l j given free names' ts' t s u (λ q. v q ∙ ap (λ k. cond (bytes_eq k q) (Some j) (get_by_text names q)) (same ∙ sym own)) absent in
    (link, sym (named_is names' ts' n link name) ∙ v name ∙ ap (λ b. cond b (Some j) (get_by_text names name)) (bytes_alike key name same))
