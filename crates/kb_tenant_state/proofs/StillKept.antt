-- How long no partition has anything to drop, after a change of the topics or the logs.
use Rattle.std.proofs.Common.{◌≡◌, ◌∙◌, inl, inr, ⊎_elim, ◌≤ℤ◌, ℕ, ℤ, zero, suc, pos, negsuc, Bool, true, false, cond, List, [], ◌∷◌, Option, Some, None, refl, sym, ap, subst, arith, eqb-true}
use Rattle.std.proofs.lemmas.Int.{ints}
use Rattle.std.specs.Prelude.{replicate, int_le, slice_get, slice_set}
use Rattle.std.specs.Option.{option_and_then}
use Rattle.std.specs.declared.cmp.Ordering.{Ordering}
use Rattle.std.specs.declared.cmp.Ordering.TheVariants.{Less, Equal, Greater}
use Rattle.std.specs.Ordering.{nat_cmp, is_eq, match_ordering}
use Rattle.std.specs.Cmp.{unsigned_tied}
use Rattle.std.specs.Map.{lookup, remove_entry, set_value}
use Rattle.std.specs.BTreeMap.{insert_entry, is_at}
use Rattle.kb_batch.specs.Batch.{natural}
use Rattle.kb_log.specs.Log.{IsKeptUntil, retained_start}
use Rattle.kb_topics.specs.Commands.{start_command}
use Rattle.kb_topics.specs.Known as topics
use Rattle.kb_topics.specs.Known.{Known, PartitionState, TopicState, put_topic, step, topic_at, with_part, with_partition, with_start, without_topic}
use Rattle.kb_topics.specs.declared.config.TopicConfig.{TopicConfig}
use Rattle.kb_tenant_state.specs.Logs.{Logs, LogState, dropped, log_at, no_log, put_log, with_log, with_new_logs, without_below, without_logs}
use Rattle.kb_tenant_state.proofs.Put.{cases, lookup_put, other_number, own_number}
use Rattle.kb_tenant_state.specs.RetentionTime.{AreAllKept, IsKeptAt}
use Rattle.kb_tenant_state.specs.World.{World}
use Rattle.kb_tenant_state.specs.declared.topic_partition.TopicPartition.{TopicPartition}

same_number : (k i : ℕ) → is_at (nat_cmp k) i ≡ true → k ≡ i
same_number k i e = eqb-true k i (sym (unsigned_tied k i) ∙ e)

not_at : (i j k : ℕ) → is_at (nat_cmp i) k ≡ true → (j ≡ i → ⊥) → is_at (nat_cmp j) k ≡ false
not_at i j k here ne = elim (cases (is_at (nat_cmp j) k)) [
  | inl b ↦ absurd (ne (same_number j k b ∙ sym (same_number i k here)))
  | inr b ↦ b
]

-- ---- entries

pub other_removed : {A : Type 0} (i j : ℕ) (es : List (ℕ × A)) → (j ≡ i → ⊥) → lookup (is_at (nat_cmp j)) (remove_entry (is_at (nat_cmp i)) es) ≡ lookup (is_at (nat_cmp j)) es
other_removed i j [] ne = refl
other_removed i j (e ∷ es) ne = by (is_at (nat_cmp i) e.0) refl (other_removed i j es ne)
  where
    by : (b : Bool) → is_at (nat_cmp i) e.0 ≡ b → lookup (is_at (nat_cmp j)) (remove_entry (is_at (nat_cmp i)) es) ≡ lookup (is_at (nat_cmp j)) es
        → lookup (is_at (nat_cmp j)) (cond b es (e ∷ remove_entry (is_at (nat_cmp i)) es)) ≡ lookup (is_at (nat_cmp j)) (e ∷ es)
    by true here h = sym (ap (λ b. cond b (Some e.1) (lookup (is_at (nat_cmp j)) es)) (not_at i j e.0 here ne))
    by false here h = ap (λ o. cond (is_at (nat_cmp j) e.0) (Some e.1) o) h

pub inserted_here : {A : Type 0} (n : ℕ) (v : A) (es : List (ℕ × A)) → lookup (is_at (nat_cmp n)) (insert_entry nat_cmp es n v) ≡ Some v
inserted_here n v [] = ap (λ b. cond b (Some v) None) (own_number n)
inserted_here n v (e ∷ es) = by (nat_cmp n e.0) refl (inserted_here n v es)
  where
    by : (o : Ordering) → nat_cmp n e.0 ≡ o → lookup (is_at (nat_cmp n)) (insert_entry nat_cmp es n v) ≡ Some v
        → lookup (is_at (nat_cmp n)) (match_ordering o ((n, v) ∷ e ∷ es) ((e.0, v) ∷ es) (e ∷ insert_entry nat_cmp es n v)) ≡ Some v
    by Less s h = ap (λ b. cond b (Some v) (lookup (is_at (nat_cmp n)) (e ∷ es))) (own_number n)
    by Equal s h = ap (λ b. cond b (Some v) (lookup (is_at (nat_cmp n)) es)) (ap is_eq s)
    by Greater s h = ap (λ b. cond b (Some e.1) (lookup (is_at (nat_cmp n)) (insert_entry nat_cmp es n v))) (ap is_eq s) ∙ h

pub inserted_other : {A : Type 0} (n j : ℕ) (v : A) (es : List (ℕ × A)) → (j ≡ n → ⊥) → lookup (is_at (nat_cmp j)) (insert_entry nat_cmp es n v) ≡ lookup (is_at (nat_cmp j)) es
inserted_other n j v [] ne = ap (λ b. cond b (Some v) None) (not_at n j n (own_number n) ne)
inserted_other n j v (e ∷ es) ne = by (nat_cmp n e.0) refl (inserted_other n j v es ne)
  where
    by : (o : Ordering) → nat_cmp n e.0 ≡ o → lookup (is_at (nat_cmp j)) (insert_entry nat_cmp es n v) ≡ lookup (is_at (nat_cmp j)) es
        → lookup (is_at (nat_cmp j)) (match_ordering o ((n, v) ∷ e ∷ es) ((e.0, v) ∷ es) (e ∷ insert_entry nat_cmp es n v)) ≡ lookup (is_at (nat_cmp j)) (e ∷ es)
    by Less s h = ap (λ b. cond b (Some v) (lookup (is_at (nat_cmp j)) (e ∷ es))) (not_at n j n (own_number n) ne)
    by Equal s h =
        let past = not_at n j e.0 (ap is_eq s) ne in
        ap (λ b. cond b (Some v) (lookup (is_at (nat_cmp j)) es)) past ∙ sym (ap (λ b. cond b (Some e.1) (lookup (is_at (nat_cmp j)) es)) past)
    by Greater s h = ap (λ o. cond (is_at (nat_cmp j) e.0) (Some e.1) o) h

get_other : {A : Type 0} (xs : List A) (p q : ℕ) (y z : A) → (q ≡ p → ⊥) → slice_get (slice_set xs p y) q ≡ Some z → slice_get xs q ≡ Some z
get_other [] p q y z ne at = at
get_other (x ∷ xs) zero zero y z ne at = absurd (ne refl)
get_other (x ∷ xs) zero (suc q) y z ne at = at
get_other (x ∷ xs) (suc p) zero y z ne at = at
get_other (x ∷ xs) (suc p) (suc q) y z ne at = get_other xs p q y z (λ same. ne (ap suc same)) at

-- ---- logs

-- the log of another partition is as before
pub other_log : (i p : ℕ) (new : LogState) (ls : Logs) (j q : ℕ) (l : LogState) → ((j ≡ i) × (q ≡ p) → ⊥) → log_at j q (with_log i p new ls) ≡ Some l → log_at j q ls ≡ Some l
other_log i p new ls j q l ne at = by (lookup (is_at (nat_cmp i)) ls) refl at
  where
    among : (t : List LogState) → lookup (is_at (nat_cmp i)) ls ≡ Some t → (o : Option (List LogState)) → lookup (is_at (nat_cmp j)) (set_value (is_at (nat_cmp i)) ls (slice_set t p new)) ≡ o
        → option_and_then (λ (u : List LogState). slice_get u q) o ≡ Some l → log_at j q ls ≡ Some l
    among t e None a b = absurd cc
    among t e (Some u) a b =
        ⊎_elim
        (λ s. ap (option_and_then (λ (x : List LogState). slice_get x q)) (ap (λ k. lookup (is_at (nat_cmp k)) ls) s.0 ∙ e)
        ∙ get_other t p q new l (λ same. ne (s.0, same)) (ap (λ (x : List LogState). slice_get x q) (sym s.1) ∙ b))
        (λ o. ap (option_and_then (λ (x : List LogState). slice_get x q)) o.1 ∙ b)
        (lookup_put ls i j t (slice_set t p new) u e a)

    by : (o : Option (List LogState)) → lookup (is_at (nat_cmp i)) ls ≡ o → log_at j q (put_log i p new ls o) ≡ Some l → log_at j q ls ≡ Some l
    by None e a = a
    by (Some t) e a = among t e (lookup (is_at (nat_cmp j)) (set_value (is_at (nat_cmp i)) ls (slice_set t p new))) refl a

pub other_below : (i p : ℕ) (start : ℤ) (o : Option LogState) (ls : Logs) (j q : ℕ) (l : LogState) → ((j ≡ i) × (q ≡ p) → ⊥) → log_at j q (without_below i p start o ls) ≡ Some l → log_at j q ls ≡ Some l
other_below i p start None ls j q l ne at = at
other_below i p start (Some x) ls j q l ne at = other_log i p (dropped start x) ls j q l ne at

new_log : (count p : ℕ) (l : LogState) → slice_get (replicate count no_log) p ≡ Some l → l ≡ no_log
new_log zero p l at = absurd cc
new_log (suc count) zero l at = let e : no_log ≡ l = cc in sym e
new_log (suc count) (suc p) l at = new_log count p l at

-- ---- topics

-- a topic was there, with its settings
pub record WasThere (old : Known) (i : ℕ) (t : TopicState) : Type 0 where
  pub former : TopicState
  pub at : topic_at i old.topics ≡ Some former
  pub config : t.config ≡ former.config

abbrev pub WereThere : Known → Known → Type 0
WereThere old new = (i : ℕ) (t : TopicState) → topic_at i new.topics ≡ Some t → WasThere old i t

pub as_before : (old new : Known) → new.topics ≡ old.topics → WereThere old new
as_before old new same i t at = record { former = t; at = ap (λ ts. topic_at i ts) (sym same) ∙ at; config = refl }

-- a topic has another state of one partition
pub part_put : (old : Known) (i p : ℕ) (part : PartitionState) (o : Option TopicState) → topic_at i old.topics ≡ o → (j : ℕ) (t : TopicState) → topic_at j (put_topic i p part old.topics o) ≡ Some t → WasThere old j t
part_put old i p part None e j t at = record { former = t; at = at; config = refl }
part_put old i p part (Some u) e j t at =
    ⊎_elim
    (λ same. record { former = u; at = ap (λ k. topic_at k old.topics) same.0 ∙ e; config = ap (λ (x : TopicState). x.config) same.1 })
    (λ other. record { former = t; at = other.1; config = refl })
    (lookup_put old.topics i j u (with_part p part u) t e at)

started : (k new : Known) (i p offset : ℤ) (o : Option PartitionState)
    → option_and_then (λ (q : PartitionState). cond (int_le q.start offset) (Some (with_partition k i p (with_start q offset))) None) o ≡ Some new → WereThere k new
started k new i p offset None e = absurd cc
started k new i p offset (Some q) e = by (int_le q.start offset) e
  where
    by : (b : Bool) → cond b (Some (with_partition k i p (with_start q offset))) None ≡ Some new → WereThere k new
    by true is =
        let same : with_partition k i p (with_start q offset) ≡ new = cc in
        subst (λ n. WereThere k n) same (part_put k (natural i) (natural p) (with_start q offset) (topic_at (natural i) k.topics) refl)
    by false is = absurd cc

-- a partition's start was recorded
pub as_started : (k new : Known) (i p offset : ℤ) → step k (start_command i p offset) ≡ Some new → WereThere k new
as_started k new i p offset e = started k new i p offset (topics.partition_at k i p) e

-- a topic was deleted
pub as_deleted : (old new : Known) (i : ℕ) → new ≡ without_topic old i → topic_at i new.topics ≡ None → WereThere old new
as_deleted old new i e gone j t at =
    elim (cases (is_at (nat_cmp i) j)) [
      | inl b ↦ let none : topic_at j new.topics ≡ None = subst (λ k. topic_at k new.topics ≡ None) (same_number i j b) gone in absurd cc
      | inr b ↦ record { former = t; at = sym (other_removed i j old.topics (other_number i j b)) ∙ sym (ap (λ (k : Known). topic_at j k.topics) e) ∙ at; config = refl }
    ]

-- ---- partitions

pub weaker : (u v : ℤ) (w : World) (place : TopicPartition) → u ≤ℤ v → IsKeptAt v w place → IsKeptAt u w place
weaker u v w place le kept t l at there clock early = kept t l at there clock (omega (arith, ints, early, le))

-- the topics have the settings that they had, and a log is one that was there
kept_still : (u : ℤ) (w w' : World) (place : TopicPartition) (t : TopicState) (l : LogState) → AreAllKept u w → WasThere w.known place.instance t → log_at place.instance place.number w.logs ≡ Some l
    → IsKeptUntil u t.config.retention_ms t.config.retention_bytes l.start l.end l.batches
kept_still u w w' place t l kept was there =
    subst (λ (c : TopicConfig). IsKeptUntil u c.retention_ms c.retention_bytes l.start l.end l.batches) (sym was.config) (kept place was.former l was.at there)

pub kept_by : (u : ℤ) (w w' : World) → WereThere w.known w'.known → w'.logs ≡ w.logs → AreAllKept u w → AreAllKept u w'
kept_by u w w' were same kept place t l at there =
    kept_still u w w' place t l kept (were place.instance t at) (ap (λ ls. log_at place.instance place.number ls) (sym same) ∙ there)

-- one partition's log changed
pub kept_put : (u v : ℤ) (w w' : World) (place : TopicPartition) → v ≤ℤ u → WereThere w.known w'.known
    → ((i p : ℕ) (l : LogState) → ((i ≡ place.instance) × (p ≡ place.number) → ⊥) → log_at i p w'.logs ≡ Some l → log_at i p w.logs ≡ Some l)
    → AreAllKept u w → IsKeptAt v w' place → AreAllKept v w'
kept_put u v w w' place le were others kept here q t l at there =
    elim (cases (is_at (nat_cmp place.instance) q.instance)) [
      | inl a ↦ elim (cases (is_at (nat_cmp place.number) q.number)) [
        | inl b ↦
            let one : place.instance ≡ q.instance = same_number place.instance q.instance a in
            let two : place.number ≡ q.number = same_number place.number q.number b in
            let same : place ≡ q = (λ i. record { instance = one i; number = two i }) in
            subst (λ (x : TopicPartition). IsKeptAt v w' x) same here t l at there
        | inr b ↦ other (λ both. other_number place.number q.number b both.1)
      ]
      | inr a ↦ other (λ both. other_number place.instance q.instance a both.0)
    ]
  where
    other : ((q.instance ≡ place.instance) × (q.number ≡ place.number) → ⊥) → IsKeptUntil v t.config.retention_ms t.config.retention_bytes l.start l.end l.batches
    other ne clock early = kept_still u w w' q t l kept (were q.instance t at) (others q.instance q.number l ne there) clock (omega (arith, ints, early, le))

nothing_kept : (clock ms bytes : ℤ) → retained_start clock ms bytes 0 0 [] ≡ 0
nothing_kept clock (pos m) (pos b) = refl
nothing_kept clock (pos m) (negsuc b) = refl
nothing_kept clock (negsuc m) (pos b) = refl
nothing_kept clock (negsuc m) (negsuc b) = refl

-- a topic was made
pub kept_created : (u : ℤ) (w w' : World) (n count : ℕ) (new : TopicState) → w'.known.topics ≡ insert_entry nat_cmp w.known.topics n new → w'.logs ≡ with_new_logs n count w.logs → AreAllKept u w → AreAllKept u w'
kept_created u w w' n count new ts ls kept place t l at there =
    elim (cases (is_at (nat_cmp n) place.instance)) [
      | inl b ↦
          let found : log_at n place.number (with_new_logs n count w.logs) ≡ Some l = ap (λ x. log_at n place.number x) (sym ls) ∙ ap (λ k. log_at k place.number w'.logs) (same_number n place.instance b) ∙ there in
          let empty = new_log count place.number l (sym (ap (option_and_then (λ (x : List LogState). slice_get x place.number)) (inserted_here n (replicate count no_log) w.logs)) ∙ found) in
          λ clock early. subst (λ (x : LogState). retained_start (pos clock) t.config.retention_ms t.config.retention_bytes x.start x.end x.batches ≡ x.start) (sym empty) (nothing_kept (pos clock) t.config.retention_ms t.config.retention_bytes)
      | inr b ↦
          let ne = other_number n place.instance b in
          kept place t l
          (sym (inserted_other n place.instance new w.known.topics ne) ∙ ap (λ x. topic_at place.instance x) (sym ts) ∙ at)
          (sym (ap (option_and_then (λ (x : List LogState). slice_get x place.number)) (inserted_other n place.instance (replicate count no_log) w.logs ne)) ∙ ap (λ x. log_at place.instance place.number x) (sym ls) ∙ there)
    ]

-- a topic's logs went
pub kept_deleted : (u : ℤ) (w w' : World) (i : ℕ) → topic_at i w'.known.topics ≡ None → WereThere w.known w'.known → w'.logs ≡ without_logs i w.logs → AreAllKept u w → AreAllKept u w'
kept_deleted u w w' i gone were ls kept place t l at there =
    elim (cases (is_at (nat_cmp i) place.instance)) [
      | inl b ↦ let none : topic_at place.instance w'.known.topics ≡ None = subst (λ k. topic_at k w'.known.topics ≡ None) (same_number i place.instance b) gone in absurd (let bad : None ≡ Some t = sym none ∙ at in cc)
      | inr b ↦
          kept_still u w w' place t l kept (were place.instance t at)
          (sym (ap (option_and_then (λ (x : List LogState). slice_get x place.number)) (other_removed i place.instance w.logs (other_number i place.instance b))) ∙ ap (λ x. log_at place.instance place.number x) (sym ls) ∙ there)
    ]
