-- A log is changed at one place, which is told.
use Rattle.std.proofs.Common.{◌≡◌, ◌∙◌, ◌⊎◌, ⊎_elim, ℕ, List, [], ◌∷◌, ◌++◌, length, Option, Some, None, refl, sym, subst, ap, arith}
use Rattle.std.specs.Prelude.{slice_get, slice_set}
use Rattle.std.specs.Option.{option_and_then}
use Rattle.std.specs.Ordering.{nat_cmp}
use Rattle.std.specs.List.{Contains}
use Rattle.std.specs.Map.{lookup}
use Rattle.std.specs.BTreeMap.{is_at}
use Rattle.std.proofs.lemmas.List.{length-set}
use Rattle.std.proofs.lemmas.List.Elements.{Contains-append_left, Contains-push}
use Rattle.kb_tenant_state.specs.Logs.{LogState, Logs, log_at, put_log, with_log}
use Rattle.kb_tenant_state.specs.Calls.{with_log_at}
use Rattle.kb_tenant_state.specs.Tied.{counted}
use Rattle.kb_tenant_state.specs.World.{World}
use Rattle.kb_tenant_state.specs.declared.topic_partition.TopicPartition.{TopicPartition}
use Rattle.kb_tenant.proofs.Entries.{counted_set, get_other, set_other, set_same}
use Rattle.kb_tenant.proofs.Moves.{Moves}

pub same_place : (a b : TopicPartition) → a.instance ≡ b.instance → a.number ≡ b.number → a ≡ b
same_place a b e f = λ i. record { instance = e i; number = f i }

pub same_or_not : (j i : ℕ) → (j ≡ i) ⊎ (j ≡ i → ⊥)
same_or_not j i = grind arith

-- each instance has as many logs as it had
pub same_counts : (i p : ℕ) (l : LogState) (ls : Logs) → counted length (with_log i p l ls) ≡ counted length ls
same_counts i p l ls = by (lookup (is_at (nat_cmp i)) ls) refl
  where
    by : (o : Option (List LogState)) → lookup (is_at (nat_cmp i)) ls ≡ o → counted length (put_log i p l ls o) ≡ counted length ls
    by None at = refl
    by (Some t) at = counted_set length (is_at (nat_cmp i)) ls t (slice_set t p l) at (length-set t p l)

-- the logs of the same topic
same_topic : (i p q : ℕ) (l : LogState) (ls : Logs) → (q ≡ p → ⊥) → log_at i q (with_log i p l ls) ≡ log_at i q ls
same_topic i p q l ls ne = by (lookup (is_at (nat_cmp i)) ls) refl
  where
    by : (o : Option (List LogState)) → lookup (is_at (nat_cmp i)) ls ≡ o → log_at i q (put_log i p l ls o) ≡ log_at i q ls
    by None at = refl
    by (Some t) at =
        let found = λ (o : Option (List LogState)). option_and_then (λ (x : List LogState). slice_get x q) o in
        ap found (set_same (is_at (nat_cmp i)) ls t (slice_set t p l) at) ∙ get_other t p q l ne ∙ sym (ap found at)

-- the logs of another topic
other_topic : (i p j q : ℕ) (l : LogState) (ls : Logs) → (j ≡ i → ⊥) → log_at j q (with_log i p l ls) ≡ log_at j q ls
other_topic i p j q l ls ne = by (lookup (is_at (nat_cmp i)) ls)
  where
    by : (o : Option (List LogState)) → log_at j q (put_log i p l ls o) ≡ log_at j q ls
    by None = refl
    by (Some t) = ap (λ (o : Option (List LogState)). option_and_then (λ (x : List LogState). slice_get x q) o) (set_other ls i j (slice_set t p l) ne)

-- A log elsewhere stays.
pub log_elsewhere : (place other : TopicPartition) (l : LogState) (ls : Logs) → (other ≡ place → ⊥)
    → log_at other.instance other.number (with_log place.instance place.number l ls) ≡ log_at other.instance other.number ls
log_elsewhere place other l ls ne =
    ⊎_elim
    (λ (same : other.instance ≡ place.instance).
    ap (λ i. log_at i other.number (with_log place.instance place.number l ls)) same
    ∙ same_topic place.instance place.number other.number l ls (λ number. ne (same_place other place same number))
    ∙ sym (ap (λ i. log_at i other.number ls) same))
    (λ differ. other_topic place.instance place.number other.instance other.number l ls differ)
    (same_or_not other.instance place.instance)

pub with_log_moves : (w : World) (before : List TopicPartition) (place : TopicPartition) (l : LogState) → Moves before (before ++ place ∷ []) w (with_log_at w place l)
with_log_moves w before place l = record {
  tied = λ t. record { next = t.next; logs = same_counts place.instance place.number l w.logs ∙ t.logs };
  told = λ other at. Contains-append_left before (place ∷ []) other at;
  held = λ t name other log none h.
      let apart : other ≡ place → ⊥ = λ same. none (subst (λ x. Contains (before ++ x ∷ []) other) same (Contains-push before other)) in
      record { topic = h.topic; there = log_elsewhere place other l w.logs apart ∙ h.there };
}
