-- Retention at a place touches no log elsewhere, and no name.
use Rattle.std.proofs.Common.{◌≡◌, ◌∙◌, ◌≤◌, ℕ, ℤ, Bool, true, false, cond, List, [], ◌∷◌, length, Option, Some, None, refl, sym, subst, arith}
use Rattle.std.specs.Prelude.{pos, int_le}
use Rattle.std.specs.Option.{option_and_then}
use Rattle.std.specs.Ordering.{nat_cmp}
use Rattle.std.specs.List.{Contains}
use Rattle.std.specs.BTreeMap.{is_at}
use Rattle.std.proofs.lemmas.List.{length-set}
use Rattle.kb_topics.specs.Commands.{start_command}
use Rattle.kb_topics.specs.Known.{Known, PartitionState, TopicState, named, partition_at, put_topic, step, topic_at, with_part, with_partition, with_start}
use Rattle.kb_tenant_state.specs.Logs.{LogState, Logs, dropped, log_at, without_below}
use Rattle.kb_tenant_state.specs.Calls.{due, moved_to, retain, retained_from}
use Rattle.kb_tenant_state.specs.Tied.{counted, partition_count}
use Rattle.kb_tenant_state.specs.World.{World, log_in}
use Rattle.kb_tenant_state.specs.declared.topic_partition.TopicPartition.{TopicPartition}
use Rattle.kb_topics.specs.WellFormed.{AreNamedApart}
use Rattle.kb_tenant.proofs.Asked.{here_first}
use Rattle.kb_tenant.proofs.Entries.{counted_set, none_set}
use Rattle.kb_tenant.proofs.LogMoves.{log_elsewhere, same_counts}
use Rattle.kb_tenant.proofs.Moves.{Moves, stays_told}
use Rattle.kb_topics.proofs.Names.{named_set}
use Rattle.kb_topics.proofs.OwnNames.{apart_put}

-- what is known with another state of one partition
pub record IsAlike (old new : Known) : Type 0 where
  pub creates : new.creates ≡ old.creates
  pub none : (i : ℕ) → topic_at i old.topics ≡ None → topic_at i new.topics ≡ None
  pub counts : counted partition_count new.topics ≡ counted partition_count old.topics
  pub names : (name : List ℕ) → named name new.topics ≡ named name old.topics
  pub apart : AreNamedApart old.topics → AreNamedApart new.topics

pub alike_same : (k : Known) → IsAlike k k
alike_same k = record { creates = refl; none = λ i none. none; counts = refl; names = λ name. refl; apart = λ own. own }

pub put_alike : (k : Known) (i p : ℕ) (part : PartitionState) (o : Option TopicState) → topic_at i k.topics ≡ o → IsAlike k (record k { topics = put_topic i p part k.topics o })
put_alike k i p part None at = alike_same k
put_alike k i p part (Some t) at = record {
  creates = refl;
  none = λ j none. none_set (is_at (nat_cmp j)) (is_at (nat_cmp i)) k.topics (with_part p part t) none;
  counts = counted_set partition_count (is_at (nat_cmp i)) k.topics t (with_part p part t) at (length-set t.partitions p part);
  names = λ name. named_set k.topics i t (with_part p part t) name at refl;
  apart = λ own. apart_put k.topics i p part (Some t) at own;
}

started_alike : (k new : Known) (i p : ℕ) (start : ℤ) (o : Option PartitionState)
    → option_and_then (λ (q : PartitionState). cond (int_le q.start start) (Some (with_partition k (pos i) (pos p) (with_start q start))) None) o ≡ Some new → IsAlike k new
started_alike k new i p start None e = absurd cc
started_alike k new i p start (Some q) e = by (int_le q.start start) e
  where
    by : (b : Bool) → cond b (Some (with_partition k (pos i) (pos p) (with_start q start))) None ≡ Some new → IsAlike k new
    by true is =
        let same : with_partition k (pos i) (pos p) (with_start q start) ≡ new = cc in
        subst (IsAlike k) same (put_alike k i p (with_start q start) (topic_at i k.topics) refl)
    by false is = absurd cc

pub step_alike : (k new : Known) (i p : ℕ) (start : ℤ) → step k (start_command (pos i) (pos p) start) ≡ Some new → IsAlike k new
step_alike k new i p start e = started_alike k new i p start (partition_at k (pos i) (pos p)) e

-- ---- the logs

dropped_counts : (place : TopicPartition) (start : ℤ) (ls : Logs) (o : Option LogState) → counted length (without_below place.instance place.number start o ls) ≡ counted length ls
dropped_counts place start ls None = refl
dropped_counts place start ls (Some l) = same_counts place.instance place.number (dropped start l) ls

dropped_elsewhere : (place other : TopicPartition) (start : ℤ) (ls : Logs) (o : Option LogState) → (other ≡ place → ⊥)
    → log_at other.instance other.number (without_below place.instance place.number start o ls) ≡ log_at other.instance other.number ls
dropped_elsewhere place other start ls None ne = refl
dropped_elsewhere place other start ls (Some l) ne = log_elsewhere place other (dropped start l) ls ne

-- ---- the world

abbrev moved : World → TopicPartition → ℤ → Known → World
moved w place start k = record w { known = k; logs = without_below place.instance place.number start (log_in w place) w.logs }

pub moved_moves : (w : World) (place : TopicPartition) (start : ℤ) (k : Known) → IsAlike w.known k → Moves [] (place ∷ []) w (moved w place start k)
moved_moves w place start k alike = record {
  tied = λ t. record {
    next = λ i le. alike.none i (t.next i (subst (λ n. n ≤ i) alike.creates le));
    logs = dropped_counts place start w.logs (log_in w place) ∙ t.logs ∙ sym alike.counts;
  };
  told = λ other at. absurd (none_in other at);
  held = λ t name other log none h.
      let apart : other ≡ place → ⊥ = λ same. none (subst (λ x. Contains (x ∷ []) other) same (here_first other [])) in
      record { topic = alike.names name ∙ h.topic; there = dropped_elsewhere place other start w.logs (log_in w place) apart ∙ h.there };
}
  where
    none_in : (other : TopicPartition) → Contains [] other → ⊥
    none_in other c = omega (arith, c.1)

stepped_moves : (w : World) (place : TopicPartition) (start : ℕ) (o : Option Known) → step w.known (start_command (pos place.instance) (pos place.number) (pos start)) ≡ o → Moves [] (place ∷ []) w (moved_to w place start o).0
stepped_moves w place start None e = stays_told w [] (place ∷ [])
stepped_moves w place start (Some k) e = moved_moves w place (pos start) k (step_alike w.known k place.instance place.number (pos start) e)

due_moves : (w : World) (place : TopicPartition) (o : Option ℕ) → Moves [] (place ∷ []) w (retained_from w place o).0
due_moves w place None = stays_told w [] (place ∷ [])
due_moves w place (Some start) = stepped_moves w place start (step w.known (start_command (pos place.instance) (pos place.number) (pos start))) refl

pub retain_moves : (clock : ℕ) (w : World) (place : TopicPartition) → Moves [] (place ∷ []) w (retain clock w place).0
retain_moves clock w place = due_moves w place (due clock w place)

-- ---- what is known

stepped_alike : (w : World) (place : TopicPartition) (start : ℕ) (o : Option Known) → step w.known (start_command (pos place.instance) (pos place.number) (pos start)) ≡ o → IsAlike w.known (moved_to w place start o).0.known
stepped_alike w place start None e = alike_same w.known
stepped_alike w place start (Some k) e = step_alike w.known k place.instance place.number (pos start) e

due_alike : (w : World) (place : TopicPartition) (o : Option ℕ) → IsAlike w.known (retained_from w place o).0.known
due_alike w place None = alike_same w.known
due_alike w place (Some start) = stepped_alike w place start (step w.known (start_command (pos place.instance) (pos place.number) (pos start))) refl

-- It is as before, but for the state of one partition.
pub retain_alike : (clock : ℕ) (w : World) (place : TopicPartition) → IsAlike w.known (retain clock w place).0.known
retain_alike clock w place = due_alike w place (due clock w place)
