-- Which topics a request leaves: their names stay apart, and all but CreateTopics make none.
use Rattle.std.proofs.Common.{◌≡◌, ◌∙◌, ℕ, ℤ, Bool, true, false, cond, List, [], ◌∷◌, Option, Some, None, Result, Ok, Err, refl, sym, subst, ap, ◌+◌, ◌^◌}
use Rattle.std.specs.Prelude.{nat_le, pos, is_some}
use Rattle.std.specs.Ordering.{nat_cmp}
use Rattle.std.specs.BTreeMap.{is_at}
use Rattle.kb_api_data.specs.declared.create_topics.CreateTopic.{CreateTopic}
use Rattle.kb_api_data.specs.declared.create_topics.CreateTopicsRequest.{CreateTopicsRequest}
use Rattle.kb_api_data.specs.declared.delete_topics.DeleteTopicsRequest.{DeleteTopicsRequest}
use Rattle.kb_api_data.specs.declared.produce.ProducePartition.{ProducePartition}
use Rattle.kb_api_data.specs.declared.produce.ProduceTopic.{ProduceTopic}
use Rattle.kb_api_data.specs.declared.produce.ProduceRequest.{ProduceRequest}
use Rattle.kb_wire.specs.declared.error_code.ErrorCode.{ErrorCode}
use Rattle.kb_batch.specs.Batch.{count_of, natural}
use Rattle.kb_producers.specs.declared.verdict.Verdict.{Verdict}
use Rattle.kb_producers.specs.declared.verdict.Verdict.TheVariants.{Append, Repeat, Refuse}
use Rattle.kb_topics.specs.Known.{Known, named, new_topic}
use Rattle.kb_topics.specs.Refusals.{create_refusal}
use Rattle.kb_topics.specs.declared.config.TopicConfig.{TopicConfig}
use Rattle.kb_topics.specs.declared.fault.CatalogFault.{CatalogFault}
use Rattle.kb_topics.proofs.Steps.{unnamed}
use Rattle.kb_tenant_state.specs.Logs.{LogState, appended}
use Rattle.kb_tenant_state.specs.declared.fault.PartitionFault.TheVariants as partition
use Rattle.kb_tenant_state.specs.Calls.{appended_to, created_unless, deleted_at, with_log_at}
use Rattle.kb_tenant_state.specs.World.{World, log_in, place_in}
use Rattle.kb_tenant_state.specs.declared.topic_partition.TopicPartition.{TopicPartition}
use Rattle.kb_tenant.specs.CreateTopics.{created_all, created_topic, is_too_much, made_unless, made_unless_full, made_with, refusal, room_in, stands_twice}
use Rattle.kb_tenant.specs.declared.limits.DataLimits.{DataLimits}
use Rattle.kb_tenant.specs.DeleteTopics.{deleted_all, deleted_topic}
use Rattle.kb_tenant.specs.Produce.{Progress, appended_at, appended_unless_full, is_full, batch_in, decided, known_place, offered_unless, produced, progress, refusal_of, entry_served, served_topic, tried, verdict_on}
use Rattle.kb_tenant.specs.Settings.{settings_in}
use Rattle.kb_tenant.specs.Turns.{in_turn}
use Rattle.kb_topics.specs.WellFormed.{AreNamedApart}
use Rattle.kb_tenant.specs.Waiting.{HasOwnNames}
use Rattle.kb_topics.proofs.OwnNames.{apart_inserted, apart_removed, named_before}

-- Names stay apart, and what has a name then had it before.
pub record Loses (w v : World) : Type 0 where
  pub apart : HasOwnNames w → HasOwnNames v
  pub before : HasOwnNames w → (name : List ℕ) (i : ℕ) → named name v.known.topics ≡ Some i → named name w.known.topics ≡ Some i

loses_none : (w : World) → Loses w w
loses_none w = record { apart = λ own. own; before = λ own name i there. there }

loses_then : (w v u : World) → Loses w v → Loses v u → Loses w u
loses_then w v u p q = record {
  apart = λ own. q.apart (p.apart own);
  before = λ own name i there. p.before own name i (q.before (p.apart own) name i there);
}

-- what one entry after another keeps
turns_keep : {S E A : Type 0} (R : World → World → Type 0) → ((w : World) → R w w) → ((w v u : World) → R w v → R v u → R w u)
    → (world : S → World) (f : S → E → S × A) → ((s : S) (e : E) → R (world s) (world (f s e).0)) → (s : S) (es : List E) → R (world s) (world (in_turn f s es).0)
turns_keep R same next world f each s [] = same (world s)
turns_keep {S} {E} {A} R same next world f each s (e ∷ es) =
    let t : S = (f s e).0 in
    next (world s) (world t) (world (in_turn f t es).0) (each s e) (turns_keep R same next world f each t es)

-- ---- Produce

-- what is known stays
abbrev Knows : World → World → Type 0
Knows w v = v.known ≡ w.known

append_keeps : (p : Progress) (place : TopicPartition) (batch : List ℕ) (o : Option LogState) → Knows p.world (appended_at p place (appended_to p.world place batch o)).0.world
append_keeps p place batch None = refl
append_keeps p place batch (Some l) = by (nat_le (2 ^ 63) (l.end + count_of batch))
  where
    by : (b : Bool) → Knows p.world (appended_at p place (cond b (p.world, Err partition.Full) (with_log_at p.world place (appended batch l), Ok (pos l.end)))).0.world
    by true = refl
    by false = refl

full_keeps : (p : Progress) (place : TopicPartition) (batch : List ℕ) → (full : Bool) → Knows p.world (appended_unless_full full p place batch).0.world
full_keeps p place batch true = refl
full_keeps p place batch false = append_keeps p place batch (log_in p.world place)

decided_keeps : (limit : Option ℕ) (p : Progress) (place : TopicPartition) (batch : List ℕ) (v : Option Verdict) → Knows p.world (decided limit p place batch v).0.world
decided_keeps limit p place batch None = refl
decided_keeps limit p place batch (Some Append) = full_keeps p place batch (is_full limit p.world batch)
decided_keeps limit p place batch (Some (Repeat base)) = refl
decided_keeps limit p place batch (Some (Refuse code)) = refl

offered_keeps : (limit : Option ℕ) (p : Progress) (place : TopicPartition) (r : Result (List ℕ) ℤ) → Knows p.world (offered_unless limit p place r).0.world
offered_keeps limit p place (Ok batch) = decided_keeps limit p place batch (verdict_on p.world place batch)
offered_keeps limit p place (Err code) = refl

tried_keeps : (limit : Option ℕ) (p : Progress) (o : Option TopicPartition) (records : Option (List ℕ)) → Knows p.world (tried limit p o records).0.world
tried_keeps limit p None records = refl
tried_keeps limit p (Some place) records = offered_keeps limit p place (batch_in records)

entry_keeps : (limit : Option ℕ) (refusal : Option ℤ) (topic : Option ℕ) (p : Progress) (e : ProducePartition) → Knows p.world (entry_served limit refusal topic p e).0.world
entry_keeps limit (Some code) topic p e = refl
entry_keeps limit None topic p e = tried_keeps limit p (known_place p.world (place_in topic e.index)) e.records

all_keep : {E A : Type 0} (f : Progress → E → Progress × A) → ((p : Progress) (e : E) → Knows p.world (f p e).0.world) → (p : Progress) (es : List E) → Knows p.world (in_turn f p es).0.world
all_keep f each p es = turns_keep Knows (λ w. refl) (λ w v u x y. y ∙ x) (λ (s : Progress). s.world) f each p es

topic_keeps : (limit : Option ℕ) (refusal : Option ℤ) (p : Progress) (t : ProduceTopic) → Knows p.world (served_topic limit refusal p t).0.world
topic_keeps limit refusal p t = let topic = named t.name p.world.known.topics in all_keep (entry_served limit refusal topic) (entry_keeps limit refusal topic) p t.partitions

produce_keeps : (limit : Option ℕ) (w : World) (r : ProduceRequest) → Knows w (produced limit w [] r).0.world
produce_keeps limit w r = let refusal = refusal_of r.transactional_id r.acks in all_keep (served_topic limit refusal) (topic_keeps limit refusal) (progress w []) r.topics

pub produce_loses : (limit : Option ℕ) (w : World) (r : ProduceRequest) → Loses w (produced limit w [] r).0.world
produce_loses limit w r =
    let same = produce_keeps limit w r in
    record {
      apart = λ own. subst (λ (k : Known). AreNamedApart k.topics) (sym same) own;
      before = λ own name i there. ap (λ (k : Known). named name k.topics) (sym same) ∙ there;
    }

-- ---- DeleteTopics

delete_loses_by : (w : World) (o : Option ℕ) → Loses w (deleted_at w o).0
delete_loses_by w None = loses_none w
delete_loses_by w (Some i) = record {
  apart = λ own. apart_removed (is_at (nat_cmp i)) w.known.topics own;
  before = λ own name j there. named_before (is_at (nat_cmp i)) w.known.topics name j own there;
}

pub delete_loses : (w : World) (r : DeleteTopicsRequest) → Loses w (deleted_all (w, []) r).0.0
delete_loses w r =
    turns_keep Loses loses_none loses_then (λ (s : World × List TopicPartition). s.0) deleted_topic
    (λ s name. delete_loses_by s.0 (named name s.0.known.topics)) (w, []) r.names

-- ---- CreateTopics

abbrev Keeps : World → World → Type 0
Keeps w v = HasOwnNames w → HasOwnNames v

create_apart_by : (w : World) (name : List ℕ) (partitions : ℤ) (config : TopicConfig) (o : Option CatalogFault) → create_refusal w.known name partitions config ≡ o → Keeps w (created_unless w name partitions config o).0
create_apart_by w name partitions config (Some f) e own = own
create_apart_by w name partitions config None e own =
    apart_inserted w.known.topics w.known.creates (new_topic name (natural partitions) config) (unnamed w.known name partitions config e) own

full_apart : (w : World) (t : CreateTopic) (config : TopicConfig) (full : Bool) → Keeps w (made_unless_full full w t config).0
full_apart w t config true own = own
full_apart w t config false own = create_apart_by w t.name t.num_partitions config (create_refusal w.known t.name t.num_partitions config) refl own

settled_apart : (limits : DataLimits) (w : World) (t : CreateTopic) (o : Option TopicConfig) → Keeps w (made_with limits w t o).0
settled_apart limits w t None own = own
settled_apart limits w t (Some config) own = full_apart w t config (is_too_much limits (room_in limits w.known) t.num_partitions) own

made_apart : (limits : DataLimits) (w : World) (t : CreateTopic) (o : Option ErrorCode) → Keeps w (made_unless limits w t o).0
made_apart limits w t (Some e) own = own
made_apart limits w t None own = settled_apart limits w t (settings_in t.configs) own

pub create_apart : (limits : DataLimits) (w : World) (r : CreateTopicsRequest) → HasOwnNames w → HasOwnNames (created_all limits w r).0
create_apart limits w r =
    turns_keep Keeps (λ v own. own) (λ v u x p q own. q (p own)) (λ (s : World). s) (created_topic limits r.topics)
    (λ s t. made_apart limits s t (refusal (stands_twice t.name r.topics) (is_some (named t.name s.known.topics)) t)) w r.topics
