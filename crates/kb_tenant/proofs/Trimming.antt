-- What an entry of DeleteRecords is answered, by what the call for it answered, whatever memory and the store refuse.
use Rattle.std.proofs.Common.{◌≡◌, ◌⊎◌, ◌∙◌, ◌++◌, ◌∷◌, [], arith, inl, inr, ⊎_elim, ℕ, ℤ, List, Option, Some, None, ap, refl, subst, sym, w32}
use Rattle.std.specs.Prelude.{length, pos, Result, Ok, Err}
use Rattle.std.specs.List.{flat_map}
use Rattle.kb_wire.specs.Codec.{count, int32, string}
use Rattle.kb_api_data.specs.Layouts.{delete_records_partition_reply, delete_records_reply, delete_records_topic_reply}
use Rattle.kb_api_data.specs.declared.delete_records.DeleteRecordsPartition.{DeleteRecordsPartition}
use Rattle.kb_api_data.specs.declared.delete_records.DeleteRecordsPartitionReply.{DeleteRecordsPartitionReply}
use Rattle.kb_api_data.specs.declared.delete_records.DeleteRecordsReply.{DeleteRecordsReply}
use Rattle.kb_api_data.specs.declared.delete_records.DeleteRecordsRequest.{DeleteRecordsRequest}
use Rattle.kb_api_data.specs.declared.delete_records.DeleteRecordsTopic.{DeleteRecordsTopic}
use Rattle.kb_api_data.specs.declared.delete_records.DeleteRecordsTopicReply.{DeleteRecordsTopicReply}
use Rattle.kb_topics.specs.Known.{named}
use Rattle.kb_tenant_state.specs.Fault.{code_of}
use Rattle.kb_tenant_state.specs.Scene.{Scene, WhereHonest}
use Rattle.kb_tenant_state.specs.declared.fault.PartitionFault.{PartitionFault}
use Rattle.kb_tenant_state.specs.declared.fault.PartitionFault.TheVariants as partition
use Rattle.kb_tenant_state.specs.Parts.{Seen}
use Rattle.kb_tenant_state.specs.Steps.{IsStep}
use Rattle.kb_tenant_state.specs.Told.{Deletes, IsDeletionWant}
use Rattle.kb_tenant_state.specs.World.{World, place_in}
use Rattle.kb_tenant_state.specs.declared.topic_partition.TopicPartition.{TopicPartition}
use Rattle.kb_tenant.specs.DeleteRecords.{deleted, deleted_at, deleted_in, deletion_answered, told}
use Rattle.kb_tenant.specs.DeleteRecords.{told as place_told}
use Rattle.kb_tenant_state.specs.Calls.{delete_records}
use Rattle.kb_tenant.specs.Told.{AreTrimsTold, CatalogFailed, IsDeleted, IsDeletionTold}
use Rattle.kb_tenant.specs.Told.{IsRefusalFor, IsTrimTold, IsTrimTopicTold, IsUntrimmed}
use Rattle.kb_tenant.specs.Turns.{AreServed}
use Rattle.kb_tenant.proofs.Acknowledging.{served_length, served_so}
use Rattle.kb_tenant.proofs.DeletedRecords.{behind, reply_spelled, topic_spelled}
use Rattle.kb_tenant.proofs.Telling.{done_so}
use Rattle.kb_tenant.proofs.Wanted.{catalog_failed, catalog_later, catalog_since}

-- ---- one entry

-- an entry's answer, by that of the partition where it is
entry_deleted : (s : World × List TopicPartition) (topic : Option ℕ) (e : DeleteRecordsPartition) (at : Option TopicPartition) (q : World × List TopicPartition)
    (r : Result ℤ PartitionFault) (x : DeleteRecordsPartitionReply)
    → at ≡ place_in topic e.partition → x ≡ deletion_answered e.partition r → (q, r) ≡ deleted_in s at e.offset → (q, x) ≡ deleted topic s e
entry_deleted s topic e at q r x there is step =
    ap (λ z. (q, z)) is
    ∙ ap (λ (z : (World × List TopicPartition) × Result ℤ PartitionFault). (z.0, deletion_answered e.partition z.1))
    (step ∙ ap (λ o. deleted_in s o e.offset) there)

-- records that were deleted, and their place told
pub deletion_told : (a b : Scene Seen) (old new : List TopicPartition) (place : TopicPartition) (asked offset found start : ℤ) (r : Result ℤ PartitionFault) → asked ≡ offset → found ≡ start → r ≡ Ok start → new ≡ old ++ place ∷ []
    → Deletes a b ((b.state.world, r) ≡ delete_records a.state.world place asked) (IsDeletionWant a b) r
    → let x : Result ℤ PartitionFault = Ok found in Deletes a b (((b.state.world, new), x) ≡ deleted_at (a.state.world, old) place offset) (IsDeletionWant a b) x
deletion_told a b old new place asked offset found start r same one is more told =
    ⊎_elim
    (λ done. inl (done_so a b ((b.state.world, given start) ≡ delete_records a.state.world place asked) (((b.state.world, new), given found) ≡ deleted_at (a.state.world, old) place offset) so done))
    (λ left. inr (record { counted = left.counted; met = λ honest agree. so (left.met honest agree) }))
    (subst (λ z. Deletes a b ((b.state.world, z) ≡ delete_records a.state.world place asked) (IsDeletionWant a b) z) is told)
  where
    given : ℤ → Result ℤ PartitionFault
    given n = Ok n

    so : (b.state.world, given start) ≡ delete_records a.state.world place asked → ((b.state.world, new), given found) ≡ deleted_at (a.state.world, old) place offset
    so e =
        ap (λ n. ((b.state.world, new), given n)) one ∙ ap (λ (places : List TopicPartition). ((b.state.world, places), given start)) more
        ∙ ap (λ (x : World × Result ℤ PartitionFault). ((x.0, place_told old place x.1), x.1)) e ∙ ap (deleted_at (a.state.world, old) place) same

-- in a partition that there may be
pub entry_trimmed : (a b : Scene Seen) (old new : List TopicPartition) (topic : Option ℕ) (e : DeleteRecordsPartition) (place : TopicPartition)
    (r : Result ℤ PartitionFault) (x : DeleteRecordsPartitionReply)
    → Some place ≡ place_in topic e.partition → x ≡ deletion_answered e.partition r → new ≡ told old place r
    → Deletes a b (((b.state.world, new), r) ≡ deleted_at (a.state.world, old) place e.offset) (IsDeletionWant a b) r
    → IsDeletionTold a b x.error_code (((b.state.world, new), x) ≡ deleted topic (a.state.world, old) e)
    (IsRefusalFor (IsDeletionWant a b) e.partition x × (new ≡ old))
entry_trimmed a b old new topic e place (Ok start) x there is touched deletes =
    let so = entry_deleted (a.state.world, old) topic e (Some place) (b.state.world, new) (Ok start) x there is in
    ⊎_elim
    (λ done. inl (inl (done_so a b _ _ so done)))
    (λ left. inr (
      ap (λ (z : DeleteRecordsPartitionReply). z.error_code) is,
      record { counted = left.counted; met = λ honest agree. so (left.met honest agree) },
    ))
    deletes
entry_trimmed a b old new topic e place (Err f) x there is touched deletes =
    ⊎_elim
    (λ done. inl (inl (done_so a b _ _ (entry_deleted (a.state.world, old) topic e (Some place) (b.state.world, new) (Err f) x there is)
    done)))
    (λ refused. inl (inr (record {
      want = (record { fault = f; told = is; want = refused.want }, touched);
      counted = refused.counted;
      stays = refused.stays;
    })))
    deletes

-- in one that there cannot be
pub entry_unknown : (a : Scene Seen) (old : List TopicPartition) (topic : Option ℕ) (e : DeleteRecordsPartition) (x : DeleteRecordsPartitionReply)
    (Want : Type 0)
    → None ≡ place_in topic e.partition → x ≡ deletion_answered e.partition (Err partition.Unknown)
    → IsDeletionTold a a x.error_code (((a.state.world, old), x) ≡ deleted topic (a.state.world, old) e) Want
entry_unknown a old topic e x Want there is =
    inl (inl (record {
      counted = refl;
      met = λ honest agree. entry_deleted (a.state.world, old) topic e None (a.state.world, old)
          (Err partition.Unknown) x there is refl;
    }))

-- what is answered with no error was done, but for a file that may be left
pub trim_acknowledged : (a b : Scene Seen) (P Also : Type 0) (index : ℤ) (x : DeleteRecordsPartitionReply)
    → IsDeletionTold a b x.error_code P (IsRefusalFor (IsDeletionWant a b) index x × Also) → x.error_code ≡ pos 0 → IsDeleted a b P
trim_acknowledged a b P Also index x is zero =
    ⊎_elim
    (λ one. ⊎_elim (λ done. inl done) (λ refused. absurd
    (speaks refused.want.0.fault (sym (ap (λ (z : DeleteRecordsPartitionReply). z.error_code) refused.want.0.told) ∙ zero))) one)
    (λ left. inr left.1)
    is
  where
    speaks : (f : PartitionFault) → code_of f ≡ pos 0 → ⊥
    speaks partition.Unknown h = absurd cc
    speaks partition.Range h = absurd cc
    speaks partition.Full h = absurd cc
    speaks partition.Store h = absurd cc
    speaks partition.Memory h = absurd cc

-- the want of a fault, as what is answered tells it
untrimmed : (a b : Scene Seen) → IsStep a b → b.disk.honest → a.agrees
    → (e : DeleteRecordsPartition) (x : DeleteRecordsPartitionReply) (f : PartitionFault)
    → x ≡ deletion_answered e.partition (Err f) → IsDeletionWant a b f → IsUntrimmed (CatalogFailed a b) e x
untrimmed a b step honest agree e x partition.Unknown is want = absurd want
untrimmed a b step honest agree e x partition.Range is want = absurd want
untrimmed a b step honest agree e x partition.Full is want = absurd want
untrimmed a b step honest agree e x partition.Store is want =
    inl (is, ⊎_elim (λ failed. catalog_failed a b step honest agree failed) (λ full. inr (omega (arith, full, step.commands))) want)
untrimmed a b step honest agree e x partition.Memory is want = inr is

pub trim_told_so : (a b : Scene Seen) (old new : List TopicPartition) (topic : Option ℕ) (e : DeleteRecordsPartition)
    (x : DeleteRecordsPartitionReply) → IsStep a b
    → IsDeletionTold a b x.error_code (((b.state.world, new), x) ≡ deleted topic (a.state.world, old) e)
    (IsRefusalFor (IsDeletionWant a b) e.partition x × (new ≡ old))
    → WhereHonest a b (IsTrimTold (CatalogFailed a b) topic (a.state.world, old) e (b.state.world, new) x)
trim_told_so a b old new topic e x step is honest agree =
    ⊎_elim
    (λ one. ⊎_elim (λ done. inl (done.met honest agree))
    (λ refused. inr (
      ap (λ w. (w, new)) (refused.stays honest agree) ∙ ap (λ places. (a.state.world, places)) refused.want.1,
      untrimmed a
          b step honest agree e x refused.want.0.fault refused.want.0.told refused.want.0.want,
    )) one)
    (λ left. inl (left.1.met honest agree))
    is

-- ---- a step more

trim_so : (P Q : Type 0) → (P → Q)
    → (topic : Option ℕ) (s : World × List TopicPartition) (e : DeleteRecordsPartition) (t : World × List TopicPartition) (x : DeleteRecordsPartitionReply)
    → IsTrimTold P topic s e t x → IsTrimTold Q topic s e t x
trim_so P Q f topic s e t x =
    ⊎_elim (λ done. inl done) (λ refused. inr (refused.0, ⊎_elim (λ store. inl (store.0, f store.1)) (λ memory. inr memory) refused.1))

trim_topic_so : (P Q : Type 0) → (P → Q)
    → (s : World × List TopicPartition) (e : DeleteRecordsTopic) (t : World × List TopicPartition) (x : DeleteRecordsTopicReply) → IsTrimTopicTold P s e t x
    → IsTrimTopicTold Q s e t x
trim_topic_so P Q f s e t x told =
    let topic = named e.name s.0.known.topics in (
      told.0,
      served_so (IsTrimTold P topic) (IsTrimTold Q topic) (λ p y q z. trim_so P Q f topic p y q z) s t e.partitions x.partitions
          told.1,
    )

module _ (a b d : Scene Seen) where
  -- what was answered before a step, or behind one, is told in both
  pub trims_before : IsStep b d → (topic : Option ℕ) (es : List DeleteRecordsPartition) (s t : World × List TopicPartition)
      (xs : List DeleteRecordsPartitionReply)
      → AreServed (IsTrimTold (CatalogFailed a b) topic) s es t xs → AreServed (IsTrimTold (CatalogFailed a d) topic) s es t xs
  trims_before step topic es s t xs told =
      served_so (IsTrimTold (CatalogFailed a b) topic) (IsTrimTold (CatalogFailed a d) topic)
      (λ p e q x. trim_so (CatalogFailed a b) (CatalogFailed a d) (catalog_later a b d step) topic p e q x) s t es xs told

  pub trim_behind : IsStep a b → (topic : Option ℕ) (s : World × List TopicPartition) (e : DeleteRecordsPartition) (t : World × List TopicPartition)
      (x : DeleteRecordsPartitionReply)
      → IsTrimTold (CatalogFailed b d) topic s e t x → IsTrimTold (CatalogFailed a d) topic s e t x
  trim_behind step topic = trim_so (CatalogFailed b d) (CatalogFailed a d) (catalog_since a b d step) topic

  pub trim_topics_before : IsStep b d → (es : List DeleteRecordsTopic) (s t : World × List TopicPartition) (xs : List DeleteRecordsTopicReply)
      → AreServed (IsTrimTopicTold (CatalogFailed a b)) s es t xs → AreServed (IsTrimTopicTold (CatalogFailed a d)) s es t xs
  trim_topics_before step es s t xs told =
      served_so (IsTrimTopicTold (CatalogFailed a b)) (IsTrimTopicTold (CatalogFailed a d))
      (λ p e q x. trim_topic_so (CatalogFailed a b) (CatalogFailed a d) (catalog_later a b d step) p e q x) s t es xs told

  pub trim_topic_behind : IsStep a b
      → (s : World × List TopicPartition) (e : DeleteRecordsTopic) (t : World × List TopicPartition) (x : DeleteRecordsTopicReply)
      → IsTrimTopicTold (CatalogFailed b d) s e t x → IsTrimTopicTold (CatalogFailed a d) s e t x
  trim_topic_behind step = trim_topic_so (CatalogFailed b d) (CatalogFailed a d) (catalog_since a b d step)

-- ---- a topic, and the whole

-- a topic's name, the count of its entries and what they were answered
pub topic_trimmed : (failed : Type 0) (topic : Option ℕ) (s u : World × List TopicPartition) (t : DeleteRecordsTopic) (name : List ℕ)
    (entries : List DeleteRecordsPartition) (n : ℕ) (out out1 out2 out3 : List ℕ)
    → name ≡ t.name → entries ≡ t.partitions → n ≡ length t.partitions → topic ≡ named t.name s.0.known.topics
    → out1 ≡ out ++ string.written name → out2 ≡ out1 ++ (count w32).written n
    → (replies : List DeleteRecordsPartitionReply) ×
    ((out3 ≡ out2 ++ flat_map delete_records_partition_reply.written replies) × AreServed (IsTrimTold failed topic) s entries u replies)
    → (reply : DeleteRecordsTopicReply) × ((out3 ≡ out ++ delete_records_topic_reply.written reply) × IsTrimTopicTold failed s t u reply)
topic_trimmed failed topic s u t name entries n out out1 out2 out3 nis eis lis tis first second told =
    let instance = named t.name s.0.known.topics in
    let replies : List DeleteRecordsPartitionReply = told.0 in
    let served : AreServed (IsTrimTold failed instance) s t.partitions u replies =
    subst (λ es. AreServed (IsTrimTold failed instance) s es u replies) eis
    (subst (λ i. AreServed (IsTrimTold failed i) s entries u replies) tis told.1.1) in
    let many : n ≡ length replies = lis ∙ sym (served_length (IsTrimTold failed instance) s u t.partitions replies served) in
    let bytes = told.1.0 ∙ behind delete_records_partition_reply.written out (string.written t.name) out1 out2 n replies
    (first ∙ ap (λ m. out ++ string.written m) nis) second many
    ∙ ap (λ l. out ++ l) (topic_spelled t.name replies) in
    (record { name = t.name; partitions = replies }, (bytes, (refl, served)))

-- the throttle time, the count of the topics and what they were answered
pub all_trimmed : (failed : Type 0) (q : DeleteRecordsRequest) (s u : World × List TopicPartition) (n : ℕ) (out out1 out2 out3 : List ℕ)
    → n ≡ length q.topics → out1 ≡ out ++ int32.written (pos 0) → out2 ≡ out1 ++ (count w32).written n
    → (replies : List DeleteRecordsTopicReply) ×
    ((out3 ≡ out2 ++ flat_map delete_records_topic_reply.written replies) × AreServed (IsTrimTopicTold failed) s q.topics u replies)
    → (reply : DeleteRecordsReply) × ((out3 ≡ out ++ delete_records_reply.written reply) × AreTrimsTold failed s q u reply)
all_trimmed failed q s u n out out1 out2 out3 lis first second told =
    let replies : List DeleteRecordsTopicReply = told.0 in
    let many : n ≡ length replies = lis ∙ sym (served_length (IsTrimTopicTold failed) s u q.topics replies told.1.1) in
    let bytes = told.1.0 ∙ behind delete_records_topic_reply.written out (int32.written (pos 0)) out1 out2 n replies first second many
    ∙ ap (λ l. out ++ l) (reply_spelled replies) in
    (record { throttle_time_ms = pos 0; topics = replies }, (bytes, (refl, told.1.1)))
