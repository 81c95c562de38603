-- What a creation, a deletion, an id and a commit are answered, by what the call for it answered, whatever memory and the store
-- refuse.
use Rattle.std.proofs.Common.{◌≡◌, ◌⊎◌, ◌∙◌, ◌++◌, arith, inl, inr, ⊎_elim, ℕ, ℤ, Bool, false, List, Option, Some, None, Result, Ok, Err, ap, refl, subst, sym}
use Rattle.std.specs.Prelude.{length, pos, is_some}
use Rattle.std.specs.Int.{w32}
use Rattle.std.specs.List.{flat_map}
use Rattle.kb_wire.specs.ErrorCode.{code_of}
use Rattle.kb_wire.specs.declared.error_code.ErrorCode.TheVariants as codes
use Rattle.kb_api_data.specs.declared.create_topics.CreateTopic.{CreateTopic}
use Rattle.kb_api_data.specs.declared.create_topics.CreateTopicReply.{CreateTopicReply}
use Rattle.kb_api_data.specs.declared.delete_topics.DeleteTopicReply.{DeleteTopicReply}
use Rattle.kb_api_data.specs.declared.init_producer_id.InitProducerIdReply.{InitProducerIdReply}
use Rattle.kb_api_data.specs.declared.init_producer_id.InitProducerIdRequest.{InitProducerIdRequest}
use Rattle.kb_api_group.specs.Layouts.{commit_partition_reply, commit_topic_reply, offset_commit_reply}
use Rattle.kb_api_group.specs.declared.offset_commit.CommitPartition.{CommitPartition}
use Rattle.kb_api_group.specs.declared.offset_commit.CommitPartitionReply.{CommitPartitionReply}
use Rattle.kb_api_group.specs.declared.offset_commit.CommitTopic.{CommitTopic}
use Rattle.kb_api_group.specs.declared.offset_commit.CommitTopicReply.{CommitTopicReply}
use Rattle.kb_api_group.specs.declared.offset_commit.OffsetCommitReply.{OffsetCommitReply}
use Rattle.kb_api_group.specs.declared.offset_commit.OffsetCommitRequest.{OffsetCommitRequest}
use Rattle.kb_wire.specs.Codec.{array, count, string}
use Rattle.kb_tenant_state.specs.Scene.{Scene, WhereHonest}
use Rattle.kb_topics.specs.CatalogFault.{code_of as fault_code}
use Rattle.kb_topics.specs.Known.{named}
use Rattle.kb_topics.specs.declared.config.TopicConfig.{TopicConfig}
use Rattle.kb_topics.specs.declared.fault.CatalogFault.{CatalogFault}
use Rattle.kb_topics.specs.declared.fault.CatalogFault.TheVariants as catalog
use Rattle.kb_tenant_state.specs.Calls.{create, delete}
use Rattle.kb_tenant_state.specs.Parts.{Seen}
use Rattle.kb_tenant_state.specs.Steps.{IsStep}
use Rattle.kb_tenant_state.specs.Told.{Failed, IsCatalogWant, IsCreationWant, IsDone, IsRefused, Tells}
use Rattle.kb_tenant_state.specs.Counts.{counted_once}
use Rattle.kb_tenant_state.specs.World.{World}
use Rattle.kb_tenant_state.specs.declared.topic_partition.TopicPartition.{TopicPartition}
use Rattle.kb_tenant.specs.CreateTopics.{code_in, is_too_much, made, refusal, room_in, stands_twice}
use Rattle.kb_tenant.specs.declared.limits.DataLimits.{DataLimits}
use Rattle.kb_tenant.specs.DeleteTopics.{deleted, deleted_topic, places_at}
use Rattle.kb_tenant.specs.InitProducerId.{id_refused, init_producer_id}
use Rattle.kb_tenant.specs.Told.{CatalogFailed, CreationFailed, IsCommitTold, IsCommitTopicTold, IsCreationTold, IsDeleted, IsDeletionTold, IsFaultOf, IsIssueTold, IsRemovalTold, IsTold, IsWantCode}
use Rattle.kb_tenant.specs.OffsetCommit.{committed}
use Rattle.kb_tenant.specs.Settings.{settings_in}
use Rattle.kb_tenant.specs.Turns.{AreServed}
use Rattle.kb_tenant.proofs.Acknowledging.{failed_in, served_length, served_so}
use Rattle.kb_tenant.proofs.Committing.{entry_is, fault_speaks, fault_told}
use Rattle.kb_tenant.proofs.Creating.{created_is, made_set}
use Rattle.kb_tenant.proofs.Deleting.{answered_is, deleted_is, never_refused}
use Rattle.kb_tenant.proofs.Fitting.{array_written, written_both}
use Rattle.kb_tenant.proofs.Telling.{done_so}

-- ---- a topic is made

pub made_told : (limits : DataLimits) (a b : Scene Seen) (t : CreateTopic) (twice there : Bool) (name : List ℕ) (partitions : ℤ) (config : TopicConfig) (full : Bool) (r : Result (Unit {0}) CatalogFault) (code : ℤ)
    → there ≡ is_some (named t.name a.state.world.known.topics) → None ≡ refusal twice there t → Some config ≡ settings_in t.configs
    → name ≡ t.name → partitions ≡ t.num_partitions → full ≡ is_too_much limits (room_in limits a.state.world.known) partitions → full ≡ false → code ≡ code_in r
    → Tells a b ((b.state.world, r) ≡ create a.state.world name partitions config) (IsCreationWant a b) r
    → IsTold a b ((b.state.world, code) ≡ made limits twice a.state.world t) (IsFaultOf (IsCreationWant a b) code)
made_told limits a b t twice there name partitions config full r code at is some one many past under here told =
    fault_told a b (IsCreationWant a b) ((b.state.world, r) ≡ create a.state.world name partitions config) ((b.state.world, code) ≡ made limits twice a.state.world t) r code
    (λ made. made_set limits a.state.world b.state.world t twice there name partitions config full r code at is some one many past under made here) here told

-- ---- a topic is deleted

-- what is answered with no error was done, but for a file that may be left
pub deletion_acknowledged : (a b : Scene Seen) (P Also : Type 0) (code : ℤ) → IsDeletionTold a b code P (IsFaultOf (IsCatalogWant a b) code × Also) → code ≡ pos 0 → IsDeleted a b P
deletion_acknowledged a b P Also code told zero =
    ⊎_elim
    (λ one. ⊎_elim (λ done. inl done) (λ refused. absurd (fault_speaks refused.want.0.fault (sym refused.want.0.told ∙ zero))) one)
    (λ left. inr left.1)
    told

-- memory ran out for what is to be told of it
pub untold_deletion : (a b : Scene Seen) (P : Type 0) (code : ℤ) (old new : List TopicPartition) → code ≡ code_of codes.UnknownServerError → new ≡ old
    → b.state.refusals ≡ counted_once a.state.refusals → b.state.world ≡ a.state.world → IsDeletionTold a b code P (IsFaultOf (IsCatalogWant a b) code × (new ≡ old))
untold_deletion a b P code old new is back counted stays =
    inl (inr (record { want = (record { fault = catalog.Memory; told = is; want = tt }, back); counted = counted; stays = λ honest agree. stays }))

-- it was deleted, and its partitions are told
pub deletion_told : (a b : Scene Seen) (Want : Type 0) (old now : List TopicPartition) (name : List ℕ) (i : ℕ) (code : ℤ) → Some i ≡ named name a.state.world.known.topics → now ≡ old ++ places_at a.state.world (Some i) → code ≡ pos 0
    → IsDeleted a b ((b.state.world, Ok tt) ≡ delete a.state.world name)
    → IsDeletionTold a b code (((b.state.world, now), code) ≡ deleted (a.state.world, old) name) Want
deletion_told a b Want old now name i code some told here is =
    ⊎_elim (λ done. inl (inl (done_so a b _ _ by done))) (λ left. inr (here, record { counted = left.counted; met = λ honest agree. by (left.met honest agree) })) is
  where
    by : (b.state.world, Ok tt) ≡ delete a.state.world name → ((b.state.world, now), code) ≡ deleted (a.state.world, old) name
    by step = deleted_is a.state.world b.state.world old now name i code some told step here

-- it was refused, and nothing is told
pub deletion_refused : (a b : Scene Seen) (old now : List TopicPartition) (name : List ℕ) (i : ℕ) (f : CatalogFault) (code : ℤ) → Some i ≡ named name a.state.world.known.topics → now ≡ old → code ≡ fault_code f
    → IsDone a b ((b.state.world, Err f) ≡ delete a.state.world name) ⊎ IsRefused a b (IsCatalogWant a b f)
    → IsDeletionTold a b code (((b.state.world, now), code) ≡ deleted (a.state.world, old) name) (IsFaultOf (IsCatalogWant a b) code × (now ≡ old))
deletion_refused a b old now name i f code some back here is =
    ⊎_elim
    (λ done. inl (inl (done_so a b _ _ (λ step. absurd (never_refused a.state.world b.state.world name i f some step)) done)))
    (λ wanted. inl (inr (record { want = (record { fault = f; told = here; want = wanted.want }, back); counted = wanted.counted; stays = wanted.stays })))
    is

-- ---- the reply for an entry

-- what failed for a want has failed in the end
pub catalog_failed : (a b : Scene Seen) → IsStep a b → b.disk.honest → a.agrees → Failed a b → CatalogFailed a b
catalog_failed a b step honest agree failed =
    inl (failed_in a.disk.failures b.disk.failures b.next a.disk.failures b.disk.failures a.next (omega arith) (omega arith) step.frame.others.later (failed honest agree))

catalog_code : (a b : Scene Seen) → IsStep a b → b.disk.honest → a.agrees → (f : CatalogFault) → IsCatalogWant a b f → IsWantCode (CatalogFailed a b) (fault_code f)
catalog_code a b step honest agree catalog.Name want = absurd want
catalog_code a b step honest agree catalog.Exists want = absurd want
catalog_code a b step honest agree catalog.Partitions want = absurd want
catalog_code a b step honest agree catalog.Limit want = absurd want
catalog_code a b step honest agree catalog.TooMany want = absurd want
catalog_code a b step honest agree catalog.Unknown want = absurd want
catalog_code a b step honest agree catalog.Metadata want = absurd want
catalog_code a b step honest agree catalog.Back want = absurd want
catalog_code a b step honest agree catalog.UsedUp want = absurd want
catalog_code a b step honest agree catalog.Full want = inl (refl, inr (omega (arith, want, step.commands)))
catalog_code a b step honest agree catalog.Store want = inl (refl, catalog_failed a b step honest agree want)
catalog_code a b step honest agree catalog.Memory want = inr refl

creation_code : (a b : Scene Seen) → IsStep a b → b.disk.honest → a.agrees → (f : CatalogFault) → IsCreationWant a b f → IsWantCode (CreationFailed a b) (fault_code f)
creation_code a b step honest agree catalog.Name want = absurd want
creation_code a b step honest agree catalog.Exists want = absurd want
creation_code a b step honest agree catalog.Partitions want = absurd want
creation_code a b step honest agree catalog.Limit want = absurd want
creation_code a b step honest agree catalog.TooMany want = absurd want
creation_code a b step honest agree catalog.Unknown want = absurd want
creation_code a b step honest agree catalog.Metadata want = absurd want
creation_code a b step honest agree catalog.Back want = absurd want
creation_code a b step honest agree catalog.UsedUp want = absurd want
creation_code a b step honest agree catalog.Full want =
    ⊎_elim (λ full. inl (refl, inl (inr (omega (arith, full, step.commands))))) (λ used. inl (refl, inr (omega (arith, used, step.creates)))) want
creation_code a b step honest agree catalog.Store want = inl (refl, inl (catalog_failed a b step honest agree want))
creation_code a b step honest agree catalog.Memory want = inr refl

fault_wants : (Want : CatalogFault → Type 0) (failed : Type 0) (code : ℤ) → ((f : CatalogFault) → Want f → IsWantCode failed (fault_code f)) → IsFaultOf Want code → IsWantCode failed code
fault_wants Want failed code each is = subst (IsWantCode failed) (sym is.told) (each is.fault is.want)

pub catalog_wants : (a b : Scene Seen) (code : ℤ) → IsStep a b → b.disk.honest → a.agrees → IsFaultOf (IsCatalogWant a b) code → IsWantCode (CatalogFailed a b) code
catalog_wants a b code step honest agree is = fault_wants (IsCatalogWant a b) (CatalogFailed a b) code (catalog_code a b step honest agree) is

-- where the store failed in a while it failed in a longer one, and the entry is told so
pub code_so : (P Q : Type 0) → (P → Q) → (code : ℤ) → IsWantCode P code → IsWantCode Q code
code_so P Q f code = ⊎_elim (λ store. inl (store.0, f store.1)) (λ memory. inr memory)

creation_so : (P Q : Type 0) → (P → Q) → (limits : DataLimits) (ts : List CreateTopic) (w : World) (t : CreateTopic) (v : World) (x : CreateTopicReply) → IsCreationTold P limits ts w t v x → IsCreationTold Q limits ts w t v x
creation_so P Q f limits ts w t v x = ⊎_elim (λ done. inl done) (λ refused. inr (refused.0, (refused.1.0, code_so P Q f x.error_code refused.1.1)))

removal_so : (P Q : Type 0) → (P → Q) → (s : World × List TopicPartition) (name : List ℕ) (t : World × List TopicPartition) (x : DeleteTopicReply) → IsRemovalTold P s name t x → IsRemovalTold Q s name t x
removal_so P Q f s name t x = ⊎_elim (λ done. inl done) (λ refused. inr (refused.0, (refused.1.0, code_so P Q f x.error_code refused.1.1)))

commit_so : (P Q : Type 0) → (P → Q) → (limits : DataLimits) (refusal : Option ℤ) (group : List ℕ) (topic : Option ℕ) (w : World) (e : CommitPartition) (v : World) (x : CommitPartitionReply)
    → IsCommitTold P limits refusal group topic w e v x → IsCommitTold Q limits refusal group topic w e v x
commit_so P Q f limits refusal group topic w e v x = ⊎_elim (λ done. inl done) (λ refused. inr (refused.0, (refused.1.0, code_so P Q f x.error_code refused.1.1)))

commit_topic_so : (P Q : Type 0) → (P → Q) → (limits : DataLimits) (refusal : Option ℤ) (group : List ℕ) (w : World) (t : CommitTopic) (v : World) (x : CommitTopicReply)
    → IsCommitTopicTold P limits refusal group w t v x → IsCommitTopicTold Q limits refusal group w t v x
commit_topic_so P Q f limits refusal group w t v x told =
    let topic = named t.name w.known.topics in (
      told.0,
      served_so (IsCommitTold P limits refusal group topic) (IsCommitTold Q limits refusal group topic) (λ s e u y. commit_so P Q f limits refusal group topic s e u y) w v t.partitions x.partitions told.1,
    )

pub creation_told_so : (limits : DataLimits) (a b : Scene Seen) (ts : List CreateTopic) (t : CreateTopic) (name : List ℕ) (twice : Bool) (code sent : ℤ) → IsStep a b → name ≡ t.name → twice ≡ stands_twice t.name ts → sent ≡ code
    → IsTold a b ((b.state.world, code) ≡ made limits twice a.state.world t) (IsFaultOf (IsCreationWant a b) code)
    → WhereHonest a b (IsCreationTold (CreationFailed a b) limits ts a.state.world t b.state.world (record { name = name; error_code = sent }))
creation_told_so limits a b ts t name twice code sent step one again same told honest agree =
    ⊎_elim
    (λ done. inl (created_is limits a.state.world b.state.world ts t name twice code sent one again (done.met honest agree) same))
    (λ refused. inr (refused.stays honest agree, (one, subst (IsWantCode (CreationFailed a b)) (sym same) (fault_wants (IsCreationWant a b) (CreationFailed a b) code (creation_code a b step honest agree) refused.want))))
    told

pub removal_told_so : (a b : Scene Seen) (old now : List TopicPartition) (name text sent : List ℕ) (code carried : ℤ) → IsStep a b → text ≡ name → sent ≡ text → carried ≡ code
    → IsDeletionTold a b code (((b.state.world, now), code) ≡ deleted (a.state.world, old) text) (IsFaultOf (IsCatalogWant a b) code × (now ≡ old))
    → WhereHonest a b (IsRemovalTold (CatalogFailed a b) (a.state.world, old) name (b.state.world, now) (record { name = sent; error_code = carried }))
removal_told_so a b old now name text sent code carried step one two same told honest agree =
    ⊎_elim
    (λ is. ⊎_elim (λ done. inl (by (done.met honest agree)))
    (λ refused. inr (ap (λ w. (w, now)) (refused.stays honest agree) ∙ ap (λ places. (a.state.world, places)) refused.want.1, (two ∙ one, subst (IsWantCode (CatalogFailed a b)) (sym same) (catalog_wants a b code step honest agree refused.want.0)))) is)
    (λ left. inl (by (left.1.met honest agree)))
    told
  where
    by : ((b.state.world, now), code) ≡ deleted (a.state.world, old) text → ((b.state.world, now), (let x : DeleteTopicReply = record { name = sent; error_code = carried } in x)) ≡ deleted_topic (a.state.world, old) name
    by step = answered_is a.state.world b.state.world old now name text sent code carried one two step same

pub issue_told_so : (a b : Scene Seen) (q : InitProducerIdRequest) (x : InitProducerIdReply) → IsStep a b
    → IsTold a b ((b.state.world, x) ≡ init_producer_id a.state.world q) (IsFaultOf (IsCatalogWant a b) x.error_code × (x ≡ id_refused x.error_code))
    → WhereHonest a b (IsIssueTold (CatalogFailed a b) a.state.world q b.state.world x)
issue_told_so a b q x step told honest agree =
    ⊎_elim
    (λ done. inl (done.met honest agree))
    (λ refused. inr (refused.stays honest agree, (refused.want.1, catalog_wants a b x.error_code step honest agree refused.want.0)))
    told

pub commit_told_so : (a b : Scene Seen) (limits : DataLimits) (refusal : Option ℤ) (group : List ℕ) (topic : Option ℕ) (e : CommitPartition) (partition code sent : ℤ) → IsStep a b → partition ≡ e.partition → sent ≡ code
    → IsTold a b ((b.state.world, code) ≡ committed limits refusal group topic a.state.world e) (IsFaultOf (IsCatalogWant a b) code)
    → WhereHonest a b (IsCommitTold (CatalogFailed a b) limits refusal group topic a.state.world e b.state.world (record { partition = partition; error_code = sent }))
commit_told_so a b limits refusal group topic e partition code sent step one same told honest agree =
    ⊎_elim
    (λ done. inl (entry_is a.state.world b.state.world limits refusal group topic e partition sent code one same (done.met honest agree)))
    (λ refused. inr (refused.stays honest agree, (one, subst (IsWantCode (CatalogFailed a b)) (sym same) (catalog_wants a b code step honest agree refused.want))))
    told

-- ---- a step more

module _ (a b d : Scene Seen) where
  -- what failed before a step, or behind one, failed in both
  pub catalog_later : IsStep b d → CatalogFailed a b → CatalogFailed a d
  catalog_later step = ⊎_elim
      (λ failed. inl (failed_in a.disk.failures d.disk.failures d.next a.disk.failures b.disk.failures b.next (omega arith) step.frame.failures step.frame.others.later failed))
      (λ full. inr (omega (arith, full, step.commands)))

  pub catalog_since : IsStep a b → CatalogFailed b d → CatalogFailed a d
  catalog_since step = ⊎_elim
      (λ failed. inl (failed_in a.disk.failures d.disk.failures d.next b.disk.failures d.disk.failures d.next step.frame.failures (omega arith) (omega arith) failed))
      (λ full. inr full)

  creation_later : IsStep b d → CreationFailed a b → CreationFailed a d
  creation_later step = ⊎_elim (λ failed. inl (catalog_later step failed)) (λ used. inr (omega (arith, used, step.creates)))

  creation_since : IsStep a b → CreationFailed b d → CreationFailed a d
  creation_since step = ⊎_elim (λ failed. inl (catalog_since step failed)) (λ used. inr used)

  -- so what was answered before it, and behind it, is told in both
  pub creations_before : IsStep b d → (limits : DataLimits) (ts es : List CreateTopic) (w v : World) (xs : List CreateTopicReply)
      → AreServed (IsCreationTold (CreationFailed a b) limits ts) w es v xs → AreServed (IsCreationTold (CreationFailed a d) limits ts) w es v xs
  creations_before step limits ts es w v xs told =
      served_so (IsCreationTold (CreationFailed a b) limits ts) (IsCreationTold (CreationFailed a d) limits ts)
      (λ s t u x. creation_so (CreationFailed a b) (CreationFailed a d) (creation_later step) limits ts s t u x) w v es xs told

  pub creation_behind : IsStep a b → (limits : DataLimits) (ts : List CreateTopic) (w : World) (t : CreateTopic) (v : World) (x : CreateTopicReply)
      → IsCreationTold (CreationFailed b d) limits ts w t v x → IsCreationTold (CreationFailed a d) limits ts w t v x
  creation_behind step = creation_so (CreationFailed b d) (CreationFailed a d) (creation_since step)

  pub removals_before : IsStep b d → (names : List (List ℕ)) (s t : World × List TopicPartition) (xs : List DeleteTopicReply)
      → AreServed (IsRemovalTold (CatalogFailed a b)) s names t xs → AreServed (IsRemovalTold (CatalogFailed a d)) s names t xs
  removals_before step names s t xs told =
      served_so (IsRemovalTold (CatalogFailed a b)) (IsRemovalTold (CatalogFailed a d))
      (λ p name q x. removal_so (CatalogFailed a b) (CatalogFailed a d) (catalog_later step) p name q x) s t names xs told

  pub removal_behind : IsStep a b → (s : World × List TopicPartition) (name : List ℕ) (t : World × List TopicPartition) (x : DeleteTopicReply)
      → IsRemovalTold (CatalogFailed b d) s name t x → IsRemovalTold (CatalogFailed a d) s name t x
  removal_behind step = removal_so (CatalogFailed b d) (CatalogFailed a d) (catalog_since step)

  module _ (limits : DataLimits) (refusal : Option ℤ) (group : List ℕ) where
    pub commits_before : IsStep b d → (topic : Option ℕ) (es : List CommitPartition) (w v : World) (xs : List CommitPartitionReply)
        → AreServed (IsCommitTold (CatalogFailed a b) limits refusal group topic) w es v xs → AreServed (IsCommitTold (CatalogFailed a d) limits refusal group topic) w es v xs
    commits_before step topic es w v xs told =
        served_so (IsCommitTold (CatalogFailed a b) limits refusal group topic) (IsCommitTold (CatalogFailed a d) limits refusal group topic)
        (λ s e t x. commit_so (CatalogFailed a b) (CatalogFailed a d) (catalog_later step) limits refusal group topic s e t x) w v es xs told

    pub commit_behind : IsStep a b → (topic : Option ℕ) (w : World) (e : CommitPartition) (v : World) (x : CommitPartitionReply)
        → IsCommitTold (CatalogFailed b d) limits refusal group topic w e v x → IsCommitTold (CatalogFailed a d) limits refusal group topic w e v x
    commit_behind step topic = commit_so (CatalogFailed b d) (CatalogFailed a d) (catalog_since step) limits refusal group topic

    pub commit_topics_before : IsStep b d → (ts : List CommitTopic) (w v : World) (xs : List CommitTopicReply)
        → AreServed (IsCommitTopicTold (CatalogFailed a b) limits refusal group) w ts v xs → AreServed (IsCommitTopicTold (CatalogFailed a d) limits refusal group) w ts v xs
    commit_topics_before step ts w v xs told =
        served_so (IsCommitTopicTold (CatalogFailed a b) limits refusal group) (IsCommitTopicTold (CatalogFailed a d) limits refusal group)
        (λ s t u x. commit_topic_so (CatalogFailed a b) (CatalogFailed a d) (catalog_later step) limits refusal group s t u x) w v ts xs told

    pub commit_topic_behind : IsStep a b → (w : World) (t : CommitTopic) (v : World) (x : CommitTopicReply)
        → IsCommitTopicTold (CatalogFailed b d) limits refusal group w t v x → IsCommitTopicTold (CatalogFailed a d) limits refusal group w t v x
    commit_topic_behind step = commit_topic_so (CatalogFailed b d) (CatalogFailed a d) (catalog_since step) limits refusal group

-- ---- the replies for a group's commit

-- a topic's name, the count of its entries and what they were answered
pub commit_topic_told_so : (failed : Type 0) (limits : DataLimits) (refusal : Option ℤ) (group : List ℕ) (topic : Option ℕ) (w v : World) (t : CommitTopic) (name : List ℕ) (entries : List CommitPartition) (n : ℕ) (out out1 out2 out3 : List ℕ)
    → name ≡ t.name → entries ≡ t.partitions → n ≡ length t.partitions → topic ≡ named t.name w.known.topics
    → out1 ≡ out ++ string.written name → out2 ≡ out1 ++ (count w32).written n
    → (replies : List CommitPartitionReply) × ((out3 ≡ out2 ++ flat_map commit_partition_reply.written replies) × AreServed (IsCommitTold failed limits refusal group topic) w entries v replies)
    → (reply : CommitTopicReply) × ((out3 ≡ out ++ commit_topic_reply.written reply) × IsCommitTopicTold failed limits refusal group w t v reply)
unfolding commit_topic_reply
commit_topic_told_so failed limits refusal group topic w v t name entries n out out1 out2 out3 nis eis lis tis first second told =
    let instance = named t.name w.known.topics in
    let replies : List CommitPartitionReply = told.0 in
    let all = flat_map commit_partition_reply.written replies in
    let told_of : AreServed (IsCommitTold failed limits refusal group instance) w t.partitions v replies =
    subst (λ es. AreServed (IsCommitTold failed limits refusal group instance) w es v replies) eis (subst (λ i. AreServed (IsCommitTold failed limits refusal group i) w entries v replies) tis told.1.1) in
    let many : n ≡ length replies = lis ∙ sym (served_length (IsCommitTold failed limits refusal group instance) w v t.partitions replies told_of) in
    let tail = written_both out1 out2 out3 ((count w32).written n) all second told.1.0 ∙ ap (λ x. out1 ++ x) (array_written commit_partition_reply replies n many) in
    let bytes : out3 ≡ out ++ (string.written t.name ++ (array commit_partition_reply).written replies) =
    written_both out out1 out3 (string.written t.name) ((array commit_partition_reply).written replies) (first ∙ ap (λ m. out ++ string.written m) nis) tail in
    (record { name = t.name; partitions = replies }, (bytes, (refl, told_of)))

-- the count of the topics, and what they were answered
pub commits_told_so : (failed : Type 0) (q : OffsetCommitRequest) (limits : DataLimits) (refusal : Option ℤ) (group : List ℕ) (w v : World) (n : ℕ) (out out1 out2 : List ℕ)
    → group ≡ q.group_id → n ≡ length q.topics → out1 ≡ out ++ (count w32).written n
    → (replies : List CommitTopicReply) × ((out2 ≡ out1 ++ flat_map commit_topic_reply.written replies) × AreServed (IsCommitTopicTold failed limits refusal group) w q.topics v replies)
    → (reply : OffsetCommitReply) × ((out2 ≡ out ++ offset_commit_reply.written reply) × AreServed (IsCommitTopicTold failed limits refusal q.group_id) w q.topics v reply.topics)
unfolding offset_commit_reply
commits_told_so failed q limits refusal group w v n out out1 out2 gis lis first told =
    let replies : List CommitTopicReply = told.0 in
    let told_of : AreServed (IsCommitTopicTold failed limits refusal q.group_id) w q.topics v replies = subst (λ g. AreServed (IsCommitTopicTold failed limits refusal g) w q.topics v replies) gis told.1.1 in
    let many : n ≡ length replies = lis ∙ sym (served_length (IsCommitTopicTold failed limits refusal q.group_id) w v q.topics replies told_of) in
    let bytes = written_both out out1 out2 ((count w32).written n) (flat_map commit_topic_reply.written replies) first told.1.0 ∙ ap (λ x. out ++ x) (array_written commit_topic_reply replies n many) in
    (record { topics = replies }, (bytes, told_of))
