-- Requests whose connection is shut when their first entries were served.
use Rattle.std.proofs.Common.{◌≡◌, ◌∙◌, ap, inl, refl, sym, subst, ℕ, ℤ, ◌+◌, ◌<◌, List, [], ◌∷◌, ◌++◌, Option, length, take, drop, get_or}
use Rattle.std.proofs.Math.Seq.{drop-length, take-length}
use Rattle.std.proofs.lemmas.List.{drop_more}
use Rattle.kb_wire.specs.Codec.{whole}
use Rattle.kb_api_data.specs.Layouts.{delete_records_request, delete_topics_request, init_producer_id_request}
use Rattle.kb_api_data.specs.declared.delete_records.DeleteRecordsRequest.{DeleteRecordsRequest}
use Rattle.kb_api_data.specs.declared.delete_records.DeleteRecordsTopic.{DeleteRecordsTopic}
use Rattle.kb_api_group.specs.declared.offset_commit.CommitTopic.{CommitTopic}
use Rattle.kb_api_group.specs.declared.offset_commit.OffsetCommitRequest.{OffsetCommitRequest}
use Rattle.kb_store.proofs.Seen.{on_err}
use Rattle.kb_tenant_state.specs.Parts.{Seen}
use Rattle.kb_tenant_state.specs.Scene.{Scene, WhereHonest}
use Rattle.kb_tenant_state.specs.Steps.{IsStep}
use Rattle.kb_tenant_state.specs.World.{World}
use Rattle.kb_tenant_state.specs.declared.topic_partition.TopicPartition.{TopicPartition}
use Rattle.kb_topics.specs.Known.{named}
use Rattle.kb_tenant.specs.CreateTopics.{asked_creations}
use Rattle.kb_tenant.specs.Entries.{commit_entries, create_topics_entries, delete_records_entries, delete_topics_entries, within}
use Rattle.kb_tenant.specs.OffsetCommit.{asked_commit, refusal_of as commit_refusal}
use Rattle.kb_tenant.specs.Replies.{begun, IsAnswer, Replies}
use Rattle.kb_tenant.specs.Told.{AcknowledgesCommits, AcknowledgesCreations, AcknowledgesDeletions, AcknowledgesIssue, AcknowledgesRemovals}
use Rattle.kb_tenant.specs.Told.{AreCommitsCut, AreTrimsCut, CatalogFailed, CreationFailed, IsRepliedOrCut, IsTrimTold}
use Rattle.kb_tenant.specs.Told.{IsCommitTold, IsCommitTopicCut, IsCommitTopicTold}
use Rattle.kb_tenant.specs.Told.{IsTrimTopicCut, IsTrimTopicTold}
use Rattle.kb_tenant.specs.Turns.{AreFirstServed, AreServed, AreServedInto, IsNextServed}
use Rattle.kb_tenant.specs.declared.answer.Answer.{Answer}
use Rattle.kb_tenant.specs.declared.answer.Answer.TheVariants as answers
use Rattle.kb_tenant.proofs.Acknowledging.{served_so}
use Rattle.kb_tenant.specs.declared.limits.DataLimits.{DataLimits}
use Rattle.kb_tenant.proofs.Trimming.{trim_behind}
use Rattle.kb_tenant.proofs.Wanted.{commit_behind}

-- ---- entries

module _ {S E A : Type 0} (R : S → E → S → A → Type 0) where
  -- none
  pub first_none : (s t : S) (es : List E) → t ≡ s → AreFirstServed R s es t
  first_none s t es is = (0, ([], is))

  -- all
  pub first_all : (s t : S) (es : List E) (xs : List A) → AreServed R s es t xs → AreFirstServed R s es t
  first_all s t es xs served = (length es, (xs, subst (λ ys. AreServed R s ys t xs) (sym (take-length es)) served))

  module _ (Last : S → E → S → Type 0) where
    -- none, nor a part of the first one
    pub into_none : (s : S) (es : List E) → ((e : E) → Last s e s) → AreServedInto R Last s es s
    into_none s [] none = (0, ([], (s, (refl, refl))))
    into_none s (e ∷ es) none = (0, ([], (s, (refl, none e))))

    -- all
    pub into_all : (s t : S) (es : List E) (xs : List A) → AreServed R s es t xs → AreServedInto R Last s es t
    into_all s t es xs served = (
      length es,
      (
        xs,
        (
          t,
          (
            subst (λ ys. AreServed R s ys t xs) (sym (take-length es)) served,
            subst (λ ys. IsNextServed Last t ys t) (sym (drop-length es)) refl,
          ),
        ),
      ),
    )

    -- some, and a part of the one behind them
    pub into_next : (s u t : S) (es : List E) (i : ℕ) (e : E) (xs : List A) → i < length es → e ≡ get_or es i e
        → AreServed R s (take i es) u xs → Last u e t → AreServedInto R Last s es t
    into_next s u t es i e xs lt is served last =
        let rest : e ∷ drop (i + 1) es ≡ drop i es = ap (λ x. x ∷ drop (i + 1) es) is ∙ sym (drop_more es i e lt) in
        (i, (xs, (u, (served, subst (λ ys. IsNextServed Last u ys t) rest last))))

-- ---- DeleteRecords

-- No topic is deleted from.
pub trims_none : (failed : Type 0) (s : World × List TopicPartition) (q : DeleteRecordsRequest) → AreTrimsCut failed s q s
trims_none failed s q =
    into_none (IsTrimTopicTold failed) (IsTrimTopicCut failed) s q.topics
    (λ e. first_none (IsTrimTold failed (named e.name s.0.known.topics)) s s e.partitions refl)

-- A topic's entries behind a step are told from before it on.
pub trim_cut_behind : (a b d : Scene Seen) → IsStep a b → (s : World × List TopicPartition) (e : DeleteRecordsTopic)
    (t : World × List TopicPartition) → IsTrimTopicCut (CatalogFailed b d) s e t → IsTrimTopicCut (CatalogFailed a d) s e t
trim_cut_behind a b d step s e t cut =
    let topic = named e.name s.0.known.topics in (
      cut.0,
      (
        cut.1.0,
        served_so (IsTrimTold (CatalogFailed b d) topic) (IsTrimTold (CatalogFailed a d) topic) (trim_behind a b d step topic) s t
            (take cut.0 e.partitions) cut.1.0 cut.1.1,
      ),
    )

-- ---- OffsetCommit

-- Nothing is committed.
pub commits_none : (failed : Type 0) (limits : DataLimits) (refusal : Option ℤ) (w : World) (q : OffsetCommitRequest)
    → AreCommitsCut failed limits refusal w q w
commits_none failed limits refusal w q =
    into_none (IsCommitTopicTold failed limits refusal q.group_id) (IsCommitTopicCut failed limits refusal q.group_id) w q.topics
    (λ t. first_none (IsCommitTold failed limits refusal q.group_id (named t.name w.known.topics)) w w t.partitions refl)

-- A topic's entries behind a step are told from before it on.
pub commit_cut_behind : (a b d : Scene Seen) → IsStep a b → (limits : DataLimits) (refusal : Option ℤ) (group : List ℕ) (w : World)
    (t : CommitTopic) (v : World) → IsCommitTopicCut (CatalogFailed b d) limits refusal group w t v
    → IsCommitTopicCut (CatalogFailed a d) limits refusal group w t v
commit_cut_behind a b d step limits refusal group w t v cut =
    let topic = named t.name w.known.topics in (
      cut.0,
      (
        cut.1.0,
        served_so (IsCommitTold (CatalogFailed b d) limits refusal group topic) (IsCommitTold (CatalogFailed a d) limits refusal group topic)
            (commit_behind a b d limits refusal group step topic) w v (take cut.0 t.partitions) cut.1.0 cut.1.1,
      ),
    )

-- ---- the answer

-- what a body tells that stands behind what was begun; or the connection is shut
pub replied_or_cut : (id : ℤ) (Told : List ℕ → Type 0) (Cut : Type 0) (s t body : List ℕ) (answer : Answer)
    → s ≡ begun id → t ≡ s ++ body → Told body → Cut
    → ((id : ℤ) (body : List ℕ) → t ≡ begun id ++ body → IsAnswer id (Replies body) answer) → IsRepliedOrCut id Told Cut answer
replied_or_cut id Told Cut s t body answer from more told cut made = by answer (made id body (more ∙ ap (λ b. b ++ body) from))
  where
    by : (x : Answer) → IsAnswer id (Replies body) x → IsRepliedOrCut id Told Cut x
    by (answers.Reply bytes) h = (body, (h.1, told))
    by (answers.Wait deadline kept keys) h = absurd h
    by answers.NoReply h = absurd h
    by answers.Shut h = cut

-- a DeleteTopics that changed nothing
pub removals_untouched : (a : Scene Seen) (limit : Option ℕ) (id version : ℤ) (body : List ℕ) (touched : List TopicPartition) → touched ≡ []
    → WhereHonest a a (AcknowledgesRemovals (CatalogFailed a a) limit id version a.state.world body a.state.world touched answers.Shut)
removals_untouched a limit id version body touched none honest agree = (
  λ q read. (0, ([], ap (λ places. (a.state.world, places)) none)),
  on_err (within limit delete_topics_entries (whole delete_topics_request body)) (refl, (refl, none)),
)

-- a DeleteRecords that changed nothing
pub trims_untouched : (a : Scene Seen) (limit : Option ℕ) (id : ℤ) (body : List ℕ) (touched : List TopicPartition) → touched ≡ []
    → WhereHonest a a (AcknowledgesDeletions (CatalogFailed a a) limit id a.state.world body a.state.world touched answers.Shut)
trims_untouched a limit id body touched none honest agree =
    let start : World × List TopicPartition = (a.state.world, []) in (
      λ q read. subst (λ (places : List TopicPartition). AreTrimsCut (CatalogFailed a a) start q (a.state.world, places)) (sym none)
          (trims_none (CatalogFailed a a) start q),
      on_err (within limit delete_records_entries (whole delete_records_request body)) (refl, (refl, none)),
    )

-- a CreateTopics that changed nothing
pub creations_untouched : (a : Scene Seen) (limits : DataLimits) (id version : ℤ) (body : List ℕ)
    → WhereHonest a a (AcknowledgesCreations (CreationFailed a a) limits id version a.state.world body a.state.world answers.Shut)
creations_untouched a limits id version body honest agree = (
  λ q read. ((λ made. (0, ([], refl))), (λ checked. refl)),
  on_err (within limits.request_entries create_topics_entries (asked_creations version body)) (refl, refl),
)

-- an InitProducerId that gave no id out
pub issue_untouched : (a : Scene Seen) (id : ℤ) (body : List ℕ)
    → WhereHonest a a (AcknowledgesIssue (CatalogFailed a a) id a.state.world body a.state.world answers.Shut)
issue_untouched a id body honest agree = (λ q read. inl refl, on_err (whole init_producer_id_request body) (refl, refl))

-- an OffsetCommit that changed nothing
pub commits_untouched : (a : Scene Seen) (limits : DataLimits) (id version : ℤ) (body : List ℕ)
    → WhereHonest a a (AcknowledgesCommits (CatalogFailed a a) limits id version a.state.world body a.state.world answers.Shut)
commits_untouched a limits id version body honest agree = (
  λ q read. commits_none (CatalogFailed a a) limits (commit_refusal q.group_id q.generation_id) a.state.world q,
  on_err (within limits.request_entries commit_entries (asked_commit version body)) (refl, refl),
)
