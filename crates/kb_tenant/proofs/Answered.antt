-- What is told of an answer, by the key of its request: what its API's function tells, and nothing for the other APIs.
use Rattle.std.proofs.Common.{◌≡◌, ◌∙◌, inl, inr, ℕ, ℤ, true, false, List, ap, refl, sym}
use Rattle.std.specs.Prelude.{Result, Ok, Err, IfOk, OnErr}
use Rattle.std.specs.Ordering.{int_eq}
use Rattle.kb_wire.specs.declared.api_key.TheConstants.{PRODUCE, FETCH, LIST_OFFSETS, METADATA, OFFSET_COMMIT, OFFSET_FETCH}
use Rattle.kb_wire.specs.declared.api_key.TheConstants.{FIND_COORDINATOR, CREATE_TOPICS, DELETE_TOPICS, DELETE_RECORDS, INIT_PRODUCER_ID}
use Rattle.kb_wire.specs.declared.fault.ReadFault.{ReadFault}
use Rattle.kb_api_data.specs.declared.config_key.TheConstants.{DESCRIBE_CONFIGS}
use Rattle.kb_tenant_state.specs.Parts.{Seen}
use Rattle.kb_tenant_state.specs.Scene.{Scene, WhereHonest}
use Rattle.kb_tenant_state.specs.Told.{IsLogFull}
use Rattle.kb_tenant_state.specs.declared.topic_partition.TopicPartition.{TopicPartition}
use Rattle.kb_tenant.specs.Answered.{answered, IsAnswerOrShut, IsTruthful, LooksUp, OnlyReads}
use Rattle.kb_tenant.specs.Serve.{plainly_served, IsServed}
use Rattle.kb_tenant.specs.Told.{Acknowledges, AcknowledgesCommits, AcknowledgesCreations, AcknowledgesDeletions, AcknowledgesIssue}
use Rattle.kb_tenant.specs.Told.{AcknowledgesRemovals, AnswersFetch, AnswersListing, CatalogFailed, CreationFailed, HasFailed, IsSpared}
use Rattle.kb_tenant.specs.declared.answer.Answer.{Answer}
use Rattle.kb_tenant.specs.declared.answer.Answer.TheVariants as answers
use Rattle.kb_tenant.specs.declared.node.Node.{Node}
use Rattle.kb_tenant.specs.declared.request.Request.{Request}

-- ---- keys

-- A key that differs from an API's is not it.
differs : {X : Type 0} (key api : ℤ) → int_eq key api ≡ false → int_eq api api ≡ true → key ≡ api → X
differs key api not own is = let no : true ≡ false = sym own ∙ sym (ap (λ k. int_eq k api) is) ∙ not in absurd cc

-- One API's key is not another's.
other : {X : Type 0} (key api another : ℤ) → key ≡ api → int_eq api another ≡ false → int_eq another another ≡ true → key ≡ another → X
other key api another is not own = differs key another (ap (λ k. int_eq k another) is ∙ not) own

-- The key of none of the APIs that look up.
looks_not : {X : Type 0} (key api : ℤ) → key ≡ api → int_eq api METADATA ≡ false → int_eq api OFFSET_FETCH ≡ false
    → int_eq api FIND_COORDINATOR ≡ false → int_eq api DESCRIBE_CONFIGS ≡ false → LooksUp key → X
looks_not key api is metadata fetch find configs (inl also) = other key api METADATA is metadata refl also
looks_not key api is metadata fetch find configs (inr (inl also)) = other key api OFFSET_FETCH is fetch refl also
looks_not key api is metadata fetch find configs (inr (inr (inl also))) = other key api FIND_COORDINATOR is find refl also
looks_not key api is metadata fetch find configs (inr (inr (inr also))) = other key api DESCRIBE_CONFIGS is configs refl also

-- The key of none of the APIs that change nothing.
pub reads_not : {X : Type 0} (key api : ℤ) → key ≡ api → int_eq api METADATA ≡ false → int_eq api OFFSET_FETCH ≡ false
    → int_eq api FIND_COORDINATOR ≡ false → int_eq api DESCRIBE_CONFIGS ≡ false → int_eq api FETCH ≡ false → int_eq api LIST_OFFSETS ≡ false → OnlyReads key → X
reads_not key api is metadata offsets find configs fetch list (inl looks) = looks_not key api is metadata offsets find configs looks
reads_not key api is metadata offsets find configs fetch list (inr (inl also)) = other key api FETCH is fetch refl also
reads_not key api is metadata offsets find configs fetch list (inr (inr also)) = other key api LIST_OFFSETS is list refl also

-- ---- what is told of an answer

-- That is told of an answer to a request, which takes a tenant from one moment to another.
abbrev pub IsToldOf : Scene Seen → Scene Seen → Node → ℕ → Request → List TopicPartition → Answer → Type 0
IsToldOf a b node clock request touched answer =
    IsTruthful (HasFailed a b) (IsLogFull b) node clock request.connection request.api_key request.api_version request.correlation_id
    request.body.now a.state.world b.state.world touched answer

-- Each API's function tells what its part of that says; the other parts are of other keys.
module _ (a b : Scene Seen) (node : Node) (clock : ℕ) (request : Request) (touched : List TopicPartition) where
  produce_is : (answer : Answer) → request.api_key ≡ PRODUCE
      → Acknowledges (HasFailed a b) node.limits.bytes request.correlation_id request.api_version a.state.world request.body.now
      b.state.world touched answer
      → IsSpared request.api_version a.state.world request.body.now b.state.world answer → IsToldOf a b node clock request touched answer
  produce_is answer is told shut = record {
    produced = λ also. told;
    spared = λ also. shut;
    fetched = other request.api_key PRODUCE FETCH is refl refl;
    listed = other request.api_key PRODUCE LIST_OFFSETS is refl refl;
    created = other request.api_key PRODUCE CREATE_TOPICS is refl refl;
    removed = other request.api_key PRODUCE DELETE_TOPICS is refl refl;
    trimmed = other request.api_key PRODUCE DELETE_RECORDS is refl refl;
    issued = other request.api_key PRODUCE INIT_PRODUCER_ID is refl refl;
    committed = other request.api_key PRODUCE OFFSET_COMMIT is refl refl;
    looked_up = looks_not request.api_key PRODUCE is refl refl refl refl;
    stays = reads_not request.api_key PRODUCE is refl refl refl refl refl refl;
  }

  pub produce_told : (r : Result Answer ReadFault) → request.api_key ≡ PRODUCE
      → IfOk r (λ answer. WhereHonest a b (Acknowledges (HasFailed a b) node.limits.bytes request.correlation_id request.api_version a.state.world request.body.now
      b.state.world touched answer))
      → IfOk r (λ answer. IsSpared request.api_version a.state.world request.body.now b.state.world answer) → OnErr r (b.state.world ≡ a.state.world)
      → WhereHonest a b (IsToldOf a b node clock request touched (answered r))
  produce_told (Ok answer) is told shut spared = λ honest agree. produce_is answer is (told honest agree) shut
  produce_told (Err fault) is told shut spared = λ honest agree. produce_is answers.Shut is (λ q read. inl spared) (inl spared)

  fetch_is : (answer : Answer) → request.api_key ≡ FETCH
      → AnswersFetch (HasFailed a b) request.correlation_id request.api_version node.limits.fetch_bytes a.state.world clock
      request.body.now answer
      → (b.state.world ≡ a.state.world) → IsToldOf a b node clock request touched answer
  fetch_is answer is told same = record {
    produced = other request.api_key FETCH PRODUCE is refl refl;
    spared = other request.api_key FETCH PRODUCE is refl refl;
    fetched = λ also. told;
    listed = other request.api_key FETCH LIST_OFFSETS is refl refl;
    created = other request.api_key FETCH CREATE_TOPICS is refl refl;
    removed = other request.api_key FETCH DELETE_TOPICS is refl refl;
    trimmed = other request.api_key FETCH DELETE_RECORDS is refl refl;
    issued = other request.api_key FETCH INIT_PRODUCER_ID is refl refl;
    committed = other request.api_key FETCH OFFSET_COMMIT is refl refl;
    looked_up = looks_not request.api_key FETCH is refl refl refl refl;
    stays = λ reads. same;
  }

  pub fetch_told : (r : Result Answer ReadFault) → request.api_key ≡ FETCH
      → IfOk r (λ answer. WhereHonest a b (AnswersFetch (HasFailed a b) request.correlation_id request.api_version node.limits.fetch_bytes a.state.world clock
      request.body.now answer))
      → WhereHonest a b (b.state.world ≡ a.state.world)
      → WhereHonest a b (IsToldOf a b node clock request touched (answered r))
  fetch_told (Ok answer) is told same = λ honest agree. fetch_is answer is (told honest agree) (same honest agree)
  fetch_told (Err fault) is told same = λ honest agree. fetch_is answers.Shut is (λ q read. tt) (same honest agree)

  list_offsets_is : (answer : Answer) → request.api_key ≡ LIST_OFFSETS
      → AnswersListing (HasFailed a b) request.correlation_id request.api_version a.state.world request.body.now answer
      → (b.state.world ≡ a.state.world) → IsToldOf a b node clock request touched answer
  list_offsets_is answer is told same = record {
    produced = other request.api_key LIST_OFFSETS PRODUCE is refl refl;
    spared = other request.api_key LIST_OFFSETS PRODUCE is refl refl;
    fetched = other request.api_key LIST_OFFSETS FETCH is refl refl;
    listed = λ also. told;
    created = other request.api_key LIST_OFFSETS CREATE_TOPICS is refl refl;
    removed = other request.api_key LIST_OFFSETS DELETE_TOPICS is refl refl;
    trimmed = other request.api_key LIST_OFFSETS DELETE_RECORDS is refl refl;
    issued = other request.api_key LIST_OFFSETS INIT_PRODUCER_ID is refl refl;
    committed = other request.api_key LIST_OFFSETS OFFSET_COMMIT is refl refl;
    looked_up = looks_not request.api_key LIST_OFFSETS is refl refl refl refl;
    stays = λ reads. same;
  }

  pub list_offsets_told : (r : Result Answer ReadFault) → request.api_key ≡ LIST_OFFSETS
      → IfOk r (λ answer. WhereHonest a b (AnswersListing (HasFailed a b) request.correlation_id request.api_version a.state.world request.body.now answer))
      → WhereHonest a b (b.state.world ≡ a.state.world)
      → WhereHonest a b (IsToldOf a b node clock request touched (answered r))
  list_offsets_told (Ok answer) is told same = λ honest agree. list_offsets_is answer is (told honest agree) (same honest agree)
  list_offsets_told (Err fault) is told same = λ honest agree. list_offsets_is answers.Shut is (λ q read. tt) (same honest agree)

  create_topics_is : (answer : Answer) → request.api_key ≡ CREATE_TOPICS
      → AcknowledgesCreations (CreationFailed a b) node.limits request.correlation_id request.api_version
      a.state.world request.body.now b.state.world answer
      → IsToldOf a b node clock request touched answer
  create_topics_is answer is told = record {
    produced = other request.api_key CREATE_TOPICS PRODUCE is refl refl;
    spared = other request.api_key CREATE_TOPICS PRODUCE is refl refl;
    fetched = other request.api_key CREATE_TOPICS FETCH is refl refl;
    listed = other request.api_key CREATE_TOPICS LIST_OFFSETS is refl refl;
    created = λ also. told;
    removed = other request.api_key CREATE_TOPICS DELETE_TOPICS is refl refl;
    trimmed = other request.api_key CREATE_TOPICS DELETE_RECORDS is refl refl;
    issued = other request.api_key CREATE_TOPICS INIT_PRODUCER_ID is refl refl;
    committed = other request.api_key CREATE_TOPICS OFFSET_COMMIT is refl refl;
    looked_up = looks_not request.api_key CREATE_TOPICS is refl refl refl refl;
    stays = reads_not request.api_key CREATE_TOPICS is refl refl refl refl refl refl;
  }

  pub create_topics_told : (r : Result Answer ReadFault) → request.api_key ≡ CREATE_TOPICS
      → IfOk r (λ answer. WhereHonest a b (AcknowledgesCreations (CreationFailed a b) node.limits request.correlation_id request.api_version
      a.state.world request.body.now b.state.world answer))
      → OnErr r (WhereHonest a b (AcknowledgesCreations (CreationFailed a b) node.limits request.correlation_id request.api_version
      a.state.world request.body.now b.state.world answers.Shut))
      → WhereHonest a b (IsToldOf a b node clock request touched (answered r))
  create_topics_told (Ok answer) is told cut = λ honest agree. create_topics_is answer is (told honest agree)
  create_topics_told (Err fault) is told cut = λ honest agree. create_topics_is answers.Shut is (cut honest agree)

  delete_topics_is : (answer : Answer) → request.api_key ≡ DELETE_TOPICS
      → AcknowledgesRemovals (CatalogFailed a b) node.limits.request_entries request.correlation_id request.api_version
      a.state.world request.body.now b.state.world touched answer
      → IsToldOf a b node clock request touched answer
  delete_topics_is answer is told = record {
    produced = other request.api_key DELETE_TOPICS PRODUCE is refl refl;
    spared = other request.api_key DELETE_TOPICS PRODUCE is refl refl;
    fetched = other request.api_key DELETE_TOPICS FETCH is refl refl;
    listed = other request.api_key DELETE_TOPICS LIST_OFFSETS is refl refl;
    created = other request.api_key DELETE_TOPICS CREATE_TOPICS is refl refl;
    removed = λ also. told;
    trimmed = other request.api_key DELETE_TOPICS DELETE_RECORDS is refl refl;
    issued = other request.api_key DELETE_TOPICS INIT_PRODUCER_ID is refl refl;
    committed = other request.api_key DELETE_TOPICS OFFSET_COMMIT is refl refl;
    looked_up = looks_not request.api_key DELETE_TOPICS is refl refl refl refl;
    stays = reads_not request.api_key DELETE_TOPICS is refl refl refl refl refl refl;
  }

  pub delete_topics_told : (r : Result Answer ReadFault) → request.api_key ≡ DELETE_TOPICS
      → IfOk r (λ answer. WhereHonest a b (AcknowledgesRemovals (CatalogFailed a b) node.limits.request_entries request.correlation_id request.api_version
      a.state.world request.body.now b.state.world touched answer))
      → OnErr r (WhereHonest a b (AcknowledgesRemovals (CatalogFailed a b) node.limits.request_entries request.correlation_id request.api_version
      a.state.world request.body.now b.state.world touched answers.Shut))
      → WhereHonest a b (IsToldOf a b node clock request touched (answered r))
  delete_topics_told (Ok answer) is told cut = λ honest agree. delete_topics_is answer is (told honest agree)
  delete_topics_told (Err fault) is told cut = λ honest agree. delete_topics_is answers.Shut is (cut honest agree)

  delete_records_is : (answer : Answer) → request.api_key ≡ DELETE_RECORDS
      → AcknowledgesDeletions (CatalogFailed a b) node.limits.request_entries request.correlation_id
      a.state.world request.body.now b.state.world touched answer
      → IsToldOf a b node clock request touched answer
  delete_records_is answer is told = record {
    produced = other request.api_key DELETE_RECORDS PRODUCE is refl refl;
    spared = other request.api_key DELETE_RECORDS PRODUCE is refl refl;
    fetched = other request.api_key DELETE_RECORDS FETCH is refl refl;
    listed = other request.api_key DELETE_RECORDS LIST_OFFSETS is refl refl;
    created = other request.api_key DELETE_RECORDS CREATE_TOPICS is refl refl;
    removed = other request.api_key DELETE_RECORDS DELETE_TOPICS is refl refl;
    trimmed = λ also. told;
    issued = other request.api_key DELETE_RECORDS INIT_PRODUCER_ID is refl refl;
    committed = other request.api_key DELETE_RECORDS OFFSET_COMMIT is refl refl;
    looked_up = looks_not request.api_key DELETE_RECORDS is refl refl refl refl;
    stays = reads_not request.api_key DELETE_RECORDS is refl refl refl refl refl refl;
  }

  pub delete_records_told : (r : Result Answer ReadFault) → request.api_key ≡ DELETE_RECORDS
      → IfOk r (λ answer. WhereHonest a b (AcknowledgesDeletions (CatalogFailed a b) node.limits.request_entries request.correlation_id
      a.state.world request.body.now b.state.world touched answer))
      → OnErr r (WhereHonest a b (AcknowledgesDeletions (CatalogFailed a b) node.limits.request_entries request.correlation_id
      a.state.world request.body.now b.state.world touched answers.Shut))
      → WhereHonest a b (IsToldOf a b node clock request touched (answered r))
  delete_records_told (Ok answer) is told cut = λ honest agree. delete_records_is answer is (told honest agree)
  delete_records_told (Err fault) is told cut = λ honest agree. delete_records_is answers.Shut is (cut honest agree)

  init_producer_id_is : (answer : Answer) → request.api_key ≡ INIT_PRODUCER_ID
      → AcknowledgesIssue (CatalogFailed a b) request.correlation_id a.state.world request.body.now b.state.world answer
      → IsToldOf a b node clock request touched answer
  init_producer_id_is answer is told = record {
    produced = other request.api_key INIT_PRODUCER_ID PRODUCE is refl refl;
    spared = other request.api_key INIT_PRODUCER_ID PRODUCE is refl refl;
    fetched = other request.api_key INIT_PRODUCER_ID FETCH is refl refl;
    listed = other request.api_key INIT_PRODUCER_ID LIST_OFFSETS is refl refl;
    created = other request.api_key INIT_PRODUCER_ID CREATE_TOPICS is refl refl;
    removed = other request.api_key INIT_PRODUCER_ID DELETE_TOPICS is refl refl;
    trimmed = other request.api_key INIT_PRODUCER_ID DELETE_RECORDS is refl refl;
    issued = λ also. told;
    committed = other request.api_key INIT_PRODUCER_ID OFFSET_COMMIT is refl refl;
    looked_up = looks_not request.api_key INIT_PRODUCER_ID is refl refl refl refl;
    stays = reads_not request.api_key INIT_PRODUCER_ID is refl refl refl refl refl refl;
  }

  pub init_producer_id_told : (r : Result Answer ReadFault) → request.api_key ≡ INIT_PRODUCER_ID
      → IfOk r (λ answer. WhereHonest a b (AcknowledgesIssue (CatalogFailed a b) request.correlation_id a.state.world request.body.now b.state.world answer))
      → OnErr r (WhereHonest a b (AcknowledgesIssue (CatalogFailed a b) request.correlation_id a.state.world request.body.now b.state.world answers.Shut))
      → WhereHonest a b (IsToldOf a b node clock request touched (answered r))
  init_producer_id_told (Ok answer) is told cut = λ honest agree. init_producer_id_is answer is (told honest agree)
  init_producer_id_told (Err fault) is told cut = λ honest agree. init_producer_id_is answers.Shut is (cut honest agree)

  offset_commit_is : (answer : Answer) → request.api_key ≡ OFFSET_COMMIT
      → AcknowledgesCommits (CatalogFailed a b) node.limits request.correlation_id request.api_version
      a.state.world request.body.now b.state.world answer
      → IsToldOf a b node clock request touched answer
  offset_commit_is answer is told = record {
    produced = other request.api_key OFFSET_COMMIT PRODUCE is refl refl;
    spared = other request.api_key OFFSET_COMMIT PRODUCE is refl refl;
    fetched = other request.api_key OFFSET_COMMIT FETCH is refl refl;
    listed = other request.api_key OFFSET_COMMIT LIST_OFFSETS is refl refl;
    created = other request.api_key OFFSET_COMMIT CREATE_TOPICS is refl refl;
    removed = other request.api_key OFFSET_COMMIT DELETE_TOPICS is refl refl;
    trimmed = other request.api_key OFFSET_COMMIT DELETE_RECORDS is refl refl;
    issued = other request.api_key OFFSET_COMMIT INIT_PRODUCER_ID is refl refl;
    committed = λ also. told;
    looked_up = looks_not request.api_key OFFSET_COMMIT is refl refl refl refl;
    stays = reads_not request.api_key OFFSET_COMMIT is refl refl refl refl refl refl;
  }

  pub offset_commit_told : (r : Result Answer ReadFault) → request.api_key ≡ OFFSET_COMMIT
      → IfOk r (λ answer. WhereHonest a b (AcknowledgesCommits (CatalogFailed a b) node.limits request.correlation_id request.api_version
      a.state.world request.body.now b.state.world answer))
      → OnErr r (WhereHonest a b (AcknowledgesCommits (CatalogFailed a b) node.limits request.correlation_id request.api_version
      a.state.world request.body.now b.state.world answers.Shut))
      → WhereHonest a b (IsToldOf a b node clock request touched (answered r))
  offset_commit_told (Ok answer) is told cut = λ honest agree. offset_commit_is answer is (told honest agree)
  offset_commit_told (Err fault) is told cut = λ honest agree. offset_commit_is answers.Shut is (cut honest agree)

  -- A request of an API that only looks up is answered what is defined, or the connection is shut.
  looked_up_is : (api : ℤ) (answer : Answer) → request.api_key ≡ api
      → int_eq api PRODUCE ≡ false → int_eq api FETCH ≡ false → int_eq api LIST_OFFSETS ≡ false → int_eq api CREATE_TOPICS ≡ false
      → int_eq api DELETE_TOPICS ≡ false → int_eq api DELETE_RECORDS ≡ false → int_eq api INIT_PRODUCER_ID ≡ false
      → int_eq api OFFSET_COMMIT ≡ false
      → IsAnswerOrShut request.correlation_id (plainly_served node a.state.world clock request.connection request.api_key
      request.api_version request.body.now).reaction answer
      → (b.state.world ≡ a.state.world) → IsToldOf a b node clock request touched answer
  looked_up_is api answer is produce fetch list create remove trim issue commit served same = record {
    produced = other request.api_key api PRODUCE is produce refl;
    spared = other request.api_key api PRODUCE is produce refl;
    fetched = other request.api_key api FETCH is fetch refl;
    listed = other request.api_key api LIST_OFFSETS is list refl;
    created = other request.api_key api CREATE_TOPICS is create refl;
    removed = other request.api_key api DELETE_TOPICS is remove refl;
    trimmed = other request.api_key api DELETE_RECORDS is trim refl;
    issued = other request.api_key api INIT_PRODUCER_ID is issue refl;
    committed = other request.api_key api OFFSET_COMMIT is commit refl;
    looked_up = λ looks. served;
    stays = λ reads. same;
  }

  pub looked_up_told : (api : ℤ) (ts : List TopicPartition) (r : Result Answer ReadFault) → request.api_key ≡ api
      → int_eq api PRODUCE ≡ false → int_eq api FETCH ≡ false → int_eq api LIST_OFFSETS ≡ false → int_eq api CREATE_TOPICS ≡ false
      → int_eq api DELETE_TOPICS ≡ false → int_eq api DELETE_RECORDS ≡ false → int_eq api INIT_PRODUCER_ID ≡ false
      → int_eq api OFFSET_COMMIT ≡ false
      → IsServed request.correlation_id (plainly_served node a.state.world clock request.connection request.api_key request.api_version
      request.body.now) a.state.world ts r
      → (b.state.world ≡ a.state.world) → WhereHonest a b (IsToldOf a b node clock request touched (answered r))
  looked_up_told api ts (Ok answer) is produce fetch list create remove trim issue commit served same = λ honest agree.
      looked_up_is api answer is produce fetch list create remove trim issue commit (inl served.2) same
  looked_up_told api ts (Err fault) is produce fetch list create remove trim issue commit served same = λ honest agree.
      looked_up_is api answers.Shut is produce fetch list create remove trim issue commit (inr refl) same

  -- A key of none of the APIs shuts the connection.
  pub none_told : int_eq request.api_key PRODUCE ≡ false → int_eq request.api_key FETCH ≡ false
      → int_eq request.api_key LIST_OFFSETS ≡ false → int_eq request.api_key CREATE_TOPICS ≡ false
      → int_eq request.api_key DELETE_TOPICS ≡ false → int_eq request.api_key DELETE_RECORDS ≡ false
      → int_eq request.api_key INIT_PRODUCER_ID ≡ false → int_eq request.api_key OFFSET_COMMIT ≡ false
      → (b.state.world ≡ a.state.world) → IsToldOf a b node clock request touched answers.Shut
  none_told produce fetch list create remove trim issue commit same = record {
    produced = differs request.api_key PRODUCE produce refl;
    spared = differs request.api_key PRODUCE produce refl;
    fetched = differs request.api_key FETCH fetch refl;
    listed = differs request.api_key LIST_OFFSETS list refl;
    created = differs request.api_key CREATE_TOPICS create refl;
    removed = differs request.api_key DELETE_TOPICS remove refl;
    trimmed = differs request.api_key DELETE_RECORDS trim refl;
    issued = differs request.api_key INIT_PRODUCER_ID issue refl;
    committed = differs request.api_key OFFSET_COMMIT commit refl;
    looked_up = λ looks. inr refl;
    stays = λ reads. same;
  }
