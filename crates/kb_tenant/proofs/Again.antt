-- A fetch that has no answer before and after a change waits for the same places.
use Rattle.std.proofs.Common.{◌≡◌, ◌∙◌, ℕ, ℤ, List, [], ◌∷◌, ◌++◌, Option, Some, None, refl, sym, subst, ap}
use Rattle.std.specs.List.{AllByRecursion, flat_map}
use Rattle.kb_api_data.specs.declared.fetch.FetchPartition.{FetchPartition}
use Rattle.kb_api_data.specs.declared.fetch.FetchTopic.{FetchTopic}
use Rattle.kb_api_data.specs.declared.fetch.FetchRequest.{FetchRequest}
use Rattle.kb_api_group.specs.declared.offset_commit.OffsetCommitRequest.{OffsetCommitRequest}
use Rattle.kb_topics.specs.Known.{named}
use Rattle.kb_tenant_state.specs.Calls.{all_places, retain, retain_all, retain_each}
use Rattle.kb_tenant_state.specs.Tied.{IsTied}
use Rattle.kb_tenant_state.specs.World.{World}
use Rattle.kb_tenant_state.specs.declared.topic_partition.TopicPartition.{TopicPartition}
use Rattle.kb_tenant.specs.CreateTopics.{created_all, made_of}
use Rattle.kb_tenant.specs.Fetch.{fetch_answer, places_in, places_of}
use Rattle.kb_tenant.specs.OffsetCommit.{committed_all, refusal_of}
use Rattle.kb_tenant.specs.Serve.{Outcome, of_produce, of_offset_commit, of_delete_records, of_delete_topics, of_init_producer_id, plainly_served}
use Rattle.kb_topics.specs.WellFormed.{AreNamedApart}
use Rattle.kb_tenant.specs.Waiting.{HasOwnNames}
use Rattle.kb_tenant.specs.declared.limits.DataLimits.{DataLimits}
use Rattle.kb_tenant.specs.declared.node.Node.{Node}
use Rattle.kb_tenant.proofs.Asked.{Finds, all_found}
use Rattle.kb_tenant.proofs.ByRequest.{by_request, of_creations}
use Rattle.kb_tenant.proofs.CommitMoves.{commit_moves, commit_names}
use Rattle.kb_tenant.proofs.CreateMoves.{create_moves}
use Rattle.kb_tenant.proofs.Losing.{create_apart, delete_loses, produce_loses}
use Rattle.kb_tenant.proofs.Moves.{Moves, waits_through}
use Rattle.kb_tenant.proofs.RecordsMoves.{records_alike}
use Rattle.kb_tenant.proofs.RetainMoves.{retain_alike}
use Rattle.kb_tenant.proofs.ServeMoves.{committed_waits, init_moves, init_topics, nowhere}

-- ---- places are found by name

-- the places that a topic's entries ask for, in a world
abbrev places_for : World → FetchTopic → List TopicPartition
places_for w t = places_in (named t.topic w.known.topics) t.partitions

topics_same : (w v : World) (ts : List FetchTopic) → AllByRecursion (λ t. places_for v t ≡ places_for w t) ts → flat_map (places_for v) ts ≡ flat_map (places_for w) ts
topics_same w v [] all = refl
topics_same w v (t ∷ ts) all = ap (λ ps. ps ++ flat_map (places_for v) ts) all.0 ∙ ap (λ ps. places_for w t ++ ps) (topics_same w v ts all.1)

module _ (w v : World) where
  -- where each name leads to the same topic
  named_same : ((name : List ℕ) → named name v.known.topics ≡ named name w.known.topics) → (ts : List FetchTopic) → AllByRecursion (λ t. places_for v t ≡ places_for w t) ts
  named_same same [] = tt
  named_same same (t ∷ ts) = (ap (λ o. places_in o t.partitions) (same t.topic), named_same same ts)

  pub same_places : ((name : List ℕ) → named name v.known.topics ≡ named name w.known.topics) → (r : FetchRequest) → places_of v r ≡ places_of w r
  same_places same r = topics_same w v r.topics (named_same same r.topics)

  module _ (before : (name : List ℕ) (i : ℕ) → named name v.known.topics ≡ Some i → named name w.known.topics ≡ Some i) where
    -- the entries of a topic, each of which is found
    entries_same : (name : List ℕ) (es : List FetchPartition) → AllByRecursion (λ e. Finds v name e) es → places_in (named name v.known.topics) es ≡ places_in (named name w.known.topics) es
    entries_same name [] all = refl
    entries_same name (e ∷ es) all =
        let there = all.0.held.topic in
        ap (λ o. places_in o (e ∷ es)) (there ∙ sym (before name all.0.place.instance there))

    found_same : (ts : List FetchTopic) → AllByRecursion (λ t. AllByRecursion (λ e. Finds v t.topic e) t.partitions) ts → AllByRecursion (λ t. places_for v t ≡ places_for w t) ts
    found_same [] all = tt
    found_same (t ∷ ts) all = (entries_same t.topic t.partitions all.0, found_same ts all.1)

    -- a fetch that has no answer finds all that it asks for, and found it there before
    pub places_back : (clock : ℕ) (r : FetchRequest) (deadline : ℕ) → fetch_answer v clock r deadline ≡ None → places_of v r ≡ places_of w r
    places_back clock r deadline waits = topics_same w v r.topics (found_same r.topics (all_found v clock r deadline waits))

-- ---- a request

-- a change that tells no place
untold : (w v : World) → Moves [] [] w v → IsTied w → (clock : ℕ) (r : FetchRequest) (deadline : ℕ) → fetch_answer w clock r deadline ≡ None → places_of v r ≡ places_of w r
untold w v moves tied clock r deadline waits = (waits_through [] w v moves tied clock r deadline waits (λ place asked none. nowhere place none)).1

pub served_again : (node : Node) (w : World) (clock n : ℕ) (key version : ℤ) (body : List ℕ) (r : FetchRequest) (deadline : ℕ) → IsTied w → HasOwnNames w → fetch_answer w clock r deadline ≡ None
    → fetch_answer (plainly_served node w clock n key version body).world clock r deadline ≡ None → places_of (plainly_served node w clock n key version body).world r ≡ places_of w r
served_again node w clock n key version body r deadline tied own waits =
    by_request (λ (o : Outcome). fetch_answer o.world clock r deadline ≡ None → places_of o.world r ≡ places_of w r) node w clock n key version body (record {
      produce = λ q read after. places_back w (of_produce version node.limits.bytes w q).world ((produce_loses node.limits.bytes w q).before own) clock r deadline after;
      fetch = λ q read after. refl;
      list_offsets = λ q read after. refl;
      metadata = λ q read after. refl;
      offset_commit = λ q read after. untold w (of_offset_commit node.limits w q).world (commit_moves node.limits w (refusal_of q.group_id q.generation_id) q) tied clock r deadline waits;
      offset_fetch = λ q read after. refl;
      find_coordinator = λ q read after. refl;
      create_topics = λ q read. of_creations (λ (o : Outcome). fetch_answer o.world clock r deadline ≡ None → places_of o.world r ≡ places_of w r) node.limits version w q (λ reaction after. refl)
          (λ after. untold w (created_all node.limits w (made_of q)).0 (create_moves node.limits w (made_of q)) tied clock r deadline waits);
      delete_topics = λ q read after. places_back w (of_delete_topics version w q).world ((delete_loses w q).before own) clock r deadline after;
      delete_records = λ q read after. same_places w (of_delete_records w q).world (records_alike w q).names r;
      init_producer_id = λ q read after. untold w (of_init_producer_id w q).world (init_moves w q) tied clock r deadline waits;
      describe_configs = λ q read after. refl;
      shut = λ after. refl;
    })

-- the same after each commit
pub committed_again : (limits : DataLimits) (w : World) (clock : ℕ) (refusal : Option ℤ) (q : OffsetCommitRequest) (r : FetchRequest) (deadline : ℕ) → IsTied w → HasOwnNames w → fetch_answer w clock r deadline ≡ None
    → fetch_answer (committed_all limits w refusal q).0 clock r deadline ≡ None → places_of (committed_all limits w refusal q).0 r ≡ places_of w r
committed_again limits w clock refusal q r deadline tied own waits after = (committed_waits limits w clock refusal q r deadline tied waits).1

-- the names of topics stay apart
pub served_names : (node : Node) (w : World) (clock n : ℕ) (key version : ℤ) (body : List ℕ) → HasOwnNames w → HasOwnNames (plainly_served node w clock n key version body).world
served_names node w clock n key version body own = by_request (λ (o : Outcome). HasOwnNames o.world) node w clock n key version body (record {
  produce = λ q read. (produce_loses node.limits.bytes w q).apart own;
  fetch = λ q read. own;
  list_offsets = λ q read. own;
  metadata = λ q read. own;
  offset_commit = λ q read. commit_names node.limits w (refusal_of q.group_id q.generation_id) q own;
  offset_fetch = λ q read. own;
  find_coordinator = λ q read. own;
  create_topics = λ q read. of_creations (λ (o : Outcome). HasOwnNames o.world) node.limits version w q (λ reaction. own) (create_apart node.limits w (made_of q) own);
  delete_topics = λ q read. (delete_loses w q).apart own;
  delete_records = λ q read. (records_alike w q).apart own;
  init_producer_id = λ q read. subst AreNamedApart (sym (init_topics w q)) own;
  describe_configs = λ q read. own;
  shut = own;
})

-- ---- retention

pub retained_names : (clock : ℕ) (w : World) (place : TopicPartition) → HasOwnNames w → HasOwnNames (retain clock w place).0
retained_names clock w place = (retain_alike clock w place).apart

each_again : (clock : ℕ) (places : List TopicPartition) (w : World) (r : FetchRequest) → places_of (retain_each clock places w).0 r ≡ places_of w r
each_again clock [] w r = refl
each_again clock (place ∷ places) w r =
    let v = (retain clock w place).0 in each_again clock places v r ∙ same_places w v (retain_alike clock w place).names r

pub retained_again : (clock : ℕ) (w : World) (r : FetchRequest) → places_of (retain_all clock w).0 r ≡ places_of w r
retained_again clock w r = each_again clock (all_places w) w r
