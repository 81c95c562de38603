-- What a request, by its key and its body, leaves of what fetches wait for.
use Rattle.std.proofs.Common.{◌≡◌, ℕ, ℤ, List, [], ◌∷◌, get_or, Option, Some, None, refl, sym, subst, arith}
use Rattle.std.specs.List.{Contains}
use Rattle.kb_api_data.specs.declared.init_producer_id.InitProducerIdReply.{InitProducerIdReply}
use Rattle.kb_api_data.specs.declared.init_producer_id.InitProducerIdRequest.{InitProducerIdRequest}
use Rattle.kb_api_data.specs.declared.fetch.FetchRequest.{FetchRequest}
use Rattle.kb_wire.specs.ErrorCode.{code_of as code}
use Rattle.kb_wire.specs.declared.error_code.ErrorCode.TheVariants as codes
use Rattle.kb_api_group.specs.declared.offset_commit.OffsetCommitRequest.{OffsetCommitRequest}
use Rattle.kb_topics.specs.Refusals.{issue_refusal}
use Rattle.kb_topics.specs.declared.fault.CatalogFault.{CatalogFault}
use Rattle.kb_tenant_state.specs.Calls.{issue, issued_unless, retain}
use Rattle.kb_tenant_state.specs.Tied.{IsTied}
use Rattle.kb_tenant_state.specs.World.{World}
use Rattle.kb_tenant_state.specs.declared.topic_partition.TopicPartition.{TopicPartition}
use Rattle.kb_tenant.specs.CreateTopics.{made_of}
use Rattle.kb_tenant.specs.Fetch.{fetch_answer, places_of}
use Rattle.kb_tenant.specs.InitProducerId.{id_given, id_refused, init_producer_id}
use Rattle.kb_tenant.specs.OffsetCommit.{committed_all, refusal_of}
use Rattle.kb_tenant.specs.Serve.{Outcome, plainly_served}
use Rattle.kb_tenant.specs.Waiting.{AreApart, StillWaits}
use Rattle.kb_tenant.specs.declared.limits.DataLimits.{DataLimits}
use Rattle.kb_tenant.specs.declared.node.Node.{Node}
use Rattle.kb_tenant.proofs.ByRequest.{by_request, of_creations}
use Rattle.kb_tenant.proofs.CommitMoves.{commit_moves}
use Rattle.kb_tenant.proofs.CreateMoves.{create_moves}
use Rattle.kb_tenant.proofs.DeleteMoves.{delete_moves}
use Rattle.kb_tenant.proofs.Moves.{Moves, stays_same, waits_through}
use Rattle.kb_tenant.proofs.ProduceMoves.{produce_moves}
use Rattle.kb_tenant.proofs.RecordsMoves.{records_moves}
use Rattle.kb_tenant.proofs.RetainMoves.{retain_moves}

-- ---- InitProducerId

issued_moves : (w : World) (o : Option CatalogFault) → Moves [] [] w (issued_unless w o).0
issued_moves w (Some f) = stays_same w []
issued_moves w None = record {
  tied = λ t. record { next = t.next; logs = t.logs };
  told = λ place at. at;
  held = λ t name place log none h. record { topic = h.topic; there = h.there };
}

-- what is answered by whether an id for transactions is asked for
abbrev given_by : World → Option (List ℕ) → World × InitProducerIdReply
given_by w None = id_given (issue w)
given_by w (Some id) = (w, id_refused (code codes.InvalidRequest))

given_moves : (w : World) (o : Option (List ℕ)) → Moves [] [] w (given_by w o).0
given_moves w None = issued_moves w (issue_refusal w.known)
given_moves w (Some id) = stays_same w []

pub init_moves : (w : World) (r : InitProducerIdRequest) → Moves [] [] w (init_producer_id w r).0
init_moves w r = given_moves w r.transactional_id

-- It changes no topic.
issued_topics : (w : World) (o : Option CatalogFault) → (issued_unless w o).0.known.topics ≡ w.known.topics
issued_topics w (Some f) = refl
issued_topics w None = refl

given_topics : (w : World) (o : Option (List ℕ)) → (given_by w o).0.known.topics ≡ w.known.topics
given_topics w None = issued_topics w (issue_refusal w.known)
given_topics w (Some id) = refl

pub init_topics : (w : World) (r : InitProducerIdRequest) → (init_producer_id w r).0.known.topics ≡ w.known.topics
init_topics w r = given_topics w r.transactional_id

-- ---- a request

-- what an outcome leaves
abbrev Leaves : World → Outcome → Type 0
Leaves w o = Moves [] o.touched w o.world

pub serve_leaves : (node : Node) (w : World) (clock n : ℕ) (key version : ℤ) (body : List ℕ) → Leaves w (plainly_served node w clock n key version body)
serve_leaves node w clock n key version body = by_request (Leaves w) node w clock n key version body (record {
  produce = λ r read. produce_moves node.limits.bytes w r;
  fetch = λ r read. stays_same w [];
  list_offsets = λ r read. stays_same w [];
  metadata = λ r read. stays_same w [];
  offset_commit = λ r read. commit_moves node.limits w (refusal_of r.group_id r.generation_id) r;
  offset_fetch = λ r read. stays_same w [];
  find_coordinator = λ r read. stays_same w [];
  create_topics = λ r read. of_creations (Leaves w) node.limits version w r (λ reaction. stays_same w []) (create_moves node.limits w (made_of r));
  delete_topics = λ r read. delete_moves w r;
  delete_records = λ r read. records_moves w r;
  init_producer_id = λ r read. init_moves w r;
  describe_configs = λ r read. stays_same w [];
  shut = stays_same w [];
})

-- ---- the laws

-- no place is among none
pub nowhere : (place : TopicPartition) → Contains [] place → ⊥
nowhere place c = omega (arith, c.1)

-- a request keeps a world tied
pub served_tied : (node : Node) (w : World) (clock n : ℕ) (key version : ℤ) (body : List ℕ) → IsTied w → IsTied (plainly_served node w clock n key version body).world
served_tied node w clock n key version body = (serve_leaves node w clock n key version body).tied

-- a fetch waits on through a request that touches none of its places
pub served_waits : (node : Node) (w : World) (clock n : ℕ) (key version : ℤ) (body : List ℕ) (r : FetchRequest) (deadline : ℕ) → IsTied w → fetch_answer w clock r deadline ≡ None
    → AreApart (places_of w r) (plainly_served node w clock n key version body).touched → StillWaits w (plainly_served node w clock n key version body).world clock r deadline
served_waits node w clock n key version body r deadline tied waits none =
    let o = plainly_served node w clock n key version body in
    waits_through o.touched w o.world (serve_leaves node w clock n key version body) tied clock r deadline waits none

-- it waits on through each commit
pub committed_waits : (limits : DataLimits) (w : World) (clock : ℕ) (refusal : Option ℤ) (q : OffsetCommitRequest) (r : FetchRequest) (deadline : ℕ) → IsTied w → fetch_answer w clock r deadline ≡ None → StillWaits w (committed_all limits w refusal q).0 clock r deadline
committed_waits limits w clock refusal q r deadline tied waits =
    waits_through [] w (committed_all limits w refusal q).0 (commit_moves limits w refusal q) tied clock r deadline waits (λ place asked none. nowhere place none)

-- the same for retention
pub retained_tied : (clock : ℕ) (w : World) (place : TopicPartition) → IsTied w → IsTied (retain clock w place).0
retained_tied clock w place = (retain_moves clock w place).tied

only_one : (place other : TopicPartition) → Contains (place ∷ []) other → place ≡ other
only_one place other c =
    let first : c.0 ≡ 0 = omega (arith, c.1) in
    subst (λ (k : ℕ). get_or (place ∷ []) k other ≡ other) first c.2

pub retained_waits : (clock : ℕ) (w : World) (place : TopicPartition) (r : FetchRequest) (deadline : ℕ) → IsTied w → fetch_answer w clock r deadline ≡ None
    → (Contains (places_of w r) place → ⊥) → StillWaits w (retain clock w place).0 clock r deadline
retained_waits clock w place r deadline tied waits none =
    waits_through (place ∷ []) w (retain clock w place).0 (retain_moves clock w place) tied clock r deadline waits
    (λ other asked c. none (subst (λ x. Contains (places_of w r) x) (sym (only_one place other c)) asked))
