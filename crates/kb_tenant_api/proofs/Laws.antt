-- The laws of a tenant's requests, by those of its topics.
use Rattle.std.proofs.Common.{◌≡◌, ◌∙◌, ℕ, ℤ, List, None, Ok, ap, refl}
use Rattle.kb_wire.specs.declared.api_key.TheConstants.{FETCH}
use Rattle.kb_api_data.specs.declared.fetch.FetchRequest.{FetchRequest}
use Rattle.kb_coordinator.specs.Calls.{reply_among}
use Rattle.kb_coordinator.specs.Groups.{Groups, silent}
use Rattle.kb_tenant_state.specs.Tied.{IsTied}
use Rattle.kb_tenant_state.specs.World.{World}
use Rattle.kb_tenant.specs.Batches.{HasSmallLogs, HoldsBatches}
use Rattle.kb_tenant.specs.Fetch.{asked_fetch, fetch_answer, places_of}
use Rattle.kb_tenant.specs.Replies as tenant_reaction
use Rattle.kb_tenant.specs.Replies.{Silent}
use Rattle.kb_tenant.specs.Waiting.{AreApart, HasOwnNames, StillWaits}
use Rattle.kb_tenant.specs.declared.node.Node.{Node}
use Rattle.kb_tenant.proofs.Again.{committed_again, served_again as topics_again, served_names as topics_names}
use Rattle.kb_tenant.proofs.Batches.{served-holds as topics-hold}
use Rattle.kb_tenant.proofs.CommitMoves.{commit_names, commit_tied}
use Rattle.kb_tenant.proofs.ServeMoves.{committed_waits, served_tied as topics_tied, served_waits as topics_waits}
use Rattle.kb_tenant.proofs.Small.{committed_small, served_small as topics_small}
use Rattle.kb_tenant_api.specs.Replies.{Plain, replies, told_to}
use Rattle.kb_tenant_api.specs.Serve.{Outcome, commit_refusal, served}
use Rattle.kb_tenant_api.proofs.ByRequest.{by_request}
use Rattle.kb_tenant_api.proofs.GroupMoves.{deleted_names, deleted_small, deleted_tied, deleted_waits}

pub served_tied : (node : Node) (w : World) (clock : ℕ) (gs : Groups) (n : ℕ) (key version : ℤ) (body : List ℕ) → IsTied w → IsTied (served node w clock gs n key version body).world
served_tied node w clock gs n key version body tied = by_request (λ (o : Outcome). IsTied o.world) node w clock gs n key version body (record {
  stays = λ after reaction. tied;
  commit = λ r. commit_tied node.limits w (commit_refusal gs r) r tied;
  delete = λ r. deleted_tied w gs r tied;
  topics = topics_tied node w clock n key version body tied;
})

pub served_names : (node : Node) (w : World) (clock : ℕ) (gs : Groups) (n : ℕ) (key version : ℤ) (body : List ℕ) → HasOwnNames w → HasOwnNames (served node w clock gs n key version body).world
served_names node w clock gs n key version body own = by_request (λ (o : Outcome). HasOwnNames o.world) node w clock gs n key version body (record {
  stays = λ after reaction. own;
  commit = λ r. commit_names node.limits w (commit_refusal gs r) r own;
  delete = λ r. deleted_names w gs r own;
  topics = topics_names node w clock n key version body own;
})

pub served_small : (node : Node) (w : World) (clock : ℕ) (gs : Groups) (n : ℕ) (key version : ℤ) (body : List ℕ) → HasSmallLogs w → HasSmallLogs (served node w clock gs n key version body).world
served_small node w clock gs n key version body small = by_request (λ (o : Outcome). HasSmallLogs o.world) node w clock gs n key version body (record {
  stays = λ after reaction. small;
  commit = λ r. committed_small node.limits w (commit_refusal gs r) r small;
  delete = λ r. deleted_small w gs r small;
  topics = topics_small node w clock n key version body small;
})

-- ---- a fetch that waits

-- It waits on in the same world.
waits_here : (w : World) (clock : ℕ) (r : FetchRequest) (deadline : ℕ) → fetch_answer w clock r deadline ≡ None → StillWaits w w clock r deadline
waits_here w clock r deadline waits = (waits, refl)

pub served_waits : (node : Node) (w : World) (clock : ℕ) (gs : Groups) (n : ℕ) (key version : ℤ) (body : List ℕ) (r : FetchRequest) (deadline : ℕ) → IsTied w → fetch_answer w clock r deadline ≡ None
    → AreApart (places_of w r) (served node w clock gs n key version body).touched → StillWaits w (served node w clock gs n key version body).world clock r deadline
served_waits node w clock gs n key version body r deadline tied waits = by_request (λ (o : Outcome). AreApart (places_of w r) o.touched → StillWaits w o.world clock r deadline) node w clock gs n key version body (record {
  stays = λ after reaction apart. waits_here w clock r deadline waits;
  commit = λ q apart. committed_waits node.limits w clock (commit_refusal gs q) q r deadline tied waits;
  delete = λ q apart. deleted_waits w gs q clock r deadline tied waits;
  topics = topics_waits node w clock n key version body r deadline tied waits;
})

pub served_again : (node : Node) (w : World) (clock : ℕ) (gs : Groups) (n : ℕ) (key version : ℤ) (body : List ℕ) (r : FetchRequest) (deadline : ℕ) → IsTied w → HasOwnNames w → fetch_answer w clock r deadline ≡ None
    → fetch_answer (served node w clock gs n key version body).world clock r deadline ≡ None → places_of (served node w clock gs n key version body).world r ≡ places_of w r
served_again node w clock gs n key version body r deadline tied own waits = by_request (λ (o : Outcome). fetch_answer o.world clock r deadline ≡ None → places_of o.world r ≡ places_of w r) node w clock gs n key version body (record {
  stays = λ after reaction none. refl;
  commit = λ q. committed_again node.limits w clock (commit_refusal gs q) q r deadline tied own waits;
  delete = λ q none. (deleted_waits w gs q clock r deadline tied waits).1;
  topics = topics_again node w clock n key version body r deadline tied own waits;
})

-- ---- a request that waits for its group

silent_told : (k : ℕ) (gs : Groups) → told_to k (silent gs) ≡ Silent
unfolding reply_among
silent_told k gs = refl

pub waits_unreleased : (node : Node) (w : World) (clock : ℕ) (gs : Groups) (n k : ℕ) (key version : ℤ) (body : List ℕ) → (served node w clock gs n key version body).groups ≡ silent gs → told_to k (served node w clock gs n key version body).groups ≡ Silent
waits_unreleased node w clock gs n k key version body is = ap (told_to k) is ∙ silent_told k gs

-- ---- a fetch at once

same_plain : {x y : tenant_reaction.Reaction} → Plain x ≡ Plain y → x ≡ y
same_plain h = cc

pub served-holds : (node : Node) (w : World) (clock : ℕ) (gs : Groups) (n : ℕ) (version : ℤ) (body bytes : List ℕ) (r : FetchRequest) → HasSmallLogs w → asked_fetch version body ≡ Ok r
    → (served node w clock gs n FETCH version body).reaction ≡ replies bytes → HoldsBatches version w r bytes
unfolding served
served-holds node w clock gs n version body bytes r small read is = topics-hold node w clock n version body bytes r small read (same_plain is)
