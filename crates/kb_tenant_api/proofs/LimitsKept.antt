-- No request of a tenant brings what it has past its limits, by the laws of its topics.
use Rattle.std.proofs.Common.{ℕ, ℤ, List}
use Rattle.kb_coordinator.specs.Groups.{Groups}
use Rattle.kb_tenant_state.specs.World.{World}
use Rattle.kb_tenant.specs.LimitsKept.{AreLimitsKept, HasOrderedCommits}
use Rattle.kb_tenant.specs.declared.node.Node.{Node}
use Rattle.kb_tenant.proofs.LimitsKept.{Stays, stays_same}
use Rattle.kb_tenant.proofs.RequestsKept.{commit_stays, served_stays as topics_stay}
use Rattle.kb_tenant_api.specs.Serve.{Outcome, commit_refusal, served}
use Rattle.kb_tenant_api.proofs.ByRequest.{by_request}
use Rattle.kb_tenant_api.proofs.GroupMoves.{deleted_stays}

pub served_stays : (node : Node) (w : World) (clock : ℕ) (gs : Groups) (n : ℕ) (key version : ℤ) (body : List ℕ) → Stays node.limits w (served node w clock gs n key version body).world
served_stays node w clock gs n key version body = by_request (λ (o : Outcome). Stays node.limits w o.world) node w clock gs n key version body (record {
  stays = λ after reaction. stays_same node.limits w;
  commit = λ r. commit_stays node.limits w (commit_refusal gs r) r;
  delete = λ r. deleted_stays node.limits w gs r;
  topics = topics_stay node w clock n key version body;
})

pub served_ordered : (node : Node) (w : World) (clock : ℕ) (gs : Groups) (n : ℕ) (key version : ℤ) (body : List ℕ) → HasOrderedCommits w → HasOrderedCommits (served node w clock gs n key version body).world
served_ordered node w clock gs n key version body = (served_stays node w clock gs n key version body).ordered

pub served_kept : (node : Node) (w : World) (clock : ℕ) (gs : Groups) (n : ℕ) (key version : ℤ) (body : List ℕ) → HasOrderedCommits w → AreLimitsKept node.limits w (served node w clock gs n key version body).world
served_kept node w clock gs n key version body = (served_stays node w clock gs n key version body).kept
