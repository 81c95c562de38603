-- What a tenant's own requests mean to its machine.
use Rattle.std.specs.Prelude.{ℕ, ℤ, List, [], Option, Bool, true, false, nat_le, Result, Ok, Err}
use Rattle.kb_wire.specs.declared.fault.WireFault.{WireFault}
use Rattle.kb_api_data.specs.declared.fetch.FetchRequest.{FetchRequest}
use Rattle.kb_tenant_state.specs.World.{World}
use Rattle.kb_tenant_state.specs.declared.topic_partition.TopicPartition.{TopicPartition}
use Rattle.kb_tenant.specs.Fetch.{asked_fetch, places_of}
use Rattle.kb_tenant_api.specs.Hosted.{Kept, kept_in}
use Rattle.kb_tenant.specs.Replies as tenant
use Rattle.kb_tenant.specs.Serve.{looked}
use Rattle.kb_tenant_api.specs.Replies.{Reaction, told_to}
use Rattle.kb_tenant_api.specs.Serve.{Outcome, served}
use Rattle.kb_tenant.specs.declared.node.Node.{Node}
use Rattle.kb_isolation_spec.specs.declared.head.Head.{Head}

-- what a request waits for: the records that a fetch of that version and body asks, until a moment at most and no more bytes of them than
-- its tenant's limit allows, or its group's answer
pub data Awaited : Type 0 where
  Records : (version : ℤ) (body : List ℕ) (deadline : ℕ) (limit : Option ℕ) → Awaited
  Group : Awaited

-- a request that waits for its answer: what is kept of it for its reply, and what it waits for
pub record Wait : Type 0 where
  pub head : Head
  pub awaited : Awaited

-- what a request on the connection of number n makes of the tenant's world, and comes to
abbrev pub outcome : Node → Kept → ℕ → ℕ → ℤ → ℤ → List ℕ → Outcome
outcome node kept clock n key version body = served node kept.world clock kept.groups n key version body

-- what is kept after a request
unfoldable pub kept_after : Node → Kept → ℕ → ℕ → ℤ → ℤ → List ℕ → Kept
kept_after node kept clock n key version body = let o = outcome node kept clock n key version body in kept_in o.world o.groups

-- what a request comes to for its connection
unfoldable pub reaction_to : Node → Kept → ℕ → ℕ → ℤ → ℤ → List ℕ → Reaction
reaction_to node kept clock n key version body = (outcome node kept clock n key version body).reaction

abbrev pub ready_for : Kept → ℕ → ℕ → Awaited → tenant.Reaction
ready_for kept clock n (Records version body deadline limit) = looked kept.world clock deadline version limit body
ready_for kept clock n Group = told_to n kept.groups

-- what the request comes to now that waits on the connection of number n: a reply where it is ready, else silence
unfoldable pub ready : Kept → ℕ → ℕ → Wait → tenant.Reaction
ready kept clock n wait = ready_for kept clock n wait.awaited

-- the partitions that a fetch asks for, if it was read
abbrev pub asked_in : World → Result FetchRequest WireFault → List TopicPartition
asked_in w (Ok r) = places_of w r
asked_in w (Err fault) = []

abbrev pub asked_for : Kept → Awaited → List TopicPartition
asked_for kept (Records version body deadline limit) = asked_in kept.world (asked_fetch version body)
asked_for kept Group = []

-- the partitions that a waiting request asks for
unfoldable pub asked : Kept → Wait → List TopicPartition
asked kept wait = asked_for kept wait.awaited

-- whether it waits no longer than that, whatever happens
abbrev pub is_overdue : ℕ → Awaited → Bool
is_overdue clock (Records version body deadline limit) = nat_le deadline clock
is_overdue clock Group = false

-- whether it waits for its group
abbrev pub is_members : Awaited → Bool
is_members (Records version body deadline limit) = false
is_members Group = true
