-- What a request of a tenant comes to for the connection that sent it.
use Rattle.std.specs.Prelude.{ℤ, List, ℕ, Option, Some, None}
use Rattle.kb_coordinator.specs.Calls.{reply_to}
use Rattle.kb_coordinator.specs.Groups.{Groups}
use Rattle.kb_coordinator.specs.Replies.{spelled}
use Rattle.kb_groups.specs.declared.reply.Reply.{Reply}
use Rattle.kb_tenant.specs.Replies as tenant
use Rattle.kb_tenant.specs.Replies.{Replies, Silent, replies_within}
use Rattle.kb_tenant_api.specs.declared.answer.Answer.{Answer}
use Rattle.kb_tenant_api.specs.declared.answer.Answer.TheVariants as answers

-- a request comes to what needs no group: a reply, a wait for partitions, no reply, or the connection is shut; or it waits until its
-- group answers it, a join for the next generation, a sync for the leader's assignments
pub data Reaction : Type 0 where
  Plain : (reaction : tenant.Reaction) → Reaction
  Rebalances : Reaction

-- a reply with that body
abbrev pub replies : List ℕ → Reaction
replies body = Plain (Replies body)

-- the same, unless its size is past a limit: then the connection is shut
abbrev pub short_replies : Option ℕ → List ℕ → Reaction
short_replies limit body = Plain (replies_within limit body)

-- The answer is that reaction's.
abbrev pub IsAnswer : ℤ → Reaction → Answer → Type 0
IsAnswer id (Plain reaction) (answers.Plain answer) = tenant.IsAnswer id reaction answer
IsAnswer id (Plain reaction) answers.Rebalance = ⊥
IsAnswer id Rebalances (answers.Plain answer) = ⊥
IsAnswer id Rebalances answers.Rebalance = Unit {0}

-- what a request comes to that waits for its group: the group's reply, if there is one now, else silence
abbrev pub told : Option Reply → tenant.Reaction
told None = Silent
told (Some reply) = Replies (spelled reply)

-- what the last request or moment told the request that waits on the connection of that number
abbrev pub told_to : ℕ → Groups → tenant.Reaction
told_to n gs = told (reply_to n gs)
