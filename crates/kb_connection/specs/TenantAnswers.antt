-- What a tenant's answer does to a connection.
use Rattle.std.specs.Prelude.{ℕ, List, ◌++◌, drop, if◌then◌else◌, Bool, true, false}
use Rattle.kb_tenant.specs.declared.answer.Answer.{Answer}
use Rattle.kb_tenant.specs.declared.answer.Answer.TheVariants as answers
use Rattle.kb_tenant_api.specs.declared.answer.Answer.{Answer as AnyAnswer}
use Rattle.kb_tenant_api.specs.declared.answer.Answer.TheVariants as any
use Rattle.kb_isolation_spec.specs.Tenant.{Awaited, Records, Group, Wait}
use Rattle.kb_isolation_spec.specs.declared.head.Head.{Head}
use Rattle.kb_isolation_spec.specs.Session.{Session, shut_down, replied, unanswerable, waiting, without_wait}

-- the body of a whole reply: what stands behind its size and its correlation id
abbrev pub body_of : List ℕ → List ℕ
body_of reply = drop 8 reply

-- a tenant's whole reply: it is sent as it is, or its body is where a throttle time is to stand in front of it
abbrev pub given_reply : Head → List ℕ → Session → Session
given_reply head reply s = if head.is_throttled then replied head (body_of reply) s else record s { output = s.output ++ reply }

-- an answer to the request of that head, but for a wait
abbrev pub with_final_answer : Head → Answer → Session → Session
with_final_answer head (answers.Reply reply) s = given_reply head reply.items s
with_final_answer head (answers.Wait deadline fetch keys) s = s
with_final_answer head answers.NoReply s = s
with_final_answer head answers.Shut s = shut_down (unanswerable head) s

-- it says nothing to a fetch that waits
abbrev pub is_quiet : Answer → Bool
is_quiet (answers.Reply reply) = false
is_quiet (answers.Wait deadline fetch keys) = true
is_quiet answers.NoReply = true
is_quiet answers.Shut = false

-- it says that the connection is to wait, for records or for its group
abbrev pub is_wait : AnyAnswer → Bool
is_wait (any.Plain (answers.Reply reply)) = false
is_wait (any.Plain (answers.Wait deadline fetch keys)) = true
is_wait (any.Plain answers.NoReply) = false
is_wait (any.Plain answers.Shut) = false
is_wait any.Rebalance = true

-- the connection waits for the answer to a request of that head, or, where it was shut, for nothing
abbrev pub parked : Head → Awaited → Session → Session
parked head awaited s = if s.shut then s else record s { stage = waiting (record { head = head; awaited = awaited }) s.stage }

-- the answer to a request of that head, which stood in front; s is the connection without the request
abbrev pub with_answer : Head → AnyAnswer → Session → Session
with_answer head (any.Plain (answers.Reply reply)) s = given_reply head reply.items s
with_answer head (any.Plain (answers.Wait deadline fetch keys)) s =
    record s { stage = waiting (record { head = head; awaited = Records fetch.version fetch.body deadline fetch.limit }) s.stage }
with_answer head (any.Plain answers.NoReply) s = s
with_answer head (any.Plain answers.Shut) s = shut_down (unanswerable head) s
with_answer head any.Rebalance s = record s { stage = waiting (record { head = head; awaited = Group }) s.stage }

-- the answer to the request of that head that waits on the connection: a reply ends the wait
abbrev pub answered_again : Head → Answer → Session → Session
answered_again head (answers.Reply reply) s = given_reply head reply.items (record s { stage = without_wait s.stage })
answered_again head (answers.Wait deadline fetch keys) s = s
answered_again head answers.NoReply s = s
answered_again head answers.Shut s = shut_down (unanswerable head) s
