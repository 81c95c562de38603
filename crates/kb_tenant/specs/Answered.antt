-- What the answer to a request tells, whichever its API, whatever memory and the store refused.
use Rattle.std.specs.Prelude.{◌≡◌, ◌≤◌, ◌+◌, ◌^◌, ◌⊎◌, ℕ, ℤ, List, Result, Ok, Err}
use Rattle.kb_wire.specs.declared.api_key.TheConstants.{PRODUCE, FETCH, LIST_OFFSETS, METADATA, OFFSET_COMMIT, OFFSET_FETCH}
use Rattle.kb_wire.specs.declared.api_key.TheConstants.{FIND_COORDINATOR, CREATE_TOPICS, DELETE_TOPICS, DELETE_RECORDS, INIT_PRODUCER_ID}
use Rattle.kb_wire.specs.declared.fault.ReadFault.{ReadFault}
use Rattle.kb_api_data.specs.declared.config_key.TheConstants.{DESCRIBE_CONFIGS}
use Rattle.kb_tenant_state.specs.World.{World}
use Rattle.kb_tenant_state.specs.declared.topic_partition.TopicPartition.{TopicPartition}
use Rattle.kb_tenant.specs.Replies.{Reaction, IsAnswer}
use Rattle.kb_tenant.specs.Serve.{plainly_served}
use Rattle.kb_tenant.specs.Told.{Acknowledges, AcknowledgesCommits, AcknowledgesCreations, AcknowledgesDeletions, AcknowledgesIssue}
use Rattle.kb_tenant.specs.Told.{AcknowledgesRemovals, AnswersFetch, AnswersListing, IsSpared}
use Rattle.kb_tenant.specs.declared.answer.Answer.{Answer}
use Rattle.kb_tenant.specs.declared.answer.Answer.TheVariants as answers
use Rattle.kb_tenant.specs.declared.node.Node.{Node}

-- each instance of a topic was given out
abbrev pub AreInstancesGivenOut : World → Type 0
AreInstancesGivenOut w = 2 ^ 63 ≤ w.known.creates + 1

-- the APIs that only look at what the catalog knows, and answer it
abbrev pub LooksUp : ℤ → Type 0
LooksUp key = (key ≡ METADATA) ⊎ ((key ≡ OFFSET_FETCH) ⊎ ((key ≡ FIND_COORDINATOR) ⊎ (key ≡ DESCRIBE_CONFIGS)))

-- the APIs that change nothing
abbrev pub OnlyReads : ℤ → Type 0
OnlyReads key = LooksUp key ⊎ ((key ≡ FETCH) ⊎ (key ≡ LIST_OFFSETS))

-- what is answered where a fault shuts the connection
abbrev pub answered : Result Answer ReadFault → Answer
answered (Ok answer) = answer
answered (Err fault) = answers.Shut

-- The answer is that reaction's, or the connection is shut.
abbrev pub IsAnswerOrShut : ℤ → Reaction → Answer → Type 0
IsAnswerOrShut id reaction answer = IsAnswer id reaction answer ⊎ (answer ≡ answers.Shut)

-- A request on the connection of number n that came to a world w at a time of the clock, and left v, is answered the truth. Each of its
-- entries did what is defined; or it is answered a code that names what refused it, and changed nothing. What only looks up is answered
-- what is defined. Where the connection is shut instead, a Produce has appended nothing, unless its reply is too long. A CreateTopics, a
-- DeleteTopics, a DeleteRecords or an OffsetCommit did its first entries and nothing else, and an InitProducerId gave one id out at most.
-- `failed` says that the store failed meanwhile, `full` that the catalog's log has no room.
pub record IsTruthful (failed full : Type 0) (node : Node) (clock n : ℕ) (key version id : ℤ) (body : List ℕ) (w v : World)
    (touched : List TopicPartition) (answer : Answer) : Type 0 where
  pub produced : key ≡ PRODUCE → Acknowledges failed node.limits.bytes id version w body v touched answer
  pub spared : key ≡ PRODUCE → IsSpared version w body v answer
  pub fetched : key ≡ FETCH → AnswersFetch failed id version node.limits.fetch_bytes w clock body answer
  pub listed : key ≡ LIST_OFFSETS → AnswersListing failed id version w body answer
  pub created : key ≡ CREATE_TOPICS → AcknowledgesCreations ((failed ⊎ full) ⊎ AreInstancesGivenOut v) node.limits id version w body v answer
  pub removed : key ≡ DELETE_TOPICS → AcknowledgesRemovals (failed ⊎ full) node.limits.request_entries id version w body v touched answer
  pub trimmed : key ≡ DELETE_RECORDS → AcknowledgesDeletions (failed ⊎ full) node.limits.request_entries id w body v touched answer
  pub issued : key ≡ INIT_PRODUCER_ID → AcknowledgesIssue (failed ⊎ full) id w body v answer
  pub committed : key ≡ OFFSET_COMMIT → AcknowledgesCommits (failed ⊎ full) node.limits id version w body v answer
  pub looked_up : LooksUp key → IsAnswerOrShut id (plainly_served node w clock n key version body).reaction answer
  pub stays : OnlyReads key → v ≡ w
