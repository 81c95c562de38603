-- What a tenant is told of its limits.
use Rattle.std.specs.Prelude.{◌-◌, ℕ, ℤ, Option, Some, None, min}
use Rattle.kb_over_limit.specs.Over.{none, told}
use Rattle.kb_over_limit.specs.declared.over.OverLimit.{OverLimit}
use Rattle.kb_tenant.specs.declared.answer.Answer as plain
use Rattle.kb_tenant.specs.declared.answer.Answer.TheVariants as replies
use Rattle.kb_tenant.specs.declared.limits.DataLimits.{DataLimits}
use Rattle.kb_tenant_api.specs.declared.answer.Answer.{Answer}
use Rattle.kb_tenant_api.specs.declared.answer.Answer.TheVariants as answers

-- a tenant has at most 1,000 topics, or as many as its limit says
abbrev pub most_topics : Option ℕ → ℕ
most_topics None = 1000
most_topics (Some limit) = min limit 1000

-- how many more it may have where it has so many
abbrev pub room_for : DataLimits → ℕ → ℕ
room_for limits topics = most_topics limits.topics - topics

abbrev pub told_plainly : ℕ → (key version : ℤ) → plain.Answer → OverLimit
told_plainly room key version (replies.Reply reply) = told key version room reply.items
told_plainly room key version (replies.Wait deadline fetch keys) = none
told_plainly room key version replies.NoReply = none
told_plainly room key version replies.Shut = none

-- What the answer to a request of that key and version tells, where so many more topics may be made before it: what its reply says.
abbrev pub told_by : ℕ → (key version : ℤ) → Answer → OverLimit
told_by room key version (answers.Plain answer) = told_plainly room key version answer
told_by room key version answers.Rebalance = none
