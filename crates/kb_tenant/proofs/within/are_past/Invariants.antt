use Rattle.std.proofs.Common.{◌≡◌, ◌+◌, take}
use Rattle.kb_tenant.specs.Entries.{with_entries}
use Rattle.kb_tenant.proofs.within.are_past.Given as goal

-- what was counted, and what is left, is the limit
abbrev pub invariant-loop-topic : goal.invariant-loop-topic
invariant-loop-topic g l = with_entries g.T.Entries.own (take l.topic-index l.topics) + l.left ≡ l.fn.limit
