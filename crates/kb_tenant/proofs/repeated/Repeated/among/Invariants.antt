use Rattle.std.proofs.Common.{take}
use Rattle.std.specs.BTreeMap.{get_by}
use Rattle.std.specs.Cmp.Lexicographic.{slice_cmp}
use Rattle.std.specs.Ordering.{nat_cmp}
use Rattle.kb_tenant.proofs.Repeats.{Keeps}
use Rattle.kb_tenant.proofs.repeated.Repeated.among.Given as goal

-- each name among those that were looked at is seen, and each that came again is kept
abbrev pub invariant-loop-topic : goal.invariant-loop-topic
invariant-loop-topic l = record {
  seen : Keeps (λ q. get_by (λ k. slice_cmp nat_cmp q k.now) l.seen) 1 (take l.topic-index l.topics);
  again : Keeps (λ q. get_by (λ k. slice_cmp nat_cmp q k.now) l.names) 2 (take l.topic-index l.topics);
}
