use Rattle.kb_isolation_spec.proofs.Throttled.{deletion-base, join-base, replied-plain, replied-throttled}
use Rattle.kb_isolation_spec.proofs.promises.throttle_times_stand_in_front.Goals as goal

pub returns-clause-throttled : goal.returns-clause-throttled
returns-clause-throttled c = replied-throttled

pub returns-clause-plain : goal.returns-clause-plain
returns-clause-plain c = replied-plain

pub returns-clause-join : goal.returns-clause-join
returns-clause-join c = join-base

pub returns-clause-deletion : goal.returns-clause-deletion
returns-clause-deletion c = deletion-base
