use Rattle.std.proofs.Common.{ap, subst, sym}
use Rattle.std.specs.Ordering.{nat_cmp}
use Rattle.std.specs.Map.{lookup}
use Rattle.std.specs.BTreeMap.{is_at}
use Rattle.kb_log.specs.ListLog.{list_log}
use Rattle.kb_tenant_state.specs.Partitions.{AreSound, places_of}
use Rattle.kb_tenant_tests.proofs.Empty.{none_sound}
use Rattle.kb_tenant_tests.proofs.partitions.made.Goals as goal

pub add-requires-clause-new : goal.add-requires-clause-new
add-requires-clause-new c = ap (λ es. lookup (is_at (nat_cmp 7)) (places_of es)) c.new-partitions.ensures

pub returns : goal.returns
returns c = λ table next. c.in_ok-add.ensures.made.sound table next (subst (λ es. AreSound list_log es table next) (sym c.new-partitions.ensures) (none_sound list_log table next))
