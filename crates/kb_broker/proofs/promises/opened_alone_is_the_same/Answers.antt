use Rattle.std.proofs.Common.{refl}
use Rattle.kb_broker.specs.Members.{broker_numbered_from}
use Rattle.kb_broker.specs.Opening.{opening_listing}
use Rattle.kb_broker.specs.Runs.{happenings}
use Rattle.kb_broker.proofs.Alone.{opened-alone, run-fewer}
use Rattle.kb_broker.proofs.promises.opened_alone_is_the_same.Goals as goal

pub returns-clause-written : goal.returns-clause-written
returns-clause-written c = λ listing settings t events fewer shared after own own_after written own_written a b e p q numbered first second.
    opened-alone (opening_listing listing settings) t (happenings events) (happenings fewer) shared after own own_after written own_written a b refl e p q numbered first second

pub returns-clause-run : goal.returns-clause-run
returns-clause-run c = λ t events fewer shared e r. run-fewer t (happenings events) (happenings fewer) shared e r

pub returns-clause-numbered : goal.returns-clause-numbered
returns-clause-numbered c = λ first listing settings t events fewer shared after own own_after written own_written a b e p q numbered isolated calm.
    opened-alone (broker_numbered_from first (opening_listing listing settings)) t (happenings events) (happenings fewer) shared after own own_after written own_written a b refl e p q numbered isolated calm
