use Rattle.kb_broker.specs.Runs.{happenings}
use Rattle.kb_broker.proofs.Alone.{written-alone}
use Rattle.kb_restart.proofs.Alone.{alone_same, kept_alone, numbered_alone, opens_alike, starts_alone}
use Rattle.kb_restart.proofs.promises.opened_alone_from_files_is_the_same.Goals as goal

pub returns-clause-alone : goal.returns-clause-alone
returns-clause-alone c = alone_same

pub returns-clause-files : goal.returns-clause-files
returns-clause-files c = opens_alike

pub returns-clause-found : goal.returns-clause-found
returns-clause-found c = λ names t name files own_files ts us at alike was is. kept_alone name files own_files alike names t ts us at was is

pub returns-clause-start : goal.returns-clause-start
returns-clause-start c = λ listing settings t name files own_files shared own es at alike was is. starts_alone listing settings t name files own_files shared own es at alike was is

pub returns-clause-numbered : goal.returns-clause-numbered
returns-clause-numbered c = λ first listing settings t name files own_files shared own es at alike was is. numbered_alone listing settings t name files own_files shared own es at alike was is first

pub returns-clause-written : goal.returns-clause-written
returns-clause-written c = λ listing settings t name files own_files events fewer shared after own own_after written own_written at alike was is e p q numbered first second.
    written-alone t (happenings events) (happenings fewer) shared after own own_after written own_written e p q numbered (starts_alone listing settings t name files own_files shared own (happenings events) at alike was is) first second
