use Rattle.kb_node.specs.Known.{lasting}
use Rattle.kb_node.proofs.Goes.{run_begins, run_knowing, run_on}
use Rattle.kb_node.proofs.Known.{lasting_on}
use Rattle.kb_node.proofs.promises.a_turn_goes_on_with_the_run.Goals as goal

pub returns-clause-begun : goal.returns-clause-begun
returns-clause-begun g c = λ commits. run_begins g.S.Store.disk (lasting g.S.Store.settled g.S.Store.disk g.S.Store.loss commits)

pub returns-clause-turned : goal.returns-clause-turned
returns-clause-turned g c = λ commits. run_on g.S.Store.disk (lasting g.S.Store.settled g.S.Store.disk g.S.Store.loss commits)

pub returns-clause-kept : goal.returns-clause-kept
returns-clause-kept g c = λ old new same refused nows from to.
    let settled = g.S.Store.settled in let disk = g.S.Store.disk in let loss = g.S.Store.loss in
    run_knowing disk (lasting settled disk loss old) (lasting settled disk loss new) nows from to (lasting_on settled disk loss old new same refused)
