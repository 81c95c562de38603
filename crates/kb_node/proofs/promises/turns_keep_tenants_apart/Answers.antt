use Rattle.kb_node.specs.Known.{lasting}
use Rattle.kb_node.proofs.Isolated.{isolated}
use Rattle.kb_node.proofs.promises.turns_keep_tenants_apart.Goals as goal

pub returns : goal.returns
returns g c = λ commits nows from to run rises within honest.
    isolated g.S.Store.disk (lasting g.S.Store.settled g.S.Store.disk g.S.Store.loss commits) from.tried run.deeds from.broker to.broker run.done run.is_run rises within honest
