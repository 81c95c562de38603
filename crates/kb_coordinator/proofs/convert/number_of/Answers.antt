use Rattle.kb_coordinator.proofs.Named.{named_none}
use Rattle.kb_coordinator.proofs.convert.number_of.Goals as goal

pub returns-in-None : goal.returns-in-None
returns-in-None c = named_none c.args.id.now c.in-None.ensures.stranger
