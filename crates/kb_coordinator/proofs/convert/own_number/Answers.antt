use Rattle.kb_coordinator.proofs.Named.{named_is}
use Rattle.kb_coordinator.proofs.convert.own_number.Goals as goal

pub returns : goal.returns
returns c = named_is c.args.id.now c.args.number c.ranges.number.fits c.requires
