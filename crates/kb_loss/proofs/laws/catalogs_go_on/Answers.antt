use Rattle.kb_loss.proofs.Known.{catalog_on}
use Rattle.kb_loss.proofs.laws.catalogs_go_on.Goals as goal

pub returns : goal.returns
returns c = catalog_on
