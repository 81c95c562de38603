use Rattle.std.proofs.Common.{rules, tests}
use Rattle.std.proofs.lemmas.Iterator.{YieldsList-from_slice}
use Rattle.std.proofs.lemmas.Iterator.Search.{find_from_yields_List}
use Rattle.kbroker.proofs.Named.{found_named, is_named}
use Rattle.kbroker.proofs.shown.named.Goals as goal

pub returns : goal.returns
returns g c files =
    found_named g.L.PartitionLog.log files c.args.name.now c.args.tenants.now c.find.result
    (find_from_yields_List (is_named c.args.name.now) _ _ c.find.result c.find.ensures.ran (YieldsList-from_slice c.args.tenants.now cc)
    (λ x b q k. search (rules, tests)))
