use Rattle.std.proofs.Common.{rules, tests, string_bytes}
use Rattle.std.specs.Str.{bytes_eq}
use Rattle.std.proofs.lemmas.Iterator.{YieldsList-from_slice}
use Rattle.std.proofs.lemmas.Iterator.Search.{find_from_yields_List}
use Rattle.kb_settings.proofs.AllowedConnections.{found_limits}
use Rattle.kb_settings.proofs.tenants.limits_of.Goals as goal

pub returns : goal.returns
returns c =
    found_limits c.args.name.now c.args.tenants.now c.find.result
    (find_from_yields_List (λ t. bytes_eq (string_bytes t.name) c.args.name.now) _ _ c.find.result c.find.ensures.ran (YieldsList-from_slice c.args.tenants.now cc) (λ x b q k. search (rules, tests)))
