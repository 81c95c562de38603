use Rattle.std.proofs.Common.{◌≡◌, map, drop}
use Rattle.toml.specs.View.{items_view}
use Rattle.kb_settings.specs.Limits.{limits_in}
use Rattle.kb_settings.specs.Document.{all_limits}
use Rattle.kb_settings.proofs.Entries.{joined}
use Rattle.kb_settings.proofs.tenants.all_limits.Given as goal

abbrev pub invariant-entries : goal.invariant-entries
invariant-entries l =
    all_limits l.fn.connections (items_view l.entries)
    ≡ joined (map limits_in l.tenants.items) (all_limits l.fn.connections (items_view (drop l.entry-index l.entries)))
