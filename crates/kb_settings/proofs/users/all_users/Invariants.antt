use Rattle.std.proofs.Common.{◌≡◌, map, drop}
use Rattle.toml.specs.View.{items_view}
use Rattle.kb_settings.specs.Values.{account_of}
use Rattle.kb_settings.specs.Document.{accounts_in}
use Rattle.kb_settings.proofs.Entries.{joined}
use Rattle.kb_settings.proofs.users.all_users.Given as goal

abbrev pub invariant-entries : goal.invariant-entries
invariant-entries l = accounts_in (items_view l.entries) ≡ joined (map account_of l.users.items) (accounts_in (items_view (drop l.entry-index l.entries)))
