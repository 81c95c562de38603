use Rattle.std.proofs.Common.{sym, ap, ◌∙◌}
use Rattle.std.specs.FinMap as map
use Rattle.kb_waits.specs.Entries.{wait_at}
use Rattle.kb_waits.proofs.Queues.{contains-queue_by}
use Rattle.kb_waits.proofs.entries.Entries.contains.Goals as goal

pub returns : goal.returns
returns c = c.contains_key.ensures
    ∙ sym (contains-queue_by (wait_at c.self.inside.slab) c.self.inside.slots.entries c.args.connection)
    ∙ ap (λ q. map.contains_key q c.args.connection) c.self.view_is
