use Rattle.std.proofs.Common.{sym, ap, ◌∙◌}
use Rattle.std.specs.FinMap as map
use Rattle.std.specs.Ordering.{nat_cmp}
use Rattle.std.proofs.lemmas.Map.Keys.{IsDistinct-from_sorted}
use Rattle.kb_waits.specs.Entries.{wait_at}
use Rattle.kb_waits.proofs.Queues.{len-queue_by}
use Rattle.kb_waits.proofs.entries.Entries.len.Goals as goal

pub returns : goal.returns
returns c = c.len.ensures.len
    ∙ sym (len-queue_by (wait_at c.self.inside.slab) c.self.inside.slots.entries (IsDistinct-from_sorted nat_cmp _ c.len.ensures.ordered))
    ∙ ap map.len c.self.view_is
