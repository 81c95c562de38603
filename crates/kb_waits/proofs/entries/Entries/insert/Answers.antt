use Rattle.std.proofs.Common.{sym, ap, ◌∙◌, Some, cond}
use Rattle.std.specs.FinMap as map
use Rattle.kb_waits.specs.Entry.{wait_of}
use Rattle.kb_waits.specs.Entries.{HasSlots, beside}
use Rattle.kb_waits.proofs.Queues.{tied}
use Rattle.kb_waits.proofs.Slots.{Puts, queue_at-put, HasSlots-put, HasSlots-same, queue_at-same}
use Rattle.kb_waits.proofs.entries.Entries.insert.Goals as goal
use Rattle.kb_waits.proofs.entries.Entries.insert.Goals.{After-insert_reserved}

kept : (c : After-insert_reserved) → HasSlots c.reserve.new.self c.self.inside.slots.entries
kept c = HasSlots-same _ _ _ c.reserve.ensures.rest_kept c.self.invariant

puts : (c : After-insert_reserved) → Puts c.args.connection (Some c.insert_reserved.result) c.self.inside.slots.entries c.insert.new.self.entries
puts c = λ q. c.in-Ok.ensures.updates.0 q ∙ ap (λ slot. cond (tied c.args.connection q) (Some slot) (beside q c.self.inside.slots.entries)) (c.vacant_key-slot.ensures.value ∙ sym c.insert_reserved.ensures.key)

pub invariant_of-self-in-Ok : goal.invariant_of-self-in-Ok
invariant_of-self-in-Ok c =
    HasSlots-put c.reserve.new.self c.insert_reserved.new.self c.self.inside.slots.entries c.insert.new.self.entries c.args.connection c.insert_reserved.result (kept c) c.args.entry (puts c) c.insert_reserved.ensures.updates c.insert_reserved.ensures.was_vacant

pub returns-in-Ok-clause-inserted : goal.returns-in-Ok-clause-inserted
returns-in-Ok-clause-inserted c =
    queue_at-put c.reserve.new.self c.insert_reserved.new.self c.self.inside.slots.entries c.insert.new.self.entries c.args.connection c.insert_reserved.result (kept c) c.args.entry (puts c) c.insert_reserved.ensures.updates c.insert_reserved.ensures.was_vacant
    ∙ ap (λ q. map.insert q c.args.connection (wait_of c.args.entry)) (queue_at-same c.self.inside.slab c.reserve.new.self c.self.inside.slots.entries c.reserve.ensures.rest_kept ∙ c.self.view_is)
