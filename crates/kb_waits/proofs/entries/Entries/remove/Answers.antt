use Rattle.std.proofs.Common.{◌≡◌, sym, ap, ◌∙◌, None}
use Rattle.std.specs.FinMap as map
use Rattle.std.specs.Option.{option_map}
use Rattle.kb_waits.specs.Entry.{wait_of}
use Rattle.kb_waits.specs.Entries.{wait_at, queue_at}
use Rattle.kb_waits.proofs.Queues.{get-queue_by}
use Rattle.kb_waits.proofs.Slots.{queue_at-take, HasSlots-take, entry_there, remove-none}
use Rattle.kb_waits.proofs.entries.Entries.remove.Goals as goal

none_there : (c : goal.After-from_residual) → None ≡ map.get c.args.self.now c.args.connection
none_there c = ap (option_map (wait_at c.self.inside.slab)) c.in_err-slot.ensures.value ∙ sym (get-queue_by (wait_at c.self.inside.slab) c.self.inside.slots.entries c.args.connection) ∙ ap (λ q. map.get q c.args.connection) c.self.view_is

pub returns-in_err-slot-clause-removed : goal.returns-in_err-slot-clause-removed
returns-in_err-slot-clause-removed c =
    ap (queue_at c.self.inside.slab) c.in_err-slot.ensures.unchanged ∙ c.self.view_is ∙ remove-none c.args.self.now c.args.connection (sym (none_there c))

pub returns-in_err-slot-clause-entry : goal.returns-in_err-slot-clause-entry
returns-in_err-slot-clause-entry c = ap (option_map wait_of) c.from_residual.ensures ∙ none_there c

pub invariant_of-self-2 : goal.invariant_of-self-2
invariant_of-self-2 c = HasSlots-take c.self.inside.slab c.try_remove.new.self c.self.inside.slots.entries c.remove.new.self.entries c.args.connection c.in_ok-slot.slot c.self.invariant c.remove.ensures.updates.0 c.try_remove.ensures.updates (sym c.in_ok-slot.ensures.value)

pub returns-clause-removed : goal.returns-clause-removed
returns-clause-removed c =
    queue_at-take c.self.inside.slab c.try_remove.new.self c.self.inside.slots.entries c.remove.new.self.entries c.args.connection c.in_ok-slot.slot c.self.invariant c.remove.ensures.updates.0 c.try_remove.ensures.updates (sym c.in_ok-slot.ensures.value)
    ∙ ap (λ q. map.remove q c.args.connection) c.self.view_is

pub returns-clause-entry : goal.returns-clause-entry
returns-clause-entry c =
    ap (option_map wait_of) c.try_remove.ensures.value
    ∙ entry_there c.self.inside.slab c.try_remove.new.self c.self.inside.slots.entries c.remove.new.self.entries c.args.connection c.in_ok-slot.slot c.self.invariant (sym c.in_ok-slot.ensures.value)
    ∙ ap (λ q. map.get q c.args.connection) c.self.view_is
