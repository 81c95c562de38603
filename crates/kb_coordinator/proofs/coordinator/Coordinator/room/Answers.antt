use Rattle.std.proofs.Common.{◌≡◌, ◌<◌, sym, subst, Some, slice_get, length}
use Rattle.std.specs.List.{flat_map}
use Rattle.kb_coordinator.specs.Groups.{Groups}
use Rattle.kb_coordinator.proofs.Lists.{at_index}
use Rattle.kb_coordinator.proofs.Kept.{put_below, room_is}
use Rattle.kb_coordinator.proofs.coordinator.Coordinator.room.Goals as goal

pub overflow_sub-others : goal.overflow_sub-others
overflow_sub-others c =
    let es = c.self.inside.groups.items in
    let below : c.args.place < length es = subst (λ (gs : Groups). c.args.place < length gs.groups) (sym c.self.view_is) c.requires in
    let there : slice_get es c.args.place ≡ Some c.index.result.now = at_index es c.args.place c.index.result.now below c.index.ensures in
    put_below c.self.inside.limits es c.args.place c.index.result.now c.self.inside.bytes c.bytes.result c.self.invariant.3 there c.bytes.ensures

pub returns-clause-value : goal.returns-clause-value
returns-clause-value c e at =
    let es = c.self.inside.groups.items in
    let below : c.args.place < length es = subst (λ (gs : Groups). c.args.place < length gs.groups) (sym c.self.view_is) c.requires in
    let there : slice_get es c.args.place ≡ Some c.index.result.now = at_index es c.args.place c.index.result.now below c.index.ensures in
    room_is es c.self.inside.members c.self.inside.limits (flat_map (λ v. v.items) c.self.inside.released.items) c.args.self.now c.args.place c.index.result.now e c.self.inside.bytes c.bytes.result c.self.view_is c.self.invariant.3 there c.bytes.ensures at
