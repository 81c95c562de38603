use Rattle.std.proofs.Common.{◌≡◌, ◌∙◌, ◌<◌, false, not, sym, ap, arith, Some, length, slice_get}
use Rattle.std.specs.List.{flat_map}
use Rattle.kb_groups.specs.Members.{has_none}
use Rattle.kb_groups.specs.declared.state.State.{State}
use Rattle.kb_coordinator.specs.Groups.{Groups, place_of}
use Rattle.kb_coordinator.proofs.Lists.{at_index, place_below}
use Rattle.kb_coordinator.proofs.Places.{said_here, said_nowhere}
use Rattle.kb_coordinator.proofs.coordinator.Coordinator.has_members.Goals as goal

pub returns-in-None : goal.returns-in-None
returns-in-None c =
    let es = c.self.inside.groups.items in
    said_nowhere false (λ (g : State). not (has_none g.members)) c.args.id.now es c.self.inside.members c.self.inside.limits (flat_map (λ v. v.items) c.self.inside.released.items) c.args.self.now c.self.view_is
    (ap (λ (g : Groups). place_of c.args.id.now g.groups) c.self.view_is ∙ sym c.in-None.ensures)

pub index-requires : goal.index-requires
index-requires c =
    let es = c.self.inside.groups.items in
    let below : c.in-Some.place < length es = place_below c.args.id.now es c.in-Some.place (ap (λ (g : Groups). place_of c.args.id.now g.groups) c.self.view_is ∙ sym c.in-Some.ensures) in
    omega (arith, below, c.self.inside.groups.ok)

pub returns-in-Some : goal.returns-in-Some
returns-in-Some c =
    let es = c.self.inside.groups.items in
    let id = c.args.id.now in
    let e = c.index.result.now in
    let p : place_of id es ≡ Some c.in-Some.place = ap (λ (g : Groups). place_of id g.groups) c.self.view_is ∙ sym c.in-Some.ensures in
    let at : slice_get es c.in-Some.place ≡ Some e = at_index es c.in-Some.place e (place_below id es c.in-Some.place p) c.index.ensures in
    said_here false (λ (g : State). not (has_none g.members)) id es c.self.inside.members c.self.inside.limits (flat_map (λ v. v.items) c.self.inside.released.items) c.args.self.now c.in-Some.place e _ c.self.view_is p at
    (ap not (c.is_empty.ensures ∙ ap (λ (g : State). has_none g.members) c.state.ensures))
