use Rattle.std.proofs.Common.{◌≡◌, ◌∙◌, ◌<◌, ◌++◌, sym, ap, arith, Some, None, length, slice_get}
use Rattle.std.specs.List.{flat_map}
use Rattle.std.proofs.lemmas.Result.{on_ok_weaker}
use Rattle.kb_api_group.specs.Layouts.{described_group}
use Rattle.kb_coordinator.specs.Groups.{Groups, place_of}
use Rattle.kb_coordinator.specs.Tools.{dead, described, description}
use Rattle.kb_coordinator.proofs.Lists.{at_index, place_below}
use Rattle.kb_coordinator.proofs.Places.{said_here, said_nowhere}
use Rattle.kb_coordinator.proofs.coordinator.Coordinator.put_group.Goals as goal

pub returns-in-None : goal.returns-in-None
returns-in-None c =
    let es = c.self.inside.groups.items in
    let id = c.args.id.now in
    let is = said_nowhere (dead id) (described id) id es c.self.inside.members c.self.inside.limits (flat_map (λ v. v.items) c.self.inside.released.items) c.args.self.now c.self.view_is (ap (λ (g : Groups). place_of id g.groups) c.self.view_is ∙ sym c.in-None.ensures) in
    on_ok_weaker c.put_dead.result (λ wrote. wrote ∙ ap (λ x. c.args.sink.now.bytes ++ described_group.written x) (ap dead c.as_bytes.ensures.value ∙ is)) c.put_dead.ensures

pub index-requires : goal.index-requires
index-requires c =
    let es = c.self.inside.groups.items in
    let id = c.args.id.now in
    let below : c.in-Some.place < length es = place_below id es c.in-Some.place (ap (λ (g : Groups). place_of id g.groups) c.self.view_is ∙ sym c.in-Some.ensures) in
    omega (arith, below, c.self.inside.groups.ok)

pub returns-in-Some : goal.returns-in-Some
returns-in-Some c =
    let es = c.self.inside.groups.items in
    let id = c.args.id.now in
    let e = c.index.result.now in
    let p : place_of id es ≡ Some c.in-Some.place = ap (λ (g : Groups). place_of id g.groups) c.self.view_is ∙ sym c.in-Some.ensures in
    let at : slice_get es c.in-Some.place ≡ Some e = at_index es c.in-Some.place e (place_below id es c.in-Some.place p) c.index.ensures in
    let is = said_here (dead id) (described id) id es c.self.inside.members c.self.inside.limits (flat_map (λ v. v.items) c.self.inside.released.items) c.args.self.now c.in-Some.place e (described c.as_bytes-in-Some.result.now c.state-state.result.now) c.self.view_is p at (λ k. described (c.as_bytes-in-Some.ensures.value k) (c.state-state.ensures k)) in
    on_ok_weaker c.put_known.result (λ wrote. wrote ∙ ap (λ x. c.args.sink.now.bytes ++ described_group.written x) is) c.put_known.ensures
