use Rattle.std.proofs.Common.{◌≡◌, ◌∙◌, ◌<◌, ◌≤◌, ◌+◌, ◌-◌, sym, subst, ap, arith, Some, None, length, slice_get}
use Rattle.std.specs.List.{flat_map, remove}
use Rattle.std.specs.Prelude.{is_some}
use Rattle.kb_coordinator.specs.Calls.{deleted}
use Rattle.kb_coordinator.specs.Groups.{AreSorted, AreWithin, Groups, earliest, found, place_of}
use Rattle.kb_coordinator.proofs.Deleted.{due_removed, removed_fits, sorted_removed, within_removed, without_at, without_none}
use Rattle.kb_coordinator.proofs.Lists.{at_index, found_at, found_none, place_below}
use Rattle.kb_coordinator.proofs.Places.{groups_of}
use Rattle.kb_coordinator.proofs.coordinator.Coordinator.delete.Goals as goal

pub returns-in_default-clause-there : goal.returns-in_default-clause-there
returns-in_default-clause-there c =
    let es = c.self.inside.groups.items in
    let id = c.args.id.now in
    let q : place_of id es ≡ None = ap (λ (g : Groups). place_of id g.groups) c.self.view_is ∙ sym c.in_default.ensures in
    ap is_some (sym (found_none id es q)) ∙ ap (λ (g : Groups). is_some (found id g.groups)) c.self.view_is

pub returns-in_default-clause-deleted : goal.returns-in_default-clause-deleted
returns-in_default-clause-deleted c =
    let es = c.self.inside.groups.items in
    let id = c.args.id.now in
    let q : place_of id es ≡ None = ap (λ (g : Groups). place_of id g.groups) c.self.view_is ∙ sym c.in_default.ensures in
    sym c.self.view_is ∙ ap (λ xs. groups_of xs c.self.inside.members c.self.inside.limits (flat_map (λ v. v.items) c.self.inside.released.items)) (sym (without_none id es q)) ∙ ap (deleted id) c.self.view_is

pub remove-entry-requires : goal.remove-entry-requires
remove-entry-requires c =
    let es = c.self.inside.groups.items in
    let id = c.args.id.now in
    let p : place_of id es ≡ Some c.in-Some.place = ap (λ (g : Groups). place_of id g.groups) c.self.view_is ∙ sym c.in-Some.ensures in
    let below : c.in-Some.place < length es = place_below id es c.in-Some.place p in
    omega (arith, below, c.self.inside.groups.ok)

pub invariant_of-self : goal.invariant_of-self
invariant_of-self c =
    let es = c.self.inside.groups.items in
    let id = c.args.id.now in
    let e = c.remove-entry.result in
    let limits = c.self.inside.limits in
    let bytes = c.self.inside.bytes in
    let p : place_of id es ≡ Some c.in-Some.place = ap (λ (g : Groups). place_of id g.groups) c.self.view_is ∙ sym c.in-Some.ensures in
    let at : slice_get es c.in-Some.place ≡ Some e = at_index es c.in-Some.place e (place_below id es c.in-Some.place p) c.remove-entry.ensures.value in
    let same = sym c.remove-entry.ensures.items in
    let text : length c.as_slice.result.now ≡ length e.id = ap length c.as_slice.ensures in
    let within = within_removed limits es c.in-Some.place e bytes c.bytes.result c.self.invariant.3 at c.bytes.ensures in (
      c.self.invariant.0,
      subst (λ xs. c.self.inside.quiet_until ≤ earliest xs) same (due_removed es c.in-Some.place c.self.inside.quiet_until c.self.invariant.1),
      subst AreSorted same (sorted_removed es c.in-Some.place c.self.invariant.2),
      subst (λ xs. AreWithin limits (bytes - (c.bytes.result + length c.as_slice.result.now)) xs) same (subst (λ n. AreWithin limits (bytes - (c.bytes.result + n)) (remove es c.in-Some.place)) (sym text) within),
      c.self.invariant.4,
    )

pub returns-clause-there : goal.returns-clause-there
returns-clause-there c =
    let es = c.self.inside.groups.items in
    let id = c.args.id.now in
    let e = c.remove-entry.result in
    let p : place_of id es ≡ Some c.in-Some.place = ap (λ (g : Groups). place_of id g.groups) c.self.view_is ∙ sym c.in-Some.ensures in
    let at : slice_get es c.in-Some.place ≡ Some e = at_index es c.in-Some.place e (place_below id es c.in-Some.place p) c.remove-entry.ensures.value in
    ap is_some (sym (found_at id es c.in-Some.place e p at)) ∙ ap (λ (g : Groups). is_some (found id g.groups)) c.self.view_is

pub returns-clause-deleted : goal.returns-clause-deleted
returns-clause-deleted c =
    let es = c.self.inside.groups.items in
    let id = c.args.id.now in
    let p : place_of id es ≡ Some c.in-Some.place = ap (λ (g : Groups). place_of id g.groups) c.self.view_is ∙ sym c.in-Some.ensures in
    ap (λ xs. groups_of xs c.self.inside.members c.self.inside.limits (flat_map (λ v. v.items) c.self.inside.released.items)) (c.remove-entry.ensures.items ∙ without_at id es c.in-Some.place p) ∙ ap (deleted id) c.self.view_is

pub overflow_sub-self : goal.overflow_sub-self
overflow_sub-self c =
    let es = c.self.inside.groups.items in
    let id = c.args.id.now in
    let e = c.remove-entry.result in
    let p : place_of id es ≡ Some c.in-Some.place = ap (λ (g : Groups). place_of id g.groups) c.self.view_is ∙ sym c.in-Some.ensures in
    let at : slice_get es c.in-Some.place ≡ Some e = at_index es c.in-Some.place e (place_below id es c.in-Some.place p) c.remove-entry.ensures.value in
    let fits = removed_fits c.self.inside.limits es c.in-Some.place e c.self.inside.bytes c.bytes.result c.self.invariant.3 at c.bytes.ensures in
    let text : length c.as_slice.result.now ≡ length e.id = ap length c.as_slice.ensures in
    omega (arith, text, fits.1, fits.2)

pub overflow_add-bytes : goal.overflow_add-bytes
overflow_add-bytes c =
    let es = c.self.inside.groups.items in
    let id = c.args.id.now in
    let e = c.remove-entry.result in
    let p : place_of id es ≡ Some c.in-Some.place = ap (λ (g : Groups). place_of id g.groups) c.self.view_is ∙ sym c.in-Some.ensures in
    let at : slice_get es c.in-Some.place ≡ Some e = at_index es c.in-Some.place e (place_below id es c.in-Some.place p) c.remove-entry.ensures.value in
    let fits = removed_fits c.self.inside.limits es c.in-Some.place e c.self.inside.bytes c.bytes.result c.self.invariant.3 at c.bytes.ensures in
    omega (arith, fits.1, fits.2)
