use Rattle.std.proofs.Common.{rules, FitsSigned, to_z, of_z, ◌≡◌, ◌<◌, w32, ◌∙◌, sym, ap, arith, Some, slice_get, length, refl}
use Rattle.std.specs.List.{flat_map}
use Rattle.std.proofs.lemmas.Int.{to_z-of_z}
use Rattle.kb_coordinator.specs.Groups.{AreInOrder}
use Rattle.kb_groups.specs.Calls as one
use Rattle.kb_coordinator.specs.Groups.{place_of}
use Rattle.kb_coordinator.specs.Requests.{commit_of_none, error_of, named}
use Rattle.kb_coordinator.proofs.Lists.{at_index, place_below}
use Rattle.kb_coordinator.proofs.Commits.{after_named, commit_named, is_named}
use Rattle.kb_coordinator.proofs.Places.{changed_here, changed_nowhere, none_ordered, quiet_here, said_here, said_nowhere, with_group}
use Rattle.kb_coordinator.proofs.Search.{sorted_put}
use Rattle.kb_groups.proofs.Sizes.{commit_bytes}
use Rattle.kb_groups.specs.Bytes.{group_bytes}
use Rattle.kb_coordinator.proofs.Kept.{within_same}
use Rattle.kb_coordinator.proofs.coordinator.Coordinator.may_commit.Goals as goal

pub returns-in_default-clause-code : goal.returns-in_default-clause-code
returns-in_default-clause-code c =
    let fits : FitsSigned w32 c.args.generation = search rules in
    c.commit_of_none.ensures ∙ ap (λ z. error_of (commit_of_none z)) (to_z-of_z w32 c.args.generation fits)
    ∙ ap error_of (said_nowhere (commit_of_none c.args.generation) (one.may_commit (named c.args.member.now) c.args.generation) c.args.id.now c.self.inside.groups.items c.self.inside.members c.self.inside.limits (flat_map (λ v. v.items) c.self.inside.released.items) c.args.self.now c.self.view_is (sym c.in_default.ensures))
    ∙ commit_named c.args.id.now c.args.member.now c.args.generation c.args.self.now (is_named c.args.id.now c.if-is_empty.ensures)

pub returns-in_default-clause-after : goal.returns-in_default-clause-after
returns-in_default-clause-after c =
    changed_nowhere c.args.id.now (one.after_may_commit c.args.clock (named c.args.member.now) c.args.generation) c.self.inside.groups.items c.self.inside.members c.self.inside.limits (flat_map (λ v. v.items) c.self.inside.released.items) _ c.args.self.now c.self.view_is (sym c.in_default.ensures) (ap (flat_map (λ v. v.items)) c.clear.ensures.items)
    ∙ after_named c.args.clock c.args.id.now c.args.member.now c.args.generation c.args.self.now (is_named c.args.id.now c.if-is_empty.ensures)

pub index_mut-entry-requires : goal.index_mut-entry-requires
index_mut-entry-requires c =
    let es = c.self.inside.groups.items in
    let below : c.in-Some.place < length es = place_below c.args.id.now es c.in-Some.place (sym c.in-Some.ensures) in
    omega (arith, below, c.self.inside.groups.ok)

pub invariant_of-self-3 : goal.invariant_of-self-3
invariant_of-self-3 c =
    let es = c.self.inside.groups.items in
    let id = c.args.id.now in
    let e = c.index_mut-entry.result.now in
    let p : place_of id es ≡ Some c.in-Some.place = sym c.in-Some.ensures in
    let at : slice_get es c.in-Some.place ≡ Some e = at_index es c.in-Some.place e (place_below id es c.in-Some.place p) c.index_mut-entry.ensures.value in (
      c.self.invariant.0,
      quiet_here c.self.inside.groups.items c.in-Some.place c.index_mut-entry.result.now c.may_commit-code.new.self c.self.inside.quiet_until c.quiet_until.result _ c.self.invariant.1 c.quiet_until.ensures c.min-self-inside.ensures,
      sorted_put es c.in-Some.place e (with_group e c.may_commit-code.new.self) at refl c.self.invariant.2,
      within_same c.self.inside.limits es c.in-Some.place e c.may_commit-code.new.self c.self.inside.bytes c.self.invariant.3 at (ap group_bytes c.may_commit-code.ensures.after ∙ commit_bytes c.args.clock c.number_of-number.result (to_z w32 (of_z w32 c.args.generation)) e.group),
      none_ordered (λ v. AreInOrder v.items) _ c.clear.ensures.items,
    )

pub returns-clause-code : goal.returns-clause-code
returns-clause-code c =
    let fits : FitsSigned w32 c.args.generation = search rules in
    let es = c.self.inside.groups.items in
    let id = c.args.id.now in
    let e = c.index_mut-entry.result.now in
    let p : place_of id es ≡ Some c.in-Some.place = sym c.in-Some.ensures in
    let at : slice_get es c.in-Some.place ≡ Some e = at_index es c.in-Some.place e (place_below id es c.in-Some.place p) c.index_mut-entry.ensures.value in
    c.error_of.ensures
    ∙ ap error_of (said_here (commit_of_none c.args.generation) (one.may_commit (named c.args.member.now) c.args.generation) id es c.self.inside.members c.self.inside.limits (flat_map (λ v. v.items) c.self.inside.released.items) c.args.self.now c.in-Some.place e _ c.self.view_is p at
    (c.may_commit-code.ensures.code
    ∙ ap (λ z. one.may_commit c.number_of-number.result z e.group) (to_z-of_z w32 c.args.generation fits)
    ∙ ap (λ n. one.may_commit n c.args.generation e.group) c.number_of-number.ensures))
    ∙ commit_named c.args.id.now c.args.member.now c.args.generation c.args.self.now (is_named c.args.id.now c.if-is_empty.ensures)

pub returns-clause-after : goal.returns-clause-after
returns-clause-after c =
    let fits : FitsSigned w32 c.args.generation = search rules in
    let es = c.self.inside.groups.items in
    let id = c.args.id.now in
    let e = c.index_mut-entry.result.now in
    let p : place_of id es ≡ Some c.in-Some.place = sym c.in-Some.ensures in
    let at : slice_get es c.in-Some.place ≡ Some e = at_index es c.in-Some.place e (place_below id es c.in-Some.place p) c.index_mut-entry.ensures.value in
    changed_here id (one.after_may_commit c.args.clock (named c.args.member.now) c.args.generation) es c.self.inside.members c.self.inside.limits (flat_map (λ v. v.items) c.self.inside.released.items) _ c.args.self.now c.in-Some.place e c.may_commit-code.new.self c.self.view_is p at
    (c.may_commit-code.ensures.after ∙ ap (λ z. one.after_may_commit c.args.clock c.number_of-number.result z e.group) (to_z-of_z w32 c.args.generation fits) ∙ ap (λ n. one.after_may_commit c.args.clock n c.args.generation e.group) c.number_of-number.ensures)
    (ap (flat_map (λ v. v.items)) c.clear.ensures.items)
    ∙ after_named c.args.clock c.args.id.now c.args.member.now c.args.generation c.args.self.now (is_named id c.if-is_empty.ensures)
