use Rattle.std.proofs.Common.{arith, max, ◌≡◌, ◌<◌, ◌≤◌, ◌∙◌, refl, sym, subst, Some, slice_get, length}
use Rattle.std.specs.List.{flat_map}
use Rattle.kb_coordinator.specs.Groups.{AreInOrder}
use Rattle.kb_coordinator.proofs.Order.{join_in_order}
use Rattle.kb_coordinator.specs.Groups.{Groups}
use Rattle.kb_coordinator.proofs.Lists.{at_index}
use Rattle.kb_coordinator.proofs.Joins.{known_given, known_taken}
use Rattle.kb_coordinator.proofs.Places.{groups_of, one_ordered, one_reply, quiet_here, with_group}
use Rattle.kb_coordinator.proofs.Search.{sorted_put}
use Rattle.kb_groups.specs.Bytes.{group_bytes}
use Rattle.kb_coordinator.proofs.Kept.{known_bytes, put_below, within_put}
use Rattle.kb_coordinator.specs.Calls.{room}
use Rattle.kb_groups.specs.declared.state.State.{State}
use Rattle.kb_coordinator.proofs.coordinator.Coordinator.join_known.Goals as goal

pub invariant_of-self-3 : goal.invariant_of-self-3
invariant_of-self-3 c =
    let es = c.self.inside.groups.items in
    let place = c.args.place in
    let e = c.index_mut-entry.result.now in
    let below : place < length es = subst (λ (gs : Groups). place < length gs.groups) (sym c.self.view_is) c.requires.below in
    let there : slice_get es place ≡ Some e = at_index es place e below c.index_mut-entry.ensures.value in
    let gs : Groups = groups_of es c.self.inside.members c.self.inside.limits (flat_map (λ v. v.items) c.self.inside.released.items) in
    let less : group_bytes c.join.new.self ≤ max (room gs e.group) (group_bytes e.group) = subst (λ (x : State). group_bytes x ≤ max (room gs e.group) (group_bytes e.group)) (sym c.in_ok-replies.ensures.group) (known_bytes c.args.clock c.args.request.now e gs c.known_error-error.result (c.known_error-error.ensures e there) (sym c.if-not-is_accepted.ensures)) in (
      subst (λ n. n ≤ 9223372036854775807) (sym c.given_with-members.ensures) (known_given c.args.request.now e c.known_error-error.result (groups_of es c.self.inside.members c.self.inside.limits (flat_map (λ v. v.items) c.self.inside.released.items)) c.self.invariant.0 (c.known_error-error.ensures e there) (sym c.if-not-is_accepted.ensures)),
      quiet_here es place e c.join.new.self c.self.inside.quiet_until c.quiet_until.result _ c.self.invariant.1 c.quiet_until.ensures c.min-self-inside.ensures,
      sorted_put es place e (with_group e c.join.new.self) there refl c.self.invariant.2,
      within_put c.self.inside.limits es place e c.join.new.self c.self.inside.bytes c.bytes-before.result c.bytes.result c.self.invariant.3 there c.bytes-before.ensures c.bytes.ensures less,
      one_ordered (λ v. AreInOrder v.items) _ _ _ c.in_ok-replies.replies c.in_ok-push.ensures.items c.clear.ensures.items
          (subst AreInOrder (sym c.in_ok-replies.ensures.released) (join_in_order c.args.clock c.args.request.now e.group)),
    )

pub returns-clause-after : goal.returns-clause-after
returns-clause-after c there_now at =
    let es = c.self.inside.groups.items in
    let place = c.args.place in
    let e = c.index_mut-entry.result.now in
    let below : place < length es = subst (λ (gs : Groups). place < length gs.groups) (sym c.self.view_is) c.requires.below in
    let there : slice_get es place ≡ Some e = at_index es place e below c.index_mut-entry.ensures.value in
    known_taken c.args.clock c.args.request.now place there_now e es c.self.inside.members c.self.inside.limits (flat_map (λ v. v.items) c.self.inside.released.items) _ c.args.self.now c.join.new.self c.given_with-members.result c.known_error-error.result c.self.view_is
    there at (c.known_error-error.ensures e there) (sym c.if-not-is_accepted.ensures)
    c.in_ok-replies.ensures.group
    (one_reply (λ v. v.items) _ _ _ c.in_ok-replies.replies c.in_ok-push.ensures.items c.clear.ensures.items ∙ c.in_ok-replies.ensures.released)
    c.given_with-members.ensures

pub overflow_sub-self : goal.overflow_sub-self
overflow_sub-self c =
    let es = c.self.inside.groups.items in
    let place = c.args.place in
    let e = c.index_mut-entry.result.now in
    let below : place < length es = subst (λ (gs : Groups). place < length gs.groups) (sym c.self.view_is) c.requires.below in
    let there : slice_get es place ≡ Some e = at_index es place e below c.index_mut-entry.ensures.value in
    put_below c.self.inside.limits es place e c.self.inside.bytes c.bytes-before.result c.self.invariant.3 there c.bytes-before.ensures

pub overflow_add-self : goal.overflow_add-self
overflow_add-self c =
    let es = c.self.inside.groups.items in
    let place = c.args.place in
    let e = c.index_mut-entry.result.now in
    let below : place < length es = subst (λ (gs : Groups). place < length gs.groups) (sym c.self.view_is) c.requires.below in
    let there : slice_get es place ≡ Some e = at_index es place e below c.index_mut-entry.ensures.value in
    let gs : Groups = groups_of es c.self.inside.members c.self.inside.limits (flat_map (λ v. v.items) c.self.inside.released.items) in
    let less : group_bytes c.join.new.self ≤ max (room gs e.group) (group_bytes e.group) = subst (λ (x : State). group_bytes x ≤ max (room gs e.group) (group_bytes e.group)) (sym c.in_ok-replies.ensures.group) (known_bytes c.args.clock c.args.request.now e gs c.known_error-error.result (c.known_error-error.ensures e there) (sym c.if-not-is_accepted.ensures)) in
    let after = within_put c.self.inside.limits es place e c.join.new.self c.self.inside.bytes c.bytes-before.result c.bytes.result c.self.invariant.3 there c.bytes-before.ensures c.bytes.ensures less in
    omega (arith, after.1, after.2)
