use Rattle.std.proofs.Common.{rules, length, ◌+◌, ◌-◌, ◌≡◌, ◌∙◌, ◌≤◌, ap, sym, subst, arith, None}
use Rattle.std.specs.List.{flat_map}
use Rattle.kb_coordinator.specs.declared.groups.Entry.{Entry}
use Rattle.kb_coordinator.proofs.Order.{join_in_order}
use Rattle.kb_coordinator.specs.Groups.{AreInOrder, AreSorted, AreWithin, Groups, earliest, first_above, kept_bytes, place_of}
use Rattle.kb_coordinator.proofs.Lists.{above_most}
use Rattle.kb_coordinator.proofs.Joins.{new_given}
use Rattle.kb_coordinator.proofs.Places.{groups_of, one_ordered, quiet_new}
use Rattle.kb_coordinator.proofs.Search.{sorted_inserted}
use Rattle.kb_groups.specs.Bytes.{group_bytes}
use Rattle.kb_coordinator.proofs.Kept.{new_bytes, within_new}
use Rattle.kb_groups.proofs.Sizes.{exact}
use Rattle.kb_groups.specs.Calls as one
use Rattle.kb_groups.specs.declared.state.State.{State}
use Rattle.kb_coordinator.proofs.coordinator.Coordinator.join_new.Goals as goal

pub insert-requires : goal.insert-requires
insert-requires c =
    omega (arith, c.first_above-place.ensures, above_most c.as_bytes-2.result.now c.deref.result.now, c.deref.ensures.len)

pub invariant_of-self-3 : goal.invariant_of-self-3
invariant_of-self-3 c =
    let es = c.self.inside.groups.items in
    let n : Entry = record { id = c.in_ok-key.key; group = c.join.new.self } in
    let named : n.id ≡ c.args.id.now = search rules in
    let asked : c.as_bytes-2.result.now ≡ n.id = search rules in
    let absent = subst (λ (gs : Groups). place_of c.args.id.now gs.groups ≡ None) (sym c.self.view_is) c.requires.absent in
    let gs : Groups = groups_of es c.self.inside.members c.self.inside.limits (flat_map (λ v. v.items) c.self.inside.released.items) in
    let same : c.join.new.self ≡ (one.join c.args.clock c.args.request.now one.fresh).group = search rules in
    let most : length c.args.id.now + group_bytes c.join.new.self ≤ c.self.inside.limits.bytes - kept_bytes es = subst (λ (x : State). length c.args.id.now + group_bytes x ≤ c.self.inside.limits.bytes - kept_bytes es) (sym same) (new_bytes c.args.clock c.args.request.now c.args.id.now gs c.new_error-error.result c.new_error-error.ensures (sym c.if-not-is_accepted.ensures)) in
    let bytes_is : c.bytes.result ≡ group_bytes c.join.new.self = exact c.bytes.result (group_bytes c.join.new.self) c.bytes.ensures (omega (arith, most, c.self.invariant.3.2)) in
    let is_more : length c.args.id.now + c.bytes.result ≡ length n.id + group_bytes n.group = omega (arith, ap length named, bytes_is) in
    let less : length c.args.id.now + c.bytes.result ≤ c.self.inside.limits.bytes - kept_bytes es = omega (arith, bytes_is, most) in (
      subst (λ m. m ≤ 9223372036854775807) (sym c.given_with-members.ensures) (new_given c.args.request.now c.args.id.now c.new_error-error.result (groups_of es c.self.inside.members c.self.inside.limits (flat_map (λ v. v.items) c.self.inside.released.items)) c.self.invariant.0 c.new_error-error.ensures (sym c.if-not-is_accepted.ensures)),
      subst (λ l. c.min-self-inside.result ≤ earliest l) (sym c.in_ok-insert.ensures.items) (quiet_new es c.first_above-place.result n c.self.inside.quiet_until c.quiet_until-quiet_until.result c.min-self-inside.result c.self.invariant.1 c.quiet_until-quiet_until.ensures c.min-self-inside.ensures),
      subst AreSorted (sym c.in_ok-insert.ensures.items) (sorted_inserted n es c.first_above-place.result c.self.invariant.2 (ap (λ x. place_of x es) named ∙ absent) (c.first_above-place.ensures ∙ (λ k. first_above (asked k) (c.deref.ensures.value k)))),
      subst (λ l. AreWithin c.self.inside.limits (c.self.inside.bytes + (length c.args.id.now + c.bytes.result)) l) (sym c.in_ok-insert.ensures.items) (within_new c.self.inside.limits es c.first_above-place.result n c.self.inside.bytes (length c.args.id.now + c.bytes.result) c.self.invariant.3 is_more less),
      one_ordered (λ v. AreInOrder v.items) _ _ _ c.in_ok-replies.replies c.in_ok-push.ensures.items c.clear.ensures.items
          (subst AreInOrder (sym c.in_ok-replies.ensures.released) (join_in_order c.args.clock c.args.request.now _)),
    )

pub overflow_add-bytes : goal.overflow_add-bytes
overflow_add-bytes c =
    let es = c.self.inside.groups.items in
    let gs : Groups = groups_of es c.self.inside.members c.self.inside.limits (flat_map (λ v. v.items) c.self.inside.released.items) in
    let same : c.join.new.self ≡ (one.join c.args.clock c.args.request.now one.fresh).group = search rules in
    let most : length c.args.id.now + group_bytes c.join.new.self ≤ c.self.inside.limits.bytes - kept_bytes es = subst (λ (x : State). length c.args.id.now + group_bytes x ≤ c.self.inside.limits.bytes - kept_bytes es) (sym same) (new_bytes c.args.clock c.args.request.now c.args.id.now gs c.new_error-error.result c.new_error-error.ensures (sym c.if-not-is_accepted.ensures)) in
    let bytes_is : c.bytes.result ≡ group_bytes c.join.new.self = exact c.bytes.result (group_bytes c.join.new.self) c.bytes.ensures (omega (arith, most, c.self.invariant.3.2)) in
    omega (arith, most, bytes_is, c.self.invariant.3.2)

pub overflow_add-self : goal.overflow_add-self
overflow_add-self c =
    let es = c.self.inside.groups.items in
    let gs : Groups = groups_of es c.self.inside.members c.self.inside.limits (flat_map (λ v. v.items) c.self.inside.released.items) in
    let same : c.join.new.self ≡ (one.join c.args.clock c.args.request.now one.fresh).group = search rules in
    let most : length c.args.id.now + group_bytes c.join.new.self ≤ c.self.inside.limits.bytes - kept_bytes es = subst (λ (x : State). length c.args.id.now + group_bytes x ≤ c.self.inside.limits.bytes - kept_bytes es) (sym same) (new_bytes c.args.clock c.args.request.now c.args.id.now gs c.new_error-error.result c.new_error-error.ensures (sym c.if-not-is_accepted.ensures)) in
    let bytes_is : c.bytes.result ≡ group_bytes c.join.new.self = exact c.bytes.result (group_bytes c.join.new.self) c.bytes.ensures (omega (arith, most, c.self.invariant.3.2)) in
    omega (arith, most, bytes_is, c.self.invariant.3.0, c.self.invariant.3.1, c.self.invariant.3.2)
