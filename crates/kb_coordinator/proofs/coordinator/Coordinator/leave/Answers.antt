use Rattle.std.proofs.Common.{◌≡◌, ◌<◌, ◌≤◌, ◌∙◌, sym, ap, arith, Some, None, slice_get, length, refl, subst}
use Rattle.std.specs.List.{flat_map}
use Rattle.kb_coordinator.specs.Groups.{AreInOrder}
use Rattle.kb_groups.specs.Calls as one
use Rattle.kb_coordinator.proofs.Order.{leave_in_order}
use Rattle.kb_groups.specs.declared.code.Code.TheVariants.{UnknownMemberId}
use Rattle.kb_coordinator.specs.Groups.{place_of}
use Rattle.kb_coordinator.specs.Requests.{named}
use Rattle.kb_coordinator.proofs.Lists.{at_index, place_below}
use Rattle.kb_coordinator.proofs.Places.{err_holds, no_reply, one_ordered, one_reply, quiet_here, refused_here, said_here, said_nowhere, silent_now, stepped_here, stepped_nowhere, with_group}
use Rattle.kb_coordinator.proofs.Search.{sorted_put}
use Rattle.kb_groups.proofs.Sizes.{leave_bytes}
use Rattle.kb_groups.specs.Bytes.{group_bytes}
use Rattle.kb_coordinator.proofs.Kept.{put_below, within_less}
use Rattle.kb_coordinator.proofs.coordinator.Coordinator.leave.Goals as goal

pub returns-in_default-clause-code : goal.returns-in_default-clause-code
returns-in_default-clause-code c =
    let es = c.self.inside.groups.items in
    let id = c.args.request.now.group_id in
    let q : place_of id es ≡ None = sym (c.in_default.ensures ∙ ap (λ x. place_of x es) c.as_str.ensures) in
    said_nowhere UnknownMemberId (one.leave_code (named c.args.request.now.member_id)) id es c.self.inside.members c.self.inside.limits (flat_map (λ v. v.items) c.self.inside.released.items) c.args.self.now c.self.view_is q

pub returns-in_default-clause-after : goal.returns-in_default-clause-after
returns-in_default-clause-after c =
    let es = c.self.inside.groups.items in
    let id = c.args.request.now.group_id in
    let q : place_of id es ≡ None = sym (c.in_default.ensures ∙ ap (λ x. place_of x es) c.as_str.ensures) in
    stepped_nowhere id (one.leave c.args.clock (named c.args.request.now.member_id)) es c.self.inside.members c.self.inside.limits (flat_map (λ v. v.items) c.self.inside.released.items) _ c.args.self.now c.self.view_is q (ap (flat_map (λ v. v.items)) c.clear.ensures.items)

pub returns-in_err-push-clause-refused : goal.returns-in_err-push-clause-refused
returns-in_err-push-clause-refused c =
    err_holds c.from_residual.result (silent_now c.self.inside.groups.items c.self.inside.members c.self.inside.limits (flat_map (λ v. v.items) c.self.inside.released.items) _ c.args.self.now c.self.view_is (ap (flat_map (λ v. v.items)) (c.in_err-push.ensures.items ∙ c.clear.ensures.items)))

pub index_mut-entry-requires : goal.index_mut-entry-requires
index_mut-entry-requires c =
    let es = c.self.inside.groups.items in
    let id = c.args.request.now.group_id in
    let below : c.in-Some.place < length es = place_below id es c.in-Some.place (sym (c.in-Some.ensures ∙ ap (λ x. place_of x es) c.as_str.ensures)) in
    omega (arith, below, c.self.inside.groups.ok)

pub returns-in_err-code-clause-refused : goal.returns-in_err-code-clause-refused
returns-in_err-code-clause-refused c =
    let es = c.self.inside.groups.items in
    let id = c.args.request.now.group_id in
    let e = c.index_mut-entry.result.now in
    let p : place_of id es ≡ Some c.in-Some.place = sym (c.in-Some.ensures ∙ ap (λ x. place_of x es) c.as_str.ensures) in
    let at : slice_get es c.in-Some.place ≡ Some e = at_index es c.in-Some.place e (place_below id es c.in-Some.place p) c.index_mut-entry.ensures.value in
    err_holds c.from_residual-in_err-code.result (refused_here es c.self.inside.members c.self.inside.limits (flat_map (λ v. v.items) c.self.inside.released.items) _ c.args.self.now c.in-Some.place e c.leave.new.self c.self.view_is at c.in_err-code.ensures.refused
    (no_reply (λ v. v.items) _ _ _ c.in_ok-push.ensures.items c.clear.ensures.items c.new.ensures.items))

pub returns-clause-code : goal.returns-clause-code
returns-clause-code c =
    let es = c.self.inside.groups.items in
    let id = c.args.request.now.group_id in
    let e = c.index_mut-entry.result.now in
    let p : place_of id es ≡ Some c.in-Some.place = sym (c.in-Some.ensures ∙ ap (λ x. place_of x es) c.as_str.ensures) in
    let at : slice_get es c.in-Some.place ≡ Some e = at_index es c.in-Some.place e (place_below id es c.in-Some.place p) c.index_mut-entry.ensures.value in
    said_here UnknownMemberId (one.leave_code (named c.args.request.now.member_id)) id es c.self.inside.members c.self.inside.limits (flat_map (λ v. v.items) c.self.inside.released.items) c.args.self.now c.in-Some.place e _ c.self.view_is p at
    (c.in_ok-code.ensures.code ∙ ap (λ n. one.leave_code n e.group) (c.number_of-number.ensures ∙ ap named c.as_str-2.ensures))

pub invariant_of-self-2 : goal.invariant_of-self-2
invariant_of-self-2 c =
    let es = c.self.inside.groups.items in
    let id = c.args.request.now.group_id in
    let e = c.index_mut-entry.result.now in
    let p : place_of id es ≡ Some c.in-Some.place = sym (c.in-Some.ensures ∙ ap (λ x. place_of x es) c.as_str.ensures) in
    let at : slice_get es c.in-Some.place ≡ Some e = at_index es c.in-Some.place e (place_below id es c.in-Some.place p) c.index_mut-entry.ensures.value in
    let less : group_bytes c.leave.new.self ≤ group_bytes e.group = omega (arith, ap group_bytes c.in_ok-code.ensures.group, leave_bytes c.args.clock c.number_of-number.result e.group) in (
      c.self.invariant.0,
      quiet_here c.self.inside.groups.items c.in-Some.place c.index_mut-entry.result.now c.leave.new.self c.self.inside.quiet_until c.quiet_until.result _ c.self.invariant.1 c.quiet_until.ensures c.min-self-inside.ensures,
      sorted_put es c.in-Some.place e (with_group e c.leave.new.self) at refl c.self.invariant.2,
      within_less c.self.inside.limits es c.in-Some.place e c.leave.new.self c.self.inside.bytes c.bytes-before.result c.bytes.result c.self.invariant.3 at c.bytes-before.ensures c.bytes.ensures less,
      one_ordered (λ v. AreInOrder v.items) _ _ _ c.in_ok-code.replies c.in_ok-push.ensures.items c.clear.ensures.items
          (subst AreInOrder (sym c.in_ok-code.ensures.released) (leave_in_order c.args.clock c.number_of-number.result e.group)),
    )

pub returns-clause-after : goal.returns-clause-after
returns-clause-after c =
    let es = c.self.inside.groups.items in
    let id = c.args.request.now.group_id in
    let e = c.index_mut-entry.result.now in
    let p : place_of id es ≡ Some c.in-Some.place = sym (c.in-Some.ensures ∙ ap (λ x. place_of x es) c.as_str.ensures) in
    let at : slice_get es c.in-Some.place ≡ Some e = at_index es c.in-Some.place e (place_below id es c.in-Some.place p) c.index_mut-entry.ensures.value in
    let who = c.number_of-number.ensures ∙ ap named c.as_str-2.ensures in
    stepped_here id (one.leave c.args.clock (named c.args.request.now.member_id)) es c.self.inside.members c.self.inside.limits (flat_map (λ v. v.items) c.self.inside.released.items) _ c.args.self.now c.in-Some.place e c.leave.new.self c.self.view_is p at
    (c.in_ok-code.ensures.group ∙ ap (λ n. (one.leave c.args.clock n e.group).group) who)
    (one_reply (λ v. v.items) _ _ _ c.in_ok-code.replies c.in_ok-push.ensures.items c.clear.ensures.items ∙ c.in_ok-code.ensures.released ∙ ap (λ n. (one.leave c.args.clock n e.group).released) who)

pub overflow_sub-self : goal.overflow_sub-self
overflow_sub-self c =
    let es = c.self.inside.groups.items in
    let id = c.args.request.now.group_id in
    let e = c.index_mut-entry.result.now in
    let p : place_of id es ≡ Some c.in-Some.place = sym (c.in-Some.ensures ∙ ap (λ x. place_of x es) c.as_str.ensures) in
    let at : slice_get es c.in-Some.place ≡ Some e = at_index es c.in-Some.place e (place_below id es c.in-Some.place p) c.index_mut-entry.ensures.value in
    put_below c.self.inside.limits es c.in-Some.place e c.self.inside.bytes c.bytes-before.result c.self.invariant.3 at c.bytes-before.ensures

pub overflow_add-self : goal.overflow_add-self
overflow_add-self c =
    let es = c.self.inside.groups.items in
    let id = c.args.request.now.group_id in
    let e = c.index_mut-entry.result.now in
    let p : place_of id es ≡ Some c.in-Some.place = sym (c.in-Some.ensures ∙ ap (λ x. place_of x es) c.as_str.ensures) in
    let at : slice_get es c.in-Some.place ≡ Some e = at_index es c.in-Some.place e (place_below id es c.in-Some.place p) c.index_mut-entry.ensures.value in
    let less : group_bytes c.leave.new.self ≤ group_bytes e.group = omega (arith, ap group_bytes c.in_ok-code.ensures.group, leave_bytes c.args.clock c.number_of-number.result e.group) in
    let after = within_less c.self.inside.limits es c.in-Some.place e c.leave.new.self c.self.inside.bytes c.bytes-before.result c.bytes.result c.self.invariant.3 at c.bytes-before.ensures c.bytes.ensures less in
    omega (arith, after.1, after.2)
