use Rattle.std.proofs.Common.{rules, FitsSigned, ◌≡◌, ◌<◌, w32, to_z, of_z, ◌∙◌, sym, ap, arith, map, Some, None, slice_get, length, refl, subst}
use Rattle.std.specs.List.{flat_map}
use Rattle.std.proofs.lemmas.Int.{to_z-of_z}
use Rattle.kb_coordinator.specs.Groups.{AreInOrder}
use Rattle.kb_groups.specs.Calls as one
use Rattle.kb_coordinator.proofs.Order.{within_in_order}
use Rattle.kb_groups.specs.declared.code.Code.TheVariants.{UnknownMemberId}
use Rattle.kb_groups.specs.declared.reply.SyncAnswer.TheVariants.{Refused}
use Rattle.kb_coordinator.specs.Groups.{Groups, place_of}
use Rattle.kb_coordinator.specs.Requests.{assigned_to, named}
use Rattle.kb_coordinator.specs.Calls.{room, sync_in}
use Rattle.kb_coordinator.proofs.Lists.{at_index, place_below}
use Rattle.kb_coordinator.proofs.Places.{err_holds, no_reply, one_ordered, one_reply, quiet_here, refused_here, said_here, said_nowhere, silent_now, stepped_here, stepped_nowhere, with_group}
use Rattle.kb_coordinator.proofs.Search.{sorted_put}
use Rattle.kb_groups.proofs.Sizes.{sync_bytes}
use Rattle.kb_groups.specs.Bytes.{group_bytes, sync_within}
use Rattle.kb_coordinator.proofs.Kept.{one_fits, put_below, within_put, within_room}
use Rattle.kb_coordinator.proofs.coordinator.Coordinator.sync.Goals as goal

pub returns-in_default-clause-answer : goal.returns-in_default-clause-answer
returns-in_default-clause-answer c =
    let es = c.self.inside.groups.items in
    let id = c.args.request.now.group_id in
    let q : place_of id es ≡ None = sym (c.in_default.ensures ∙ ap (λ x. place_of x es) c.as_str.ensures) in
    said_nowhere (Refused UnknownMemberId) (λ g. (sync_in c.args.clock c.args.connection c.args.request.now c.args.self.now g).0) id es c.self.inside.members c.self.inside.limits (flat_map (λ v. v.items) c.self.inside.released.items) c.args.self.now c.self.view_is q

pub returns-in_default-clause-after : goal.returns-in_default-clause-after
returns-in_default-clause-after c =
    let es = c.self.inside.groups.items in
    let id = c.args.request.now.group_id in
    let q : place_of id es ≡ None = sym (c.in_default.ensures ∙ ap (λ x. place_of x es) c.as_str.ensures) in
    stepped_nowhere id (λ g. (sync_in c.args.clock c.args.connection c.args.request.now c.args.self.now g).1) es c.self.inside.members c.self.inside.limits (flat_map (λ v. v.items) c.self.inside.released.items) _ c.args.self.now c.self.view_is q (ap (flat_map (λ v. v.items)) c.clear.ensures.items)

pub returns-in_err-given-clause-refused : goal.returns-in_err-given-clause-refused
returns-in_err-given-clause-refused c =
    err_holds c.from_residual.result (silent_now c.self.inside.groups.items c.self.inside.members c.self.inside.limits (flat_map (λ v. v.items) c.self.inside.released.items) _ c.args.self.now c.self.view_is (ap (flat_map (λ v. v.items)) c.clear.ensures.items))

pub returns-in_err-push-clause-refused : goal.returns-in_err-push-clause-refused
returns-in_err-push-clause-refused c =
    err_holds c.from_residual-in_err-push.result (silent_now c.self.inside.groups.items c.self.inside.members c.self.inside.limits (flat_map (λ v. v.items) c.self.inside.released.items) _ c.args.self.now c.self.view_is (ap (flat_map (λ v. v.items)) (c.in_err-push.ensures.items ∙ c.clear.ensures.items)))

pub index_mut-entry-requires : goal.index_mut-entry-requires
index_mut-entry-requires c =
    let es = c.self.inside.groups.items in
    let id = c.args.request.now.group_id in
    let below : c.in-Some.place < length es = place_below id es c.in-Some.place (sym (c.in-Some.ensures ∙ ap (λ x. place_of x es) c.as_str.ensures)) in
    omega (arith, below, c.self.inside.groups.ok)

pub returns-in_err-answer-clause-refused : goal.returns-in_err-answer-clause-refused
returns-in_err-answer-clause-refused c =
    let es = c.self.inside.groups.items in
    let id = c.args.request.now.group_id in
    let e = c.index_mut-entry.result.now in
    let p : place_of id es ≡ Some c.in-Some.place = sym (c.in-Some.ensures ∙ ap (λ x. place_of x es) c.as_str.ensures) in
    let at : slice_get es c.in-Some.place ≡ Some e = at_index es c.in-Some.place e (place_below id es c.in-Some.place p) c.index_mut-entry.ensures.value in
    err_holds c.from_residual-in_err-answer.result (refused_here es c.self.inside.members c.self.inside.limits (flat_map (λ v. v.items) c.self.inside.released.items) _ c.args.self.now c.in-Some.place e c.sync_within.new.self c.self.view_is at c.in_err-answer.ensures.refused
    (no_reply (λ v. v.items) _ _ _ c.in_ok-push.ensures.items c.clear.ensures.items c.new.ensures.items))

pub returns-clause-answer : goal.returns-clause-answer
returns-clause-answer c =
    let es = c.self.inside.groups.items in
    let id = c.args.request.now.group_id in
    let e = c.index_mut-entry.result.now in
    let p : place_of id es ≡ Some c.in-Some.place = sym (c.in-Some.ensures ∙ ap (λ x. place_of x es) c.as_str.ensures) in
    let at : slice_get es c.in-Some.place ≡ Some e = at_index es c.in-Some.place e (place_below id es c.in-Some.place p) c.index_mut-entry.ensures.value in
    let fits : FitsSigned w32 c.args.request.now.generation_id = search rules in
    let who = c.number_of-number.ensures ∙ ap named c.as_str-2.ensures in
    let generation = to_z-of_z w32 c.args.request.now.generation_id fits in
    let given = c.deref.ensures.value ∙ c.in_ok-given.ensures ∙ ap (map assigned_to) c.as_slice.ensures in
    let most = c.room-most.ensures.value e at ∙ ap (λ (gs : Groups). room gs e.group) c.self.view_is in
    let same : sync_within c.room-most.result c.args.clock c.args.connection c.number_of-number.result (to_z w32 (of_z w32 c.args.request.now.generation_id)) c.deref.result.now e.group ≡ sync_in c.args.clock c.args.connection c.args.request.now c.args.self.now e.group
    = λ k. sync_within (most k) c.args.clock c.args.connection (who k) (generation k) (given k) e.group in
    said_here (Refused UnknownMemberId) (λ g. (sync_in c.args.clock c.args.connection c.args.request.now c.args.self.now g).0) id es c.self.inside.members c.self.inside.limits (flat_map (λ v. v.items) c.self.inside.released.items) c.args.self.now c.in-Some.place e _ c.self.view_is p at
    (c.in_ok-answer.ensures.answer ∙ ap (λ s. s.0) same)

pub invariant_of-self-3 : goal.invariant_of-self-3
invariant_of-self-3 c =
    let es = c.self.inside.groups.items in
    let id = c.args.request.now.group_id in
    let e = c.index_mut-entry.result.now in
    let p : place_of id es ≡ Some c.in-Some.place = sym (c.in-Some.ensures ∙ ap (λ x. place_of x es) c.as_str.ensures) in
    let at : slice_get es c.in-Some.place ≡ Some e = at_index es c.in-Some.place e (place_below id es c.in-Some.place p) c.index_mut-entry.ensures.value in
    let less = within_room c.self.inside.limits es e c.sync_within.new.self c.room-most.result _ (c.room-most.ensures.value e at) c.in_ok-answer.ensures.group (sync_bytes c.room-most.result c.args.clock c.args.connection c.number_of-number.result _ c.deref.result.now e.group) in (
      c.self.invariant.0,
      quiet_here c.self.inside.groups.items c.in-Some.place c.index_mut-entry.result.now c.sync_within.new.self c.self.inside.quiet_until c.quiet_until.result _ c.self.invariant.1 c.quiet_until.ensures c.min-self-inside.ensures,
      sorted_put es c.in-Some.place e (with_group e c.sync_within.new.self) at refl c.self.invariant.2,
      within_put c.self.inside.limits es c.in-Some.place e c.sync_within.new.self c.self.inside.bytes c.bytes-before.result c.bytes.result c.self.invariant.3 at c.bytes-before.ensures c.bytes.ensures less,
      one_ordered (λ v. AreInOrder v.items) _ _ _ c.in_ok-answer.replies c.in_ok-push.ensures.items c.clear.ensures.items
          (subst AreInOrder (sym c.in_ok-answer.ensures.released) (within_in_order c.room-most.result c.args.clock c.args.connection c.number_of-number.result _ c.deref.result.now e.group)),
    )

pub returns-clause-after : goal.returns-clause-after
returns-clause-after c =
    let es = c.self.inside.groups.items in
    let id = c.args.request.now.group_id in
    let e = c.index_mut-entry.result.now in
    let p : place_of id es ≡ Some c.in-Some.place = sym (c.in-Some.ensures ∙ ap (λ x. place_of x es) c.as_str.ensures) in
    let at : slice_get es c.in-Some.place ≡ Some e = at_index es c.in-Some.place e (place_below id es c.in-Some.place p) c.index_mut-entry.ensures.value in
    let fits : FitsSigned w32 c.args.request.now.generation_id = search rules in
    let who = c.number_of-number.ensures ∙ ap named c.as_str-2.ensures in
    let generation = to_z-of_z w32 c.args.request.now.generation_id fits in
    let given = c.deref.ensures.value ∙ c.in_ok-given.ensures ∙ ap (map assigned_to) c.as_slice.ensures in
    let most = c.room-most.ensures.value e at ∙ ap (λ (gs : Groups). room gs e.group) c.self.view_is in
    let same : sync_within c.room-most.result c.args.clock c.args.connection c.number_of-number.result (to_z w32 (of_z w32 c.args.request.now.generation_id)) c.deref.result.now e.group ≡ sync_in c.args.clock c.args.connection c.args.request.now c.args.self.now e.group
    = λ k. sync_within (most k) c.args.clock c.args.connection (who k) (generation k) (given k) e.group in
    stepped_here id (λ g. (sync_in c.args.clock c.args.connection c.args.request.now c.args.self.now g).1) es c.self.inside.members c.self.inside.limits (flat_map (λ v. v.items) c.self.inside.released.items) _ c.args.self.now c.in-Some.place e c.sync_within.new.self c.self.view_is p at
    (c.in_ok-answer.ensures.group ∙ ap (λ s. s.1.group) same)
    (one_reply (λ v. v.items) _ _ _ c.in_ok-answer.replies c.in_ok-push.ensures.items c.clear.ensures.items ∙ c.in_ok-answer.ensures.released ∙ ap (λ s. s.1.released) same)

pub room-most-requires : goal.room-most-requires
room-most-requires c =
    let es = c.self.inside.groups.items in
    let id = c.args.request.now.group_id in
    place_below id es c.in-Some.place (sym (c.in-Some.ensures ∙ ap (λ x. place_of x es) c.as_str.ensures))

pub sync_within-requires-clause-there : goal.sync_within-requires-clause-there
sync_within-requires-clause-there c =
    let es = c.self.inside.groups.items in
    let id = c.args.request.now.group_id in
    let e = c.index_mut-entry.result.now in
    let p : place_of id es ≡ Some c.in-Some.place = sym (c.in-Some.ensures ∙ ap (λ x. place_of x es) c.as_str.ensures) in
    let at : slice_get es c.in-Some.place ≡ Some e = at_index es c.in-Some.place e (place_below id es c.in-Some.place p) c.index_mut-entry.ensures.value in
    one_fits c.self.inside.limits es c.in-Some.place e c.self.inside.bytes c.self.invariant.3 at

pub overflow_sub-self : goal.overflow_sub-self
overflow_sub-self c =
    let es = c.self.inside.groups.items in
    let id = c.args.request.now.group_id in
    let e = c.index_mut-entry.result.now in
    let p : place_of id es ≡ Some c.in-Some.place = sym (c.in-Some.ensures ∙ ap (λ x. place_of x es) c.as_str.ensures) in
    let at : slice_get es c.in-Some.place ≡ Some e = at_index es c.in-Some.place e (place_below id es c.in-Some.place p) c.index_mut-entry.ensures.value in
    put_below c.self.inside.limits es c.in-Some.place e c.self.inside.bytes c.bytes-before.result c.self.invariant.3 at c.bytes-before.ensures

pub overflow_add-self : goal.overflow_add-self
overflow_add-self c =
    let es = c.self.inside.groups.items in
    let id = c.args.request.now.group_id in
    let e = c.index_mut-entry.result.now in
    let p : place_of id es ≡ Some c.in-Some.place = sym (c.in-Some.ensures ∙ ap (λ x. place_of x es) c.as_str.ensures) in
    let at : slice_get es c.in-Some.place ≡ Some e = at_index es c.in-Some.place e (place_below id es c.in-Some.place p) c.index_mut-entry.ensures.value in
    let less = within_room c.self.inside.limits es e c.sync_within.new.self c.room-most.result _ (c.room-most.ensures.value e at) c.in_ok-answer.ensures.group (sync_bytes c.room-most.result c.args.clock c.args.connection c.number_of-number.result _ c.deref.result.now e.group) in
    let after = within_put c.self.inside.limits es c.in-Some.place e c.sync_within.new.self c.self.inside.bytes c.bytes-before.result c.bytes.result c.self.invariant.3 at c.bytes-before.ensures c.bytes.ensures less in
    omega (arith, after.1, after.2)
