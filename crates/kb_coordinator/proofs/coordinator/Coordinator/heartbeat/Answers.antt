use Rattle.std.proofs.Common.{rules, FitsSigned, ◌≡◌, ◌<◌, w32, ◌∙◌, sym, ap, arith, Some, None, slice_get, length, refl}
use Rattle.std.specs.List.{flat_map}
use Rattle.std.proofs.lemmas.Int.{to_z-of_z}
use Rattle.kb_coordinator.specs.Groups.{AreInOrder}
use Rattle.kb_groups.specs.Calls as one
use Rattle.kb_groups.specs.declared.code.Code.TheVariants.{UnknownMemberId}
use Rattle.kb_coordinator.specs.Groups.{place_of}
use Rattle.kb_coordinator.specs.Requests.{named}
use Rattle.kb_coordinator.proofs.Lists.{at_index, place_below}
use Rattle.kb_coordinator.proofs.Places.{changed_here, changed_nowhere, none_ordered, quiet_here, said_here, said_nowhere, with_group}
use Rattle.kb_coordinator.proofs.Search.{sorted_put}
use Rattle.kb_groups.proofs.Sizes.{heartbeat_bytes}
use Rattle.kb_groups.specs.Bytes.{group_bytes}
use Rattle.kb_coordinator.proofs.Kept.{within_same}
use Rattle.kb_coordinator.proofs.coordinator.Coordinator.heartbeat.Goals as goal

pub returns-in_default-clause-code : goal.returns-in_default-clause-code
returns-in_default-clause-code c =
    let es = c.self.inside.groups.items in
    let id = c.args.request.now.group_id in
    let q : place_of id es ≡ None = sym (c.in_default.ensures ∙ ap (λ x. place_of x es) c.as_str.ensures) in
    said_nowhere UnknownMemberId (one.heartbeat (named c.args.request.now.member_id) c.args.request.now.generation_id) id es c.self.inside.members c.self.inside.limits (flat_map (λ v. v.items) c.self.inside.released.items) c.args.self.now c.self.view_is q

pub returns-in_default-clause-after : goal.returns-in_default-clause-after
returns-in_default-clause-after c =
    let es = c.self.inside.groups.items in
    let id = c.args.request.now.group_id in
    let q : place_of id es ≡ None = sym (c.in_default.ensures ∙ ap (λ x. place_of x es) c.as_str.ensures) in
    changed_nowhere id (one.after_heartbeat c.args.clock (named c.args.request.now.member_id) c.args.request.now.generation_id) es c.self.inside.members c.self.inside.limits (flat_map (λ v. v.items) c.self.inside.released.items) _ c.args.self.now c.self.view_is q (ap (flat_map (λ v. v.items)) c.clear.ensures.items)

pub index_mut-entry-requires : goal.index_mut-entry-requires
index_mut-entry-requires c =
    let es = c.self.inside.groups.items in
    let id = c.args.request.now.group_id in
    let below : c.in-Some.place < length es = place_below id es c.in-Some.place (sym (c.in-Some.ensures ∙ ap (λ x. place_of x es) c.as_str.ensures)) in
    omega (arith, below, c.self.inside.groups.ok)

pub invariant_of-self-2 : goal.invariant_of-self-2
invariant_of-self-2 c =
    let es = c.self.inside.groups.items in
    let id = c.args.request.now.group_id in
    let e = c.index_mut-entry.result.now in
    let p : place_of id es ≡ Some c.in-Some.place = sym (c.in-Some.ensures ∙ ap (λ x. place_of x es) c.as_str.ensures) in
    let at : slice_get es c.in-Some.place ≡ Some e = at_index es c.in-Some.place e (place_below id es c.in-Some.place p) c.index_mut-entry.ensures.value in (
      c.self.invariant.0,
      quiet_here c.self.inside.groups.items c.in-Some.place c.index_mut-entry.result.now c.heartbeat-code.new.self c.self.inside.quiet_until c.quiet_until.result _ c.self.invariant.1 c.quiet_until.ensures c.min-self-inside.ensures,
      sorted_put es c.in-Some.place e (with_group e c.heartbeat-code.new.self) at refl c.self.invariant.2,
      within_same c.self.inside.limits es c.in-Some.place e c.heartbeat-code.new.self c.self.inside.bytes c.self.invariant.3 at (ap group_bytes c.heartbeat-code.ensures.after ∙ heartbeat_bytes c.args.clock c.number_of-number.result _ e.group),
      none_ordered (λ v. AreInOrder v.items) _ c.clear.ensures.items,
    )

pub returns-clause-code : goal.returns-clause-code
returns-clause-code c =
    let fits : FitsSigned w32 c.args.request.now.generation_id = search rules in
    let es = c.self.inside.groups.items in
    let id = c.args.request.now.group_id in
    let e = c.index_mut-entry.result.now in
    let p : place_of id es ≡ Some c.in-Some.place = sym (c.in-Some.ensures ∙ ap (λ x. place_of x es) c.as_str.ensures) in
    let at : slice_get es c.in-Some.place ≡ Some e = at_index es c.in-Some.place e (place_below id es c.in-Some.place p) c.index_mut-entry.ensures.value in
    said_here UnknownMemberId (one.heartbeat (named c.args.request.now.member_id) c.args.request.now.generation_id) id es c.self.inside.members c.self.inside.limits (flat_map (λ v. v.items) c.self.inside.released.items) c.args.self.now c.in-Some.place e _ c.self.view_is p at
    (c.heartbeat-code.ensures.code
    ∙ ap (λ z. one.heartbeat c.number_of-number.result z e.group) (to_z-of_z w32 c.args.request.now.generation_id fits)
    ∙ ap (λ n. one.heartbeat n c.args.request.now.generation_id e.group) (c.number_of-number.ensures ∙ ap named c.as_str-2.ensures))

pub returns-clause-after : goal.returns-clause-after
returns-clause-after c =
    let fits : FitsSigned w32 c.args.request.now.generation_id = search rules in
    let es = c.self.inside.groups.items in
    let id = c.args.request.now.group_id in
    let e = c.index_mut-entry.result.now in
    let p : place_of id es ≡ Some c.in-Some.place = sym (c.in-Some.ensures ∙ ap (λ x. place_of x es) c.as_str.ensures) in
    let at : slice_get es c.in-Some.place ≡ Some e = at_index es c.in-Some.place e (place_below id es c.in-Some.place p) c.index_mut-entry.ensures.value in
    changed_here id (one.after_heartbeat c.args.clock (named c.args.request.now.member_id) c.args.request.now.generation_id) es c.self.inside.members c.self.inside.limits (flat_map (λ v. v.items) c.self.inside.released.items) _ c.args.self.now c.in-Some.place e c.heartbeat-code.new.self c.self.view_is p at
    (c.heartbeat-code.ensures.after ∙ ap (λ z. one.after_heartbeat c.args.clock c.number_of-number.result z e.group) (to_z-of_z w32 c.args.request.now.generation_id fits) ∙ ap (λ n. one.after_heartbeat c.args.clock n c.args.request.now.generation_id e.group) (c.number_of-number.ensures ∙ ap named c.as_str-2.ensures))
    (ap (flat_map (λ v. v.items)) c.clear.ensures.items)
