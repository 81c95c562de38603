use Rattle.std.proofs.Common.{rules, FitsSigned, w32, to_z, of_z, ◌≡◌, ◌+◌, ◌∙◌, sym, ap, subst, map, length, nat_eq, false, Some, None, IfOk, OnOk}
use Rattle.std.specs.List.{flat_map}
use Rattle.std.proofs.lemmas.Int.{to_z-of_z}
use Rattle.kb_groups.specs.declared.borrowed.Join.{Join}
use Rattle.kb_groups.specs.Calls.{is_empty}
use Rattle.kb_coordinator.specs.Groups.{Groups, place_of}
use Rattle.kb_coordinator.specs.Requests.{asked_member, join_of, offered}
use Rattle.kb_coordinator.specs.Calls.{after_join, after_new, join_code, new_code}
use Rattle.kb_coordinator.proofs.Commits.{is_named}
use Rattle.kb_coordinator.proofs.Joins.{known_answers, known_leaves, new_answers, new_leaves, placeless, there_is}
use Rattle.kb_coordinator.proofs.Lists.{place_below}
use Rattle.kb_coordinator.proofs.Places.{groups_of}
use Rattle.kb_coordinator.proofs.coordinator.Coordinator.join.Goals as goal

pub join_known-requires-clause-below : goal.join_known-requires-clause-below
join_known-requires-clause-below c =
    let es = c.self.inside.groups.items in
    let id = c.args.request.now.group_id in
    place_below id es c.in-Some.place (sym (c.in-Some.ensures ∙ ap (λ x. place_of x es) c.as_str-id.ensures))

pub returns-in-Some-clause-code : goal.returns-in-Some-clause-code
returns-in-Some-clause-code c =
    let r = c.args.request.now in
    let es = c.self.inside.groups.items in
    let members = c.self.inside.members in
    let gs : Groups = groups_of es members c.self.inside.limits (flat_map (λ v. v.items) c.self.inside.released.items) in
    let named : is_empty r.group_id ≡ false = is_named r.group_id (c.if-is_empty.ensures ∙ ap (λ x. nat_eq (length x) 0) c.as_str-id.ensures) in
    let session : FitsSigned w32 r.session_timeout_ms = search rules in
    let rebalance : FitsSigned w32 r.rebalance_timeout_ms = search rules in
    let j : Join = record { connection = c.args.connection; member = c.asked_member.result; new_member = members + 1; session_timeout = to_z w32 (of_z w32 r.session_timeout_ms); rebalance_timeout = to_z w32 (of_z w32 r.rebalance_timeout_ms); protocol_type = c.new.result; protocols = c.deref.result } in
    let same : placeless j ≡ join_of members c.args.connection r = λ k. record {
      connection = c.args.connection;
      member = (c.asked_member.ensures ∙ ap asked_member c.as_str.ensures) k;
      new_member = members + 1;
      session_timeout = to_z-of_z w32 r.session_timeout_ms session k;
      rebalance_timeout = to_z-of_z w32 r.rebalance_timeout_ms rebalance k;
      protocol_type = (c.new.ensures ∙ c.as_str-2.ensures) k;
      protocols = record { ref_ptr = (0, 0); now = (c.deref.ensures.value ∙ c.in_ok-protocols.ensures ∙ ap (map offered) c.as_slice.ensures) k };
    } in
    let place = c.in-Some.place in
    let p : place_of r.group_id es ≡ Some place = sym (c.in-Some.ensures ∙ ap (λ x. place_of x es) c.as_str-id.ensures) in
    let e = there_is es place (place_below r.group_id es place p) in
    subst (λ x. IfOk c.join_known.result (λ code. code ≡ x)) (known_answers c.args.clock c.args.connection r j gs place e.0 named same p e.1 ∙ ap (join_code c.args.connection r) c.self.view_is) (c.join_known.ensures.code e.0 e.1)

pub returns-in-Some-clause-after : goal.returns-in-Some-clause-after
returns-in-Some-clause-after c =
    let r = c.args.request.now in
    let es = c.self.inside.groups.items in
    let members = c.self.inside.members in
    let gs : Groups = groups_of es members c.self.inside.limits (flat_map (λ v. v.items) c.self.inside.released.items) in
    let named : is_empty r.group_id ≡ false = is_named r.group_id (c.if-is_empty.ensures ∙ ap (λ x. nat_eq (length x) 0) c.as_str-id.ensures) in
    let session : FitsSigned w32 r.session_timeout_ms = search rules in
    let rebalance : FitsSigned w32 r.rebalance_timeout_ms = search rules in
    let j : Join = record { connection = c.args.connection; member = c.asked_member.result; new_member = members + 1; session_timeout = to_z w32 (of_z w32 r.session_timeout_ms); rebalance_timeout = to_z w32 (of_z w32 r.rebalance_timeout_ms); protocol_type = c.new.result; protocols = c.deref.result } in
    let same : placeless j ≡ join_of members c.args.connection r = λ k. record {
      connection = c.args.connection;
      member = (c.asked_member.ensures ∙ ap asked_member c.as_str.ensures) k;
      new_member = members + 1;
      session_timeout = to_z-of_z w32 r.session_timeout_ms session k;
      rebalance_timeout = to_z-of_z w32 r.rebalance_timeout_ms rebalance k;
      protocol_type = (c.new.ensures ∙ c.as_str-2.ensures) k;
      protocols = record { ref_ptr = (0, 0); now = (c.deref.ensures.value ∙ c.in_ok-protocols.ensures ∙ ap (map offered) c.as_slice.ensures) k };
    } in
    let place = c.in-Some.place in
    let p : place_of r.group_id es ≡ Some place = sym (c.in-Some.ensures ∙ ap (λ x. place_of x es) c.as_str-id.ensures) in
    let e = there_is es place (place_below r.group_id es place p) in
    subst (λ x. OnOk c.join_known.result (c.join_known.new.self ≡ x)) (known_leaves c.args.clock c.args.connection r j gs place e.0 named same p e.1 ∙ ap (after_join c.args.clock c.args.connection r) c.self.view_is) (c.join_known.ensures.after e.0 e.1)

pub returns-clause-code : goal.returns-clause-code
returns-clause-code c =
    let r = c.args.request.now in
    let es = c.self.inside.groups.items in
    let members = c.self.inside.members in
    let gs : Groups = groups_of es members c.self.inside.limits (flat_map (λ v. v.items) c.self.inside.released.items) in
    let named : is_empty r.group_id ≡ false = is_named r.group_id (c.if-is_empty.ensures ∙ ap (λ x. nat_eq (length x) 0) c.as_str-id.ensures) in
    let session : FitsSigned w32 r.session_timeout_ms = search rules in
    let rebalance : FitsSigned w32 r.rebalance_timeout_ms = search rules in
    let j : Join = record { connection = c.args.connection; member = c.asked_member.result; new_member = members + 1; session_timeout = to_z w32 (of_z w32 r.session_timeout_ms); rebalance_timeout = to_z w32 (of_z w32 r.rebalance_timeout_ms); protocol_type = c.new.result; protocols = c.deref.result } in
    let same : placeless j ≡ join_of members c.args.connection r = λ k. record {
      connection = c.args.connection;
      member = (c.asked_member.ensures ∙ ap asked_member c.as_str.ensures) k;
      new_member = members + 1;
      session_timeout = to_z-of_z w32 r.session_timeout_ms session k;
      rebalance_timeout = to_z-of_z w32 r.rebalance_timeout_ms rebalance k;
      protocol_type = (c.new.ensures ∙ c.as_str-2.ensures) k;
      protocols = record { ref_ptr = (0, 0); now = (c.deref.ensures.value ∙ c.in_ok-protocols.ensures ∙ ap (map offered) c.as_slice.ensures) k };
    } in
    let q : place_of r.group_id es ≡ None = sym (c.in-None.ensures ∙ ap (λ x. place_of x es) c.as_str-id.ensures) in
    subst (λ x. IfOk c.join_new.result (λ code. code ≡ x)) (ap (λ x. new_code j x gs) c.as_str-id.ensures ∙ new_answers c.args.clock c.args.connection r j gs named same q ∙ ap (join_code c.args.connection r) c.self.view_is) c.join_new.ensures.code

pub returns-clause-after : goal.returns-clause-after
returns-clause-after c =
    let r = c.args.request.now in
    let es = c.self.inside.groups.items in
    let members = c.self.inside.members in
    let gs : Groups = groups_of es members c.self.inside.limits (flat_map (λ v. v.items) c.self.inside.released.items) in
    let named : is_empty r.group_id ≡ false = is_named r.group_id (c.if-is_empty.ensures ∙ ap (λ x. nat_eq (length x) 0) c.as_str-id.ensures) in
    let session : FitsSigned w32 r.session_timeout_ms = search rules in
    let rebalance : FitsSigned w32 r.rebalance_timeout_ms = search rules in
    let j : Join = record { connection = c.args.connection; member = c.asked_member.result; new_member = members + 1; session_timeout = to_z w32 (of_z w32 r.session_timeout_ms); rebalance_timeout = to_z w32 (of_z w32 r.rebalance_timeout_ms); protocol_type = c.new.result; protocols = c.deref.result } in
    let same : placeless j ≡ join_of members c.args.connection r = λ k. record {
      connection = c.args.connection;
      member = (c.asked_member.ensures ∙ ap asked_member c.as_str.ensures) k;
      new_member = members + 1;
      session_timeout = to_z-of_z w32 r.session_timeout_ms session k;
      rebalance_timeout = to_z-of_z w32 r.rebalance_timeout_ms rebalance k;
      protocol_type = (c.new.ensures ∙ c.as_str-2.ensures) k;
      protocols = record { ref_ptr = (0, 0); now = (c.deref.ensures.value ∙ c.in_ok-protocols.ensures ∙ ap (map offered) c.as_slice.ensures) k };
    } in
    let q : place_of r.group_id es ≡ None = sym (c.in-None.ensures ∙ ap (λ x. place_of x es) c.as_str-id.ensures) in
    subst (λ x. OnOk c.join_new.result (c.join_new.new.self ≡ x)) (ap (λ x. after_new c.args.clock j x gs) c.as_str-id.ensures ∙ new_leaves c.args.clock c.args.connection r j gs named same q ∙ ap (after_join c.args.clock c.args.connection r) c.self.view_is) c.join_new.ensures.after

pub join_new-requires-clause-absent : goal.join_new-requires-clause-absent
join_new-requires-clause-absent c = sym c.in-None.ensures
