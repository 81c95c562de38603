use Rattle.std.proofs.Common.{◌≡◌, ◌∙◌, ◌⊎◌, ⊎_elim, Err, ap, false, inl, inr, refl, rules, subst, sym, w16}
use Rattle.std.proofs.lemmas.Int.{to_z-of_z}
use Rattle.kb_wire.specs.ErrorCode.{code_of}
use Rattle.kb_coordinator.specs.Calls.{has_members}
use Rattle.kb_groups.specs.Calls as one
use Rattle.kb_tenant_state.specs.Parts.{scene, world_of}
use Rattle.kb_tenant_state.specs.Told.{IsCatalogWant}
use Rattle.kb_tenant.proofs.Telling.{done_so}
use Rattle.kb_tenant_api.proofs.Deleting.{committed_is, gone_less, members_is, never_otherwise, uncommitted_is, unnamed_is}
use Rattle.kb_tenant_api.proofs.deletions.delete_group.Goals as goal

pub returns-then-is_empty-clause-meets : goal.returns-then-is_empty-clause-meets
returns-then-is_empty-clause-meets g c = λ honest agree calm.
    let w = world_of g.L.PartitionLog.log c.args.parts.now (g.S.Store.disk c.args.shelf.now.store).files in
    unnamed_is (w, c.args.groups.now) c.args.id.now _ (search rules) (to_z-of_z w16 c.code.result (record { sfits = c.code.type_inv }) ∙ c.code.ensures)

pub returns-then-is_empty-clause-told : goal.returns-then-is_empty-clause-told
returns-then-is_empty-clause-told g c =
    let w = world_of g.L.PartitionLog.log c.args.parts.now (g.S.Store.disk c.args.shelf.now.store).files in
    inl (record {
      counted = refl;
      met = λ honest agree. unnamed_is (w, c.args.groups.now) c.args.id.now _ (search rules) (to_z-of_z w16 c.code.result (record { sfits = c.code.type_inv }) ∙ c.code.ensures);
    })

pub returns-then-has_members-clause-meets : goal.returns-then-has_members-clause-meets
returns-then-has_members-clause-meets g c = λ honest agree calm.
    let w = world_of g.L.PartitionLog.log c.args.parts.now (g.S.Store.disk c.args.shelf.now.store).files in
    members_is (w, c.args.groups.now) c.args.id.now _ (search rules) (sym c.has_members.ensures ∙ c.if-has_members.true) (to_z-of_z w16 c.code-then-has_members.result (record { sfits = c.code-then-has_members.type_inv }) ∙ c.code-then-has_members.ensures)

pub returns-then-has_members-clause-told : goal.returns-then-has_members-clause-told
returns-then-has_members-clause-told g c =
    let w = world_of g.L.PartitionLog.log c.args.parts.now (g.S.Store.disk c.args.shelf.now.store).files in
    inl (record {
      counted = refl;
      met = λ honest agree. members_is (w, c.args.groups.now) c.args.id.now _ (search rules) (sym c.has_members.ensures ∙ c.if-has_members.true) (to_z-of_z w16 c.code-then-has_members.result (record { sfits = c.code-then-has_members.type_inv }) ∙ c.code-then-has_members.ensures);
    })

pub returns-in-Ok-clause-meets : goal.returns-in-Ok-clause-meets
returns-in-Ok-clause-meets g c = λ honest agree calm.
    let w = world_of g.L.PartitionLog.log c.args.parts.now (g.S.Store.disk c.args.shelf.now.store).files in
    let v = world_of g.L.PartitionLog.log c.delete_group.new.self (g.S.Store.disk c.delete_group.new.shelf.store).files in
    let some : one.is_empty c.args.id.now ≡ false = search rules in
    let none : has_members c.args.id.now c.args.groups.now ≡ false = sym c.has_members.ensures ∙ c.if-has_members.false in
    committed_is (w, c.args.groups.now) c.args.id.now some none v c.delete.new.self _ (c.in-Ok.ensures.meets honest agree calm) c.delete.ensures.deleted (to_z-of_z w16 c.code-in-Ok.result (record { sfits = c.code-in-Ok.type_inv }) ∙ c.code-in-Ok.ensures)

pub returns-in-Ok-clause-told : goal.returns-in-Ok-clause-told
returns-in-Ok-clause-told g c =
    let log = g.L.PartitionLog.log in
    let disk = g.S.Store.disk in
    let a = scene log disk c.args.parts.now c.args.shelf.now in
    let b = scene log disk c.delete_group.new.self c.delete_group.new.shelf in
    let some : one.is_empty c.args.id.now ≡ false = search rules in
    let none : has_members c.args.id.now c.args.groups.now ≡ false = sym c.has_members.ensures ∙ c.if-has_members.false in
    let code = to_z-of_z w16 c.code-in-Ok.result (record { sfits = c.code-in-Ok.type_inv }) ∙ c.code-in-Ok.ensures in
    inl (done_so a b _ _ (λ made. committed_is (a.state.world, c.args.groups.now) c.args.id.now some none b.state.world c.delete.new.self _ made c.delete.ensures.deleted code) c.in-Ok.ensures.told)

pub returns-in-Ok-clause-fewer : goal.returns-in-Ok-clause-fewer
returns-in-Ok-clause-fewer g c = inr (gone_less c.args.id.now c.args.groups.now c.delete.new.self (sym c.has_members.ensures ∙ c.if-has_members.false) c.delete.ensures.deleted)

pub returns-then-is_unknown-clause-meets : goal.returns-then-is_unknown-clause-meets
returns-then-is_unknown-clause-meets g c = λ honest agree calm.
    let w = world_of g.L.PartitionLog.log c.args.parts.now (g.S.Store.disk c.args.shelf.now.store).files in
    let v = world_of g.L.PartitionLog.log c.delete_group.new.self (g.S.Store.disk c.delete_group.new.shelf.store).files in
    let some : one.is_empty c.args.id.now ≡ false = search rules in
    let none : has_members c.args.id.now c.args.groups.now ≡ false = sym c.has_members.ensures ∙ c.if-has_members.false in
    let made = ap (λ f. (v, Err f)) (sym (c.is_unknown.ensures.unknown c.if-is_unknown.true)) ∙ c.in-Err.ensures.meets honest agree calm in
    let code = to_z-of_z w16 c.code-then-is_unknown.result (record { sfits = c.code-then-is_unknown.type_inv }) ∙ c.code-then-is_unknown.ensures ∙ ap code_of c.code_of_uncommitted.ensures in
    uncommitted_is (w, c.args.groups.now) c.args.id.now some none v c.delete-then-is_unknown.new.self c.delete-then-is_unknown.result _ made c.delete-then-is_unknown.ensures.deleted c.delete-then-is_unknown.ensures.there code

pub returns-then-is_unknown-clause-told : goal.returns-then-is_unknown-clause-told
returns-then-is_unknown-clause-told g c =
    let log = g.L.PartitionLog.log in
    let disk = g.S.Store.disk in
    let a = scene log disk c.args.parts.now c.args.shelf.now in
    let b = scene log disk c.delete_group.new.self c.delete_group.new.shelf in
    let some : one.is_empty c.args.id.now ≡ false = search rules in
    let none : has_members c.args.id.now c.args.groups.now ≡ false = sym c.has_members.ensures ∙ c.if-has_members.false in
    let code = to_z-of_z w16 c.code-then-is_unknown.result (record { sfits = c.code-then-is_unknown.type_inv }) ∙ c.code-then-is_unknown.ensures ∙ ap code_of c.code_of_uncommitted.ensures in
    ⊎_elim
    (λ done. inl (done_so a b _ _ (λ made. uncommitted_is (a.state.world, c.args.groups.now) c.args.id.now some none b.state.world c.delete-then-is_unknown.new.self c.delete-then-is_unknown.result _ (ap (λ f. (b.state.world, Err f)) (sym (c.is_unknown.ensures.unknown c.if-is_unknown.true)) ∙ made) c.delete-then-is_unknown.ensures.deleted c.delete-then-is_unknown.ensures.there code) done))
    (λ refused. absurd (subst (IsCatalogWant a b) (c.is_unknown.ensures.unknown c.if-is_unknown.true) refused.want))
    c.in-Err.ensures.told

pub returns-then-is_unknown-clause-fewer : goal.returns-then-is_unknown-clause-fewer
returns-then-is_unknown-clause-fewer g c = inr (gone_less c.args.id.now c.args.groups.now c.delete-then-is_unknown.new.self (sym c.has_members.ensures ∙ c.if-has_members.false) c.delete-then-is_unknown.ensures.deleted)

pub returns-else-is_unknown-clause-meets : goal.returns-else-is_unknown-clause-meets
returns-else-is_unknown-clause-meets g c = λ honest agree calm.
    let w = world_of g.L.PartitionLog.log c.args.parts.now (g.S.Store.disk c.args.shelf.now.store).files in
    let v = world_of g.L.PartitionLog.log c.delete_group.new.self (g.S.Store.disk c.delete_group.new.shelf.store).files in
    absurd (never_otherwise (w, c.args.groups.now) c.args.id.now (search rules) (sym c.has_members.ensures ∙ c.if-has_members.false) v c.in-Err.fault (c.is_unknown.ensures.other c.if-is_unknown.false) (c.in-Err.ensures.meets honest agree calm))

pub returns-else-is_unknown-clause-told : goal.returns-else-is_unknown-clause-told
returns-else-is_unknown-clause-told g c =
    let log = g.L.PartitionLog.log in
    let disk = g.S.Store.disk in
    let a = scene log disk c.args.parts.now c.args.shelf.now in
    let b = scene log disk c.delete_group.new.self c.delete_group.new.shelf in
    let some : one.is_empty c.args.id.now ≡ false = search rules in
    let none : has_members c.args.id.now c.args.groups.now ≡ false = sym c.has_members.ensures ∙ c.if-has_members.false in
    let code = to_z-of_z w16 c.code-else-is_unknown.result (record { sfits = c.code-else-is_unknown.type_inv }) ∙ c.code-else-is_unknown.ensures in
    ⊎_elim
    (λ done. inl (done_so a b _ _ (λ made. absurd (never_otherwise (a.state.world, c.args.groups.now) c.args.id.now some none b.state.world c.in-Err.fault (c.is_unknown.ensures.other c.if-is_unknown.false) made)) done))
    (λ refused. inr (record { want = (record { fault = c.in-Err.fault; told = code; want = refused.want }, refl); counted = refused.counted; stays = refused.stays }))
    c.in-Err.ensures.told
