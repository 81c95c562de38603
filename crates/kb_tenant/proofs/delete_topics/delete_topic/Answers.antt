use Rattle.std.proofs.Common.{◌≡◌, ◌∙◌, ℤ, ap, arith, inl, of_z, refl, subst, sym, to_z, w16}
use Rattle.std.proofs.lemmas.Int.{to_z-of_z}
use Rattle.kb_tenant.specs.DeleteTopics.{deleted}
use Rattle.kb_tenant_state.specs.Parts.{scene, world_of}
use Rattle.kb_tenant_state.specs.Steps.{IsStep}
use Rattle.kb_tenant_state.specs.World.{World}
use Rattle.kb_tenant.proofs.Deleting.{unknown_is, deleted_is, told_all, told_none, never_refused, taken_back, unless_err, where_err}
use Rattle.kb_tenant.proofs.Refusing.{step_refused}
use Rattle.kb_tenant.proofs.Wanted.{deletion_acknowledged, deletion_refused, deletion_told, untold_deletion}
use Rattle.kb_tenant.proofs.delete_topics.delete_topic.Goals as goal

pub returns-in_default-clause-meets : goal.returns-in_default-clause-meets
returns-in_default-clause-meets g c = λ honest agrees calm.
    let files = (g.S.Store.disk c.args.shelf.now.store).files in
    let w : World = world_of g.L.PartitionLog.log c.args.parts.now files in
    unknown_is w c.args.touched.now.items c.args.name.now _ (c.in_default.ensures files) (to_z-of_z w16 c.code.result (record { sfits = c.code.type_inv }) ∙ c.code.ensures)

pub returns-then-is_err-clause-step : goal.returns-then-is_err-clause-step
returns-then-is_err-clause-step g c =
    let log = g.L.PartitionLog.log in
    let disk = g.S.Store.disk in
    subst (λ p. IsStep (scene log disk c.args.parts.now c.args.shelf.now) (scene log disk p c.args.shelf.now)) (sym c.refuse.ensures) (step_refused log disk c.args.parts.now c.args.shelf.now c.requires.sound)

pub returns-in-Ok-clause-told : goal.returns-in-Ok-clause-told
returns-in-Ok-clause-told g c = λ files.
    let w : World = world_of g.L.PartitionLog.log c.args.parts.now files in
    let told = unless_err c.tell_places.result c.is_err.result c.is_err.ensures.value c.if-is_err.false (c.tell_places.ensures.told files) in
    told_all w c.args.touched.now.items c.tell_places.new.touched.items c.args.name.now c.in-Some.instance _ (c.in-Some.ensures files) told (to_z-of_z w16 c.code-in-Ok.result (record { sfits = c.code-in-Ok.type_inv }) ∙ c.code-in-Ok.ensures)

pub returns-in-Ok-clause-meets : goal.returns-in-Ok-clause-meets
returns-in-Ok-clause-meets g c = λ honest agrees calm.
    let files = (g.S.Store.disk c.args.shelf.now.store).files in
    let w : World = world_of g.L.PartitionLog.log c.args.parts.now files in
    let v : World = world_of g.L.PartitionLog.log c.delete.new.self (g.S.Store.disk c.delete.new.shelf.store).files in
    let told = unless_err c.tell_places.result c.is_err.result c.is_err.ensures.value c.if-is_err.false (c.tell_places.ensures.told files) in
    deleted_is w v c.args.touched.now.items c.tell_places.new.touched.items c.args.name.now c.in-Some.instance _ (c.in-Some.ensures files) told (c.in-Ok.ensures.meets honest agrees calm) (to_z-of_z w16 c.code-in-Ok.result (record { sfits = c.code-in-Ok.type_inv }) ∙ c.code-in-Ok.ensures)

pub returns-in-Err-clause-told : goal.returns-in-Err-clause-told
returns-in-Err-clause-told g c = λ files.
    let told = unless_err c.tell_places.result c.is_err.result c.is_err.ensures.value c.if-is_err.false (c.tell_places.ensures.told files) in
    let back = taken_back c.args.touched.now.items c.tell_places.new.touched.items c.truncate.new.self.items _ c.len-told.result c.truncate.ensures.items (omega (arith, c.len-told.ensures, c.args.touched.now.ok.0)) told in
    told_none c.args.touched.now.items c.truncate.new.self.items _ c.in-Err.fault _ back (to_z-of_z w16 c.code-in-Err.result (record { sfits = c.code-in-Err.type_inv }) ∙ c.code-in-Err.ensures)

pub returns-in-Err-clause-meets : goal.returns-in-Err-clause-meets
returns-in-Err-clause-meets g c = λ honest agrees calm.
    let files = (g.S.Store.disk c.args.shelf.now.store).files in
    let w : World = world_of g.L.PartitionLog.log c.args.parts.now files in
    let v : World = world_of g.L.PartitionLog.log c.delete.new.self (g.S.Store.disk c.delete.new.shelf.store).files in
    absurd (never_refused w v c.args.name.now c.in-Some.instance c.in-Err.fault (c.in-Some.ensures files) (c.in-Err.ensures.meets honest agrees calm))

pub returns-in_default-clause-answered : goal.returns-in_default-clause-answered
returns-in_default-clause-answered g c =
    let files = (g.S.Store.disk c.args.shelf.now.store).files in
    let w : World = world_of g.L.PartitionLog.log c.args.parts.now files in
    let is = unknown_is w c.args.touched.now.items c.args.name.now _ (c.in_default.ensures files) (to_z-of_z w16 c.code.result (record { sfits = c.code.type_inv }) ∙ c.code.ensures) in
    inl (inl (record { counted = refl; met = λ honest agree. is }))

pub returns-in_default-clause-acknowledged : goal.returns-in_default-clause-acknowledged
returns-in_default-clause-acknowledged g c =
    let log = g.L.PartitionLog.log in
    let disk = g.S.Store.disk in
    let a = scene log disk c.args.parts.now c.args.shelf.now in
    let b = scene log disk c.args.parts.now c.args.shelf.now in
    let code : ℤ = to_z w16 (of_z w16 c.code.result) in
    let old = c.args.touched.now.items in
    let new = c.args.touched.now.items in
    deletion_acknowledged a b (((b.state.world, new), code) ≡ deleted (a.state.world, old) c.args.name.now) (new ≡ old) code (returns-in_default-clause-answered g c)

pub returns-then-is_err-clause-answered : goal.returns-then-is_err-clause-answered
returns-then-is_err-clause-answered g c =
    let log = g.L.PartitionLog.log in
    let disk = g.S.Store.disk in
    let a = scene log disk c.args.parts.now c.args.shelf.now in
    let b = scene log disk c.refuse.new.self c.args.shelf.now in
    untold_deletion a b _ _ c.args.touched.now.items c.tell_places.new.touched.items
    (to_z-of_z w16 c.code-then-is_err.result (record { sfits = c.code-then-is_err.type_inv }) ∙ c.code-then-is_err.ensures)
    (where_err c.tell_places.result c.is_err.result c.is_err.ensures.value c.if-is_err.true c.tell_places.ensures.err)
    (ap (λ p. p.refusals) c.refuse.ensures) (ap (λ p. world_of log p (disk c.args.shelf.now.store).files) c.refuse.ensures)

pub returns-then-is_err-clause-acknowledged : goal.returns-then-is_err-clause-acknowledged
returns-then-is_err-clause-acknowledged g c =
    let log = g.L.PartitionLog.log in
    let disk = g.S.Store.disk in
    let a = scene log disk c.args.parts.now c.args.shelf.now in
    let b = scene log disk c.refuse.new.self c.args.shelf.now in
    let code : ℤ = to_z w16 (of_z w16 c.code-then-is_err.result) in
    let old = c.args.touched.now.items in
    let new = c.tell_places.new.touched.items in
    deletion_acknowledged a b (((b.state.world, new), code) ≡ deleted (a.state.world, old) c.args.name.now) (new ≡ old) code (returns-then-is_err-clause-answered g c)

pub returns-in-Ok-clause-answered : goal.returns-in-Ok-clause-answered
returns-in-Ok-clause-answered g c =
    let log = g.L.PartitionLog.log in
    let disk = g.S.Store.disk in
    let a = scene log disk c.args.parts.now c.args.shelf.now in
    let b = scene log disk c.delete.new.self c.delete.new.shelf in
    let files = a.disk.files in
    let told = unless_err c.tell_places.result c.is_err.result c.is_err.ensures.value c.if-is_err.false (c.tell_places.ensures.told files) in
    deletion_told a b _ c.args.touched.now.items c.tell_places.new.touched.items c.args.name.now c.in-Some.instance _ (c.in-Some.ensures files) told (to_z-of_z w16 c.code-in-Ok.result (record { sfits = c.code-in-Ok.type_inv }) ∙ c.code-in-Ok.ensures) c.in-Ok.ensures.told

pub returns-in-Ok-clause-acknowledged : goal.returns-in-Ok-clause-acknowledged
returns-in-Ok-clause-acknowledged g c =
    let log = g.L.PartitionLog.log in
    let disk = g.S.Store.disk in
    let a = scene log disk c.args.parts.now c.args.shelf.now in
    let b = scene log disk c.delete.new.self c.delete.new.shelf in
    let code : ℤ = to_z w16 (of_z w16 c.code-in-Ok.result) in
    let old = c.args.touched.now.items in
    let new = c.tell_places.new.touched.items in
    deletion_acknowledged a b (((b.state.world, new), code) ≡ deleted (a.state.world, old) c.args.name.now) (new ≡ old) code (returns-in-Ok-clause-answered g c)

pub returns-in-Err-clause-answered : goal.returns-in-Err-clause-answered
returns-in-Err-clause-answered g c =
    let log = g.L.PartitionLog.log in
    let disk = g.S.Store.disk in
    let a = scene log disk c.args.parts.now c.args.shelf.now in
    let b = scene log disk c.delete.new.self c.delete.new.shelf in
    let files = a.disk.files in
    let told = unless_err c.tell_places.result c.is_err.result c.is_err.ensures.value c.if-is_err.false (c.tell_places.ensures.told files) in
    let back = taken_back c.args.touched.now.items c.tell_places.new.touched.items c.truncate.new.self.items _ c.len-told.result c.truncate.ensures.items (omega (arith, c.len-told.ensures, c.args.touched.now.ok.0)) told in
    deletion_refused a b c.args.touched.now.items c.truncate.new.self.items c.args.name.now c.in-Some.instance c.in-Err.fault _ (c.in-Some.ensures files) back (to_z-of_z w16 c.code-in-Err.result (record { sfits = c.code-in-Err.type_inv }) ∙ c.code-in-Err.ensures) c.in-Err.ensures.told

pub returns-in-Err-clause-acknowledged : goal.returns-in-Err-clause-acknowledged
returns-in-Err-clause-acknowledged g c =
    let log = g.L.PartitionLog.log in
    let disk = g.S.Store.disk in
    let a = scene log disk c.args.parts.now c.args.shelf.now in
    let b = scene log disk c.delete.new.self c.delete.new.shelf in
    let code : ℤ = to_z w16 (of_z w16 c.code-in-Err.result) in
    let old = c.args.touched.now.items in
    let new = c.truncate.new.self.items in
    deletion_acknowledged a b (((b.state.world, new), code) ≡ deleted (a.state.world, old) c.args.name.now) (new ≡ old) code (returns-in-Err-clause-answered g c)
