use Rattle.std.proofs.Common.{◌∙◌, inl, refl, rules, w16, w64}
use Rattle.std.proofs.lemmas.Int.{to_z-of_z}
use Rattle.kb_tenant_state.specs.Parts.{scene, world_of}
use Rattle.kb_tenant.proofs.Committing.{commit_code, commit_full, commit_told}
use Rattle.kb_tenant.proofs.group_commit.commit_at.Goals as goal

pub returns-then-is_over_limits-clause-meets : goal.returns-then-is_over_limits-clause-meets
returns-then-is_over_limits-clause-meets g c = λ honest agree calm.
    let disk = g.S.Store.disk c.args.shelf.now.store in
    let w = world_of g.L.PartitionLog.log c.args.parts.now disk.files in
    commit_full c.args.limits w c.args.place c.args.group.now c.args.entry.now _ c.is_over_limits.result _ c.metadata_in-metadata.ensures
    (c.is_over_limits.ensures disk.table c.args.shelf.now.next disk.files c.requires.sound) c.if-is_over_limits.true
    (to_z-of_z w16 c.code.result (record { sfits = c.code.type_inv }) ∙ c.code.ensures)

pub returns-then-is_over_limits-clause-told : goal.returns-then-is_over_limits-clause-told
returns-then-is_over_limits-clause-told g c =
    let disk = g.S.Store.disk c.args.shelf.now.store in
    let w = world_of g.L.PartitionLog.log c.args.parts.now disk.files in
    inl (record {
      counted = refl;
      met = λ honest agree. commit_full c.args.limits w c.args.place c.args.group.now c.args.entry.now _ c.is_over_limits.result _ c.metadata_in-metadata.ensures
          (c.is_over_limits.ensures disk.table c.args.shelf.now.next disk.files c.requires.sound) c.if-is_over_limits.true
          (to_z-of_z w16 c.code.result (record { sfits = c.code.type_inv }) ∙ c.code.ensures);
    })

pub returns-clause-meets : goal.returns-clause-meets
returns-clause-meets g c = λ honest agree calm.
    let disk = g.S.Store.disk c.args.shelf.now.store in
    let w = world_of g.L.PartitionLog.log c.args.parts.now disk.files in
    let v = world_of g.L.PartitionLog.log c.commit.new.self (g.S.Store.disk c.commit.new.shelf.store).files in
    let entry = c.args.entry.now in
    commit_code c.args.limits v w c.args.place c.args.group.now entry _ _ c.is_over_limits.result c.commit.result _ (to_z-of_z w64 entry.offset (search rules)) c.metadata_in-metadata.ensures
    (c.is_over_limits.ensures disk.table c.args.shelf.now.next disk.files c.requires.sound) c.if-is_over_limits.false
    (to_z-of_z w16 c.code_in.result (record { sfits = c.code_in.type_inv }) ∙ c.code_in.ensures) (c.commit.ensures.meets honest agree calm)

pub returns-clause-told : goal.returns-clause-told
returns-clause-told g c =
    let log = g.L.PartitionLog.log in
    let disk = g.S.Store.disk in
    let entry = c.args.entry.now in
    let now = disk c.args.shelf.now.store in
    commit_told c.args.limits (scene log disk c.args.parts.now c.args.shelf.now) (scene log disk c.commit.new.self c.commit.new.shelf) c.args.place c.args.group.now entry _ _ c.is_over_limits.result c.commit.result _
    (to_z-of_z w64 entry.offset (search rules)) c.metadata_in-metadata.ensures
    (c.is_over_limits.ensures now.table c.args.shelf.now.next now.files c.requires.sound) c.if-is_over_limits.false
    (to_z-of_z w16 c.code_in.result (record { sfits = c.code_in.type_inv }) ∙ c.code_in.ensures) c.commit.ensures.told
