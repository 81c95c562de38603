use Rattle.std.proofs.Common.{◌≡◌, ◌∙◌, ℤ, ap, sym, rules, subst, Some, to_z, of_z, w16, w32}
use Rattle.std.proofs.lemmas.Int.{to_z-of_z}
use Rattle.kb_tenant_state.specs.Parts.{scene, world_of}
use Rattle.kb_tenant_state.specs.Told.{IsCatalogWant}
use Rattle.kb_tenant_state.specs.World.{World, place_in}
use Rattle.kb_tenant.specs.OffsetCommit.{committed, committed_at}
use Rattle.kb_tenant.specs.Told.{IsFaultOf, IsTold}
use Rattle.kb_tenant.proofs.Committing.{acknowledged, entry_at, told_so}
use Rattle.kb_tenant.proofs.group_commit.commit_entry.Goals as goal

pub returns-clause-meets : goal.returns-clause-meets
returns-clause-meets g c = λ honest agree calm.
    let w : World = world_of g.L.PartitionLog.log c.args.parts.now (g.S.Store.disk c.args.shelf.now.store).files in
    let v : World = world_of g.L.PartitionLog.log c.commit_at.new.parts (g.S.Store.disk c.commit_at.new.shelf.store).files in
    let e = c.args.entry.now in
    ap (λ (z : ℤ). (v, z)) (to_z-of_z w16 c.commit_at.result (record { sfits = c.commit_at.type_inv }))
    ∙ c.commit_at.ensures.meets honest agree calm
    ∙ entry_at w c.args.limits c.args.refusal c.args.group.now c.args.topic e (Some c.in-Some-new.place) c.in_default.is (c.in-Some-new.ensures ∙ ap (place_in c.args.topic) (to_z-of_z w32 e.partition (search rules)))

pub returns-clause-told : goal.returns-clause-told
returns-clause-told g c =
    let log = g.L.PartitionLog.log in
    let disk = g.S.Store.disk in
    let a = scene log disk c.args.parts.now c.args.shelf.now in
    let b = scene log disk c.commit_at.new.parts c.commit_at.new.shelf in
    let w : World = a.state.world in
    let v : World = b.state.world in
    let e = c.args.entry.now in
    let group = c.args.group.now in
    subst (λ z. IsTold a b ((v, z) ≡ committed c.args.limits c.args.refusal group c.args.topic w e) (IsFaultOf (IsCatalogWant a b) z)) (sym (to_z-of_z w16 c.commit_at.result (record { sfits = c.commit_at.type_inv })))
    (told_so a b ((v, c.commit_at.result) ≡ committed_at c.args.limits w (Some c.in-Some-new.place) group e) ((v, c.commit_at.result) ≡ committed c.args.limits c.args.refusal group c.args.topic w e) (IsFaultOf (IsCatalogWant a b) c.commit_at.result)
    (λ is. is ∙ entry_at w c.args.limits c.args.refusal group c.args.topic e (Some c.in-Some-new.place) c.in_default.is (c.in-Some-new.ensures ∙ ap (place_in c.args.topic) (to_z-of_z w32 e.partition (search rules))))
    c.commit_at.ensures.told)

pub returns-clause-acknowledged : goal.returns-clause-acknowledged
returns-clause-acknowledged g c =
    let log = g.L.PartitionLog.log in
    let disk = g.S.Store.disk in
    let a = scene log disk c.args.parts.now c.args.shelf.now in
    let b = scene log disk c.commit_at.new.parts c.commit_at.new.shelf in
    let code : ℤ = to_z w16 (of_z w16 c.commit_at.result) in
    acknowledged a b ((b.state.world, code) ≡ committed c.args.limits c.args.refusal c.args.group.now c.args.topic a.state.world c.args.entry.now) (IsCatalogWant a b) code (returns-clause-told g c)
