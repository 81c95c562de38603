use Rattle.std.proofs.Common.{◌≡◌, ◌++◌, ◌∷◌, [], Ok, of_z, rules, subst, sym, to_z}
use Rattle.std.specs.Int.{w64}
use Rattle.std.proofs.lemmas.Int.{to_z-of_z}
use Rattle.kb_tenant_state.specs.Parts.{scene}
use Rattle.kb_tenant_state.specs.Steps.{IsStep}
use Rattle.kb_tenant.proofs.Refusing.{step_refused}
use Rattle.kb_tenant.proofs.Trimming.{deletion_told}
use Rattle.kb_tenant.proofs.delete_records.delete_at.Goals as goal

pub returns-clause-told : goal.returns-clause-told
returns-clause-told g c =
    let log = g.L.PartitionLog.log in
    let disk = g.S.Store.disk in
    let start : to_z w64 (of_z w64 c.in_ok-start.start) ≡ c.in_ok-start.start = search rules in
    let is : c.delete_records.result ≡ Ok c.in_ok-start.start = c.in_ok-start.was in
    let more : c.push_reserved.new.self.items ≡ c.args.touched.now.items ++ c.args.place ∷ [] = search rules in
    deletion_told (scene log disk c.args.parts.now c.args.shelf.now) (scene log disk c.delete_records.new.self c.delete_records.new.shelf) c.args.touched.now.items c.push_reserved.new.self.items c.args.place _ c.args.offset _ c.in_ok-start.start c.delete_records.result
    (to_z-of_z w64 c.args.offset c.ranges.offset) start is more c.delete_records.ensures.told

pub returns-then-is_err-clause-step : goal.returns-then-is_err-clause-step
returns-then-is_err-clause-step g c =
    let log = g.L.PartitionLog.log in
    let disk = g.S.Store.disk in
    subst (λ p. IsStep (scene log disk c.args.parts.now c.args.shelf.now) (scene log disk p c.args.shelf.now)) (sym c.refuse.ensures) (step_refused log disk c.args.parts.now c.args.shelf.now c.requires)
