use Rattle.std.proofs.Common.{sym, subst}
use Rattle.kb_tenant_state.specs.Scene.{WhereHonest}
use Rattle.kb_tenant_state.specs.Steps.{IsStep}
use Rattle.kb_tenant_state.specs.Parts.{scene, scene_on}
use Rattle.kb_tenant_state.proofs.Lifted.{refused_step}
use Rattle.kb_tenant.specs.declared.answer.Answer.TheVariants as answers
use Rattle.kb_tenant.proofs.Answered.{IsToldOf}
use Rattle.kb_tenant.proofs.dispatch.serve.Goals as goal

pub returns-in-Err-Memory-clause-step : goal.returns-in-Err-Memory-clause-step
returns-in-Err-Memory-clause-step g c =
    let log = g.L.PartitionLog.log in
    let a = scene log g.S.Store.disk c.args.parts.now c.args.shelf.now in
    let shelf = c.serve_by_key.new.shelf in
    let disk = g.S.Store.disk shelf.store in
    subst (λ p. IsStep a (scene_on log p disk shelf.next)) (sym c.refuse.ensures) (refused_step log a c.serve_by_key.new.parts disk shelf.next c.serve_by_key.ensures.step)

pub returns-in-Err-Memory-clause-told : goal.returns-in-Err-Memory-clause-told
returns-in-Err-Memory-clause-told g c =
    let log = g.L.PartitionLog.log in
    let disk = g.S.Store.disk in
    let shelf = c.serve_by_key.new.shelf in
    let a = scene log disk c.args.parts.now c.args.shelf.now in
    let b = scene log disk c.serve_by_key.new.parts shelf in
    let request = c.args.request.now in
    let touched = c.serve_by_key.new.touched.items in
    let told : WhereHonest a b (IsToldOf a b c.args.node.now c.args.clock request touched answers.Shut) = c.in-Err-Memory.ensures.told in
    subst (λ p. let d = scene log disk p shelf in WhereHonest a d (IsToldOf a d c.args.node.now c.args.clock request touched answers.Shut))
    (sym c.refuse.ensures) told
