use Rattle.std.proofs.Common.{sym, subst}
use Rattle.kb_tenant_state.specs.Steps.{IsStep}
use Rattle.kb_tenant_state.specs.Parts.{scene, scene_on}
use Rattle.kb_tenant_state.proofs.Lifted.{refused_step}
use Rattle.kb_tenant.proofs.dispatch.look.Goals as goal

pub returns-in-Err-clause-step : goal.returns-in-Err-clause-step
returns-in-Err-clause-step g c =
    let log = g.L.PartitionLog.log in
    let a = scene log g.S.Store.disk c.args.parts.now c.args.shelf.now in
    let shelf = c.look_at.new.shelf in
    let disk = g.S.Store.disk shelf.store in
    subst (λ p. IsStep a (scene_on log p disk shelf.next)) (sym c.refuse.ensures) (refused_step log a c.look_at.new.parts disk shelf.next c.look_at.ensures.step)
