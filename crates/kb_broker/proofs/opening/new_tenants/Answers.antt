use Rattle.std.proofs.Common.{◌∙◌}
use Rattle.kb_tenant_api.specs.Hosted.{new_tenant}
use Rattle.kb_broker.proofs.Handled.{from_ok}
use Rattle.kb_broker.proofs.OpeningParts.{mapped-more}
use Rattle.kb_broker.proofs.opening.new_tenants.Goals as goal

pub loop-name-preserved : goal.loop-name-preserved
loop-name-preserved g c =
    let pushed = from_ok c.add-added.result c.is_err.result _ c.is_err.ensures.value c.if-is_err.false c.add-added.ensures.ok in
    record {
      hosted = c.add-added.ensures.invariant;
      new = mapped-more (λ name. new_tenant name.now) c.args.names.now c.loop-name.name-index _ _ _ c.loop-name-test.true c.loop-name.invariant.new pushed;
      store = c.add-added.ensures.shelf ∙ c.loop-name.invariant.store;
      strays = c.add-added.ensures.strays ∙ c.loop-name.invariant.strays;
    }
