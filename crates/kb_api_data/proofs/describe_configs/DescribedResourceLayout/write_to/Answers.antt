use Rattle.kb_wire.specs.Sunk.{adds_both, adds_stop}
use Rattle.kb_api_data.specs.Layouts.{described_resource}
use Rattle.kb_api_data.proofs.describe_configs.DescribedResourceLayout.write_to.Goals as goal

pub returns-in_err-write_to : goal.returns-in_err-write_to
unfolding described_resource
returns-in_err-write_to c = adds_stop _ c.in_err-write_to.ensures c.from_residual.ensures.0

pub returns-in_err-write_to-2 : goal.returns-in_err-write_to-2
unfolding described_resource
returns-in_err-write_to-2 c = adds_both c.in_ok-write_to.ensures (adds_stop _ c.in_err-write_to-2.ensures c.from_residual-in_err-write_to-2.ensures.0)

pub returns-in_err-write_to-3 : goal.returns-in_err-write_to-3
unfolding described_resource
returns-in_err-write_to-3 c = adds_both c.in_ok-write_to.ensures (adds_both c.in_ok-write_to-2.ensures (adds_stop _ c.in_err-write_to-3.ensures c.from_residual-in_err-write_to-3.ensures.0))

pub returns-in_err-write_to-4 : goal.returns-in_err-write_to-4
unfolding described_resource
returns-in_err-write_to-4 c = adds_both c.in_ok-write_to.ensures (adds_both c.in_ok-write_to-2.ensures (adds_both c.in_ok-write_to-3.ensures (adds_stop _ c.in_err-write_to-4.ensures c.from_residual-in_err-write_to-4.ensures.0)))

pub returns : goal.returns
unfolding described_resource
returns c = adds_both c.in_ok-write_to.ensures (adds_both c.in_ok-write_to-2.ensures (adds_both c.in_ok-write_to-3.ensures (adds_both c.in_ok-write_to-4.ensures c.write_to-5.ensures)))
