use Rattle.kb_wire.specs.Sunk.{adds_both, adds_stop}
use Rattle.kb_api_data.specs.Both.{both}
use Rattle.kb_api_data.proofs.both.BothLayout.write_to.Goals as goal

pub returns-in_err-write_to : goal.returns-in_err-write_to
unfolding both
returns-in_err-write_to g c = adds_stop _ c.in_err-write_to.ensures c.from_residual.ensures.0

pub returns : goal.returns
unfolding both
returns g c = adds_both c.in_ok-write_to.ensures c.write_to-2.ensures
