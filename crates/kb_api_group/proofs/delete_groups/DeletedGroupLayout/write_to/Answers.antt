use Rattle.kb_wire.specs.Sunk.{adds_both, adds_stop}
use Rattle.kb_api_group.specs.Layouts.{deleted_group}
use Rattle.kb_api_group.proofs.delete_groups.DeletedGroupLayout.write_to.Goals as goal

pub returns-in_err-write_to : goal.returns-in_err-write_to
unfolding deleted_group
returns-in_err-write_to c = adds_stop _ c.in_err-write_to.ensures c.from_residual.ensures.0

pub returns : goal.returns
unfolding deleted_group
returns c = adds_both c.in_ok-write_to.ensures c.write_to-2.ensures
