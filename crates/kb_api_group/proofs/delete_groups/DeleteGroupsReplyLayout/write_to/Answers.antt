use Rattle.kb_wire.specs.Sunk.{adds_both, adds_stop}
use Rattle.kb_api_group.specs.Layouts.{delete_groups_reply}
use Rattle.kb_api_group.proofs.delete_groups.DeleteGroupsReplyLayout.write_to.Goals as goal

pub returns-in_err-write_to : goal.returns-in_err-write_to
unfolding delete_groups_reply
returns-in_err-write_to c = adds_stop _ c.in_err-write_to.ensures c.from_residual.ensures.0

pub returns : goal.returns
unfolding delete_groups_reply
returns c = adds_both c.in_ok-write_to.ensures c.write_to-2.ensures
