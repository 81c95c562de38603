use Rattle.kb_node.proofs.Goes.{goes_then}
use Rattle.kb_node.proofs.edge.Edge.close_silent.Goals as goal

pub returns : goal.returns
returns g c =
    goes_then c.close_strangers.ensures.goes (goes_then c.try_again.ensures.goes (goes_then c.close_unread.ensures.goes
    (goes_then c.close_stalled.ensures c.drop_ended.ensures.goes)))
