use Rattle.kb_node.proofs.Counts.{fresh_counted}
use Rattle.kb_node.proofs.socket_shares.SocketShares.new.Goals as goal

pub invariant_of-result : goal.invariant_of-result
invariant_of-result c = fresh_counted c.args.sockets c.deref.result.now c.in_ok-new.field-0 c.new-2.result.entries c.in_ok-new.ensures.fresh
    c.new-2.ensures.empty
