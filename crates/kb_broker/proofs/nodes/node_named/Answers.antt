use Rattle.kb_broker.proofs.OpeningParts.{host-fits}
use Rattle.kb_broker.proofs.nodes.node_named.Goals as goal

pub new-requires : goal.new-requires
new-requires c = record { host = host-fits _ c.told_to-port.result.0.now c.in_ok-host.ensures.ok c.told_to-port.ensures.host }
