use Rattle.kb_broker.proofs.OpeningParts.{host-fits}
use Rattle.kb_broker.proofs.nodes.node_unnamed.Goals as goal

pub new-requires : goal.new-requires
new-requires c = record { host = host-fits _ c.told-port.result.0.now c.in_ok-host.ensures.ok c.told-port.ensures.host }
