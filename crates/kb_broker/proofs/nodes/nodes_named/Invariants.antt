use Rattle.std.proofs.Common.{◌≡◌, map, take}
use Rattle.kb_settings.specs.Values.{values_of}
use Rattle.kb_broker.specs.Nodes.{node_named}
use Rattle.kb_broker.proofs.nodes.nodes_named.Given as goal

abbrev pub invariant-loop-name : goal.invariant-loop-name
invariant-loop-name l = l.nodes.items ≡ map (λ n. node_named l.fn.listing (values_of l.fn.settings) n.now) (take l.name-index l.names)
