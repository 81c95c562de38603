use Rattle.std.proofs.Common.{◌≡◌, map, take}
use Rattle.kb_settings.specs.Values.{values_of}
use Rattle.kb_node.specs.SocketShares.{share_named}
use Rattle.kb_node.proofs.socket_shares.SocketShares.of.Given as goal

-- the shares of the tenants so far
abbrev pub invariant-loop-name : goal.invariant-loop-name
invariant-loop-name l = l.shares.items ≡ map (share_named (values_of l.fn.settings)) (map (λ name. name.now) (take l.name-index l.name-items))
