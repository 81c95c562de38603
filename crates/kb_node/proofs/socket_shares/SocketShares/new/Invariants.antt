use Rattle.std.proofs.Common.{◌≡◌, take}
use Rattle.kb_node.proofs.socket_shares.SocketShares.new.Given as goal

-- the shares of the tenants so far
abbrev pub invariant-loop-share : goal.invariant-loop-share
invariant-loop-share l = l.all.items ≡ take l.share-index l.shares
