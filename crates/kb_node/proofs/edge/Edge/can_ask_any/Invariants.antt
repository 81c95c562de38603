use Rattle.std.proofs.Common.{◌≡◌, drop}
use Rattle.std.specs.List.{list_any}
use Rattle.kb_node.specs.Cores.{seen}
use Rattle.kb_node.specs.Numbers.{IsInOrder}
use Rattle.kb_node.specs.Waiting.{may_be_asked}
use Rattle.kb_node.proofs.edge.Edge.can_ask_any.Given as goal

-- none of those before may be asked: one may where one of those that are left may
abbrev pub invariant-loop-number : goal.invariant-loop-number
invariant-loop-number g l = IsInOrder (seen l.self.host l.self.sockets.items)
    → list_any (may_be_asked l.self.shares l.self.replies.pool l.self.inputs.pool l.self.sockets.items) (drop l.number-index l.self.ready.items)
    ≡ list_any (may_be_asked l.self.shares l.self.replies.pool l.self.inputs.pool l.self.sockets.items) l.self.ready.items
