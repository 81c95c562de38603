use Rattle.std.proofs.Common.{◌≡◌, take}
use Rattle.kb_node.specs.Cores.{seen}
use Rattle.kb_node.specs.Numbers.{IsInOrder}
use Rattle.kb_node.specs.Ready.{LinesUp}
use Rattle.kb_node.specs.Traffic.{Along}
use Rattle.kb_node.proofs.edge.Edge.line_up.Given as goal

-- nothing changes but who stands where, and each of those before was lined up
abbrev pub invariant-loop-number : goal.invariant-loop-number
invariant-loop-number g l = record {
  stays : seen l.self.host l.self.sockets.items ≡ seen l.fn.self.host l.fn.self.sockets.items;
  round : l.number-items ≡ l.fn.self.ready.items;
  shares : l.self.shares ≡ l.fn.self.shares;
  replies : l.self.replies ≡ l.fn.self.replies;
  inputs : l.self.inputs ≡ l.fn.self.inputs;
  sockets : l.self.sockets ≡ l.fn.self.sockets;
  lined : IsInOrder (seen l.fn.self.host l.fn.self.sockets.items) → Along (LinesUp l.fn.is_for_all l.fn.self.shares l.fn.self.replies.pool l.fn.self.inputs.pool l.fn.self.sockets.items)
      (take l.number-index l.fn.self.ready.items) (record { lanes = l.fn.self.lanes; ready = l.fn.self.spare }) (record { lanes = l.self.lanes; ready = l.self.ready });
}
