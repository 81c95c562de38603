use Rattle.std.proofs.Common.{◌≡◌, drop, map}
use Rattle.kb_node.specs.Replies.{holder_place}
use Rattle.kb_node.specs.Waiting.{first_stall_of, least, stall_of}
use Rattle.kb_node.proofs.edge.Edge.first_stall.Given as goal

-- the least so far, and of those that are left, is the least of all
abbrev pub invariant-loop-number : goal.invariant-loop-number
invariant-loop-number g l =
    least l.first (map (λ n. stall_of l.self.reply_millis l.self.replies.pool l.self.silences.stalls.moments (holder_place n l.self.shares)) (drop l.number-index l.self.ready.items))
    ≡ first_stall_of l.self.reply_millis l.self.shares l.self.replies.pool l.self.silences.stalls.moments l.self.ready.items
