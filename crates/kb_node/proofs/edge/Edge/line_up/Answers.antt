use Rattle.std.proofs.Common.{◌∙◌, ap, subst, sym}
use Rattle.kb_node.specs.Numbers.{IsInOrder}
use Rattle.kb_node.specs.Ready.{LinesUp}
use Rattle.kb_node.proofs.Ready.{lined_with}
use Rattle.kb_node.proofs.Traffic.{along_found}
use Rattle.kb_node.proofs.edge.Edge.line_up.Goals as goal

pub loop-number-preserved : goal.loop-number-preserved
loop-number-preserved g c =
    let was = c.loop-number.invariant in let rest = c.line_up_one.ensures.rest in let old = c.args.self.now in let mid = c.loop-number.self in
    record {
      stays = c.line_up_one.ensures.seen ∙ was.stays;
      round = was.round;
      shares = rest.1 ∙ was.shares;
      replies = rest.2 ∙ was.replies;
      inputs = rest.3 ∙ was.inputs;
      sockets = rest.0 ∙ was.sockets;
      lined = λ r. along_found (LinesUp c.args.is_for_all old.shares old.replies.pool old.inputs.pool old.sockets.items)
          c.deref-number-items.result.now old.ready.items c.loop-number.number-index 0 _ _ _ was.round c.loop-number-test.true (was.lined r)
          (lined_with c.args.is_for_all old.shares mid.shares old.replies.pool mid.replies.pool old.inputs.pool mid.inputs.pool old.sockets.items mid.sockets.items _ _ _
          was.shares (ap (λ l. l.pool) was.replies) (ap (λ l. l.pool) was.inputs) (ap (λ v. v.items) was.sockets)
          (c.line_up_one.ensures.lined (subst (λ x. IsInOrder x) (sym was.stays) r)));
    }
