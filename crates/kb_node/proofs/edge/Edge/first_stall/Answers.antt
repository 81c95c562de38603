use Rattle.std.proofs.Common.{◌≡◌, ◌∙◌, ◌+◌, ℕ, ap, drop, map, min, slice_index_or, subst}
use Rattle.kb_node.specs.Replies.{holder_place}
use Rattle.kb_node.specs.Waiting.{least, stall_of}
use Rattle.kb_node.proofs.Waiting.{least_step}
use Rattle.kb_node.proofs.edge.Edge.first_stall.Goals as goal

pub loop-number-preserved : goal.loop-number-preserved
loop-number-preserved g c =
    let s = c.args.self.now in
    let f : ℕ → ℕ = λ n. stall_of s.reply_millis s.replies.pool s.silences.stalls.moments (holder_place n s.shares) in
    let xs = c.deref-number-items.result.now in let i = c.loop-number.number-index in let a = c.loop-number.first in
    ap (λ r. least r (map f (drop (i + 1) s.ready.items))) (c.min-first.ensures ∙ ap (λ r. min a r) c.stall_of.ensures)
    ∙ subst (λ ys. least (min a (f (slice_index_or xs i 0))) (map f (drop (i + 1) ys)) ≡ least a (map f (drop i ys))) c.deref-number-items.ensures.value
    (least_step f xs i a c.loop-number-test.true)
    ∙ c.loop-number.invariant
