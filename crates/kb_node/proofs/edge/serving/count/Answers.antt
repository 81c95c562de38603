use Rattle.std.proofs.Common.{◌≡◌, ◌∙◌, ◌-◌, IfSome, slice_get, slice_set, ap, refl, subst, sym}
use Rattle.kb_node.specs.Replies.{holder_place}
use Rattle.kb_node.specs.TenantTraffic.{with_traffic}
use Rattle.kb_node.proofs.Cores.{item_at}
use Rattle.kb_node.proofs.edge.serving.count.Goals as goal

pub returns-clause-counted : goal.returns-clause-counted
returns-clause-counted g c = λ _.
    let xs = c.args.traffic.now.items in let s = c.args.socket.now in let turn = c.args.turn.now in let before = c.args.before in
    let key = c.take_key-key.ensures.key in let read = c.saturating_sub-read.ensures in let written = c.saturating_sub-written.ensures in
    let holder = c.holder-holder.ensures ∙ ap (λ n. holder_place n c.args.shares.now) c.connection.ensures in
    subst (λ p. IfSome (slice_get xs p) (λ t. slice_set xs c.holder-holder.result c.count.new.self
    ≡ slice_set xs p (with_traffic s.heading.key (turn.read - before.read) (turn.written - before.written) t))) holder
    (subst (λ o. IfSome o (λ t. slice_set xs c.holder-holder.result c.count.new.self
    ≡ slice_set xs c.holder-holder.result (with_traffic s.heading.key (turn.read - before.read) (turn.written - before.written) t)))
    (sym (item_at c.args.traffic.now c.holder-holder.result c.in-Some.traffic.now (c.in-Some.ensures.variant.0 refl) c.in-Some.ensures.value))
    (ap (slice_set xs c.holder-holder.result) (c.count.ensures ∙ λ i. with_traffic (key i) (read i) (written i) c.in-Some.traffic.now)))
