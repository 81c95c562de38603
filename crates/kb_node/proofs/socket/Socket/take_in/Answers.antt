use Rattle.std.proofs.Common.{sym, ◌++◌, ◌+◌, ◌-◌, ◌∙◌, ap, subst}
use Rattle.kb_node.proofs.Carries.{hands_front, keeps, none_in, on_ok, or_gone, or_mid, some_in}
use Rattle.kb_isolation_spec.specs.Machine.{Comes}
use Rattle.kb_node.specs.Traffic.{Happens}
use Rattle.kb_node.proofs.socket.Socket.take_in.Goals as goal

pub returns-then-is_empty-clause-hands_on : goal.returns-then-is_empty-clause-hands_on
returns-then-is_empty-clause-hands_on g c =
    keeps g.S.Store.disk g.T.Write.contents g.T.Read.remaining c.args.self.now _ _ c.args.piece.now c.split_at.result.0.now c.split_at.result.1.now c.split_at.ensures.by_index.0
    (none_in c.split_at.result.0.now (sym c.is_empty.ensures ∙ c.if-is_empty.true))
    (λ there. on_ok c.push.result c.push.ensures.ok (sym c.is_err-is_lost.ensures.value ∙ or_mid c.pass-count.new.self.is_lost c.is_err-is_lost.result c.pass-count.new.self.is_ended there)
    ∙ ap (λ x. x ++ c.split_at.result.1.now) c.pass-count.ensures.unhanded)
    (λ was. or_gone c.pass-count.new.self.is_lost c.is_err-is_lost.result c.pass-count.new.self.is_over (ap (λ s. s.is_lost) c.pass-count.ensures.rest ∙ was))

pub returns-clause-hands_on : goal.returns-clause-hands_on
returns-clause-hands_on g c =
    hands_front g.S.Store.disk g.T.Write.contents g.T.Read.remaining c.args.self.now _ _ _ c.args.piece.now c.split_at.result.0.now c.split_at.result.1.now c.split_at.ensures.by_index.0
    (c.pass-count.ensures.first (some_in c.split_at.result.0.now c.pass-count.result c.split_at.ensures.front_len (sym c.is_empty.ensures ∙ c.if-is_empty.false)))
    (λ there. on_ok c.push.result c.push.ensures.ok (sym c.is_err-is_lost.ensures.value ∙ or_mid c.pass-count.new.self.is_lost c.is_err-is_lost.result c.pass-count.new.self.is_ended there)
    ∙ ap (λ x. x ++ c.split_at.result.1.now) c.pass-count.ensures.unhanded)
    (λ was. or_gone c.pass-count.new.self.is_lost c.is_err-is_lost.result c.pass-count.new.self.is_over (ap (λ s. s.is_lost) c.pass-count.ensures.rest ∙ was))
    (subst (λ n. Happens g.S.Store.disk (Comes n c.split_at.result.0.now) c.args.host.now.broker c.input.new.self.broker) (ap (λ s. s.connection) c.pass-count.ensures.rest) c.input.ensures.happens)
