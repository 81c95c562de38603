use Rattle.std.proofs.Common.{◌≡◌, ◌∙◌, ap, subst}
use Rattle.kb_node.specs.Ready.{ComesLast}
use Rattle.kb_node.proofs.Goes.{goes_same}
use Rattle.kb_node.proofs.Telling.{telling_same}
use Rattle.kb_node.proofs.edge.Edge.hand_on_next.Goals as goal

pub returns-clause-goes : goal.returns-clause-goes
returns-clause-goes g c = goes_same c.put_in_line.ensures.seen c.hand_on_one.ensures.goes

pub returns-clause-unasked : goal.returns-clause-unasked
returns-clause-unasked g c = λ off. telling_same c.put_in_line.ensures.seen (c.hand_on_one.ensures.unasked (c.may_ask-may_ask.ensures.open ∙ off))

pub returns-clause-line : goal.returns-clause-line
returns-clause-line g c =
    let stays = c.hand_on_one.ensures.line in (
      λ open_one. let put = c.put_in_line.ensures.asked (c.may_ask-may_ask.ensures.open ∙ open_one) in
          (put.0 ∙ stays.0, subst (λ v. ComesLast c.args.number v c.put_in_line.new.self.asked) stays.1 put.1),
      λ off. let put = c.put_in_line.ensures.unasked (c.may_ask-may_ask.ensures.open ∙ off) in
          (put.0 ∙ stays.1, subst (λ v. ComesLast c.args.number v c.put_in_line.new.self.ready) stays.0 put.1),
    )
