use Rattle.kb_node.proofs.Seats.{leave}
use Rattle.kb_node.specs.Seats.{AreSeated}
use Rattle.std.proofs.Common.{◌≡◌, ◌∙◌, true, nat_lt, if◌then◌else◌, rules, ap, subst, sym, arith}
use Rattle.std.proofs.lemmas.Fn.{filter_same}
use Rattle.std.proofs.lemmas.Bool.Decides.{nat_tests}
use Rattle.kb_node.specs.Cores.{cores, open_ones}
use Rattle.kb_node.proofs.Cores.{swept}
use Rattle.kb_node.proofs.Goes.{goes_left}
use Rattle.kb_node.proofs.edge.Edge.drop_ended.Goals as goal

pub returns-then-turn-gt0-clause-goes : goal.returns-then-turn-gt0-clause-goes
returns-then-turn-gt0-clause-goes g c = goes_left _ c.args.self.now.sockets.items _
    (ap cores (filter_same _ _ _ (λ x b f' k. search rules) _ _ c.retain.ensures.filtered) ∙ swept c.args.self.now.sockets.items)

pub invariant_of-self-clause-seated : goal.invariant_of-self-clause-seated
invariant_of-self-clause-seated g c = subst (λ xs. AreSeated c.args.self.now.host c.args.self.now.shares xs)
    (sym (filter_same _ _ _ (λ x b f' k. search rules) _ _ c.retain.ensures.filtered))
    (leave c.args.self.now.host c.args.self.now.shares c.args.self.now.sockets.items c.args.self.now.seated)

pub returns-then-turn-gt0-clause-dropped : goal.returns-then-turn-gt0-clause-dropped
returns-then-turn-gt0-clause-dropped g c =
    let some : nat_lt 0 c.args.turn.now.closed ≡ true = grind (arith, nat_tests, c.if-turn-gt0.true) in
    ap cores (filter_same _ _ _ (λ x b f' k. search rules) _ _ c.retain.ensures.filtered) ∙ swept c.args.self.now.sockets.items
    ∙ sym (ap (λ b. if b then open_ones (cores c.args.self.now.sockets.items) else cores c.args.self.now.sockets.items) some)
