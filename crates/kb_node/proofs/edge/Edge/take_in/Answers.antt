use Rattle.std.proofs.Common.{◌∙◌, ap, arith, inr, refl, sym}
use Rattle.kb_isolation_spec.specs.Calls.{opened}
use Rattle.kb_node.specs.Cores.{seen}
use Rattle.kb_node.proofs.Carries.{on_err, on_ok}
use Rattle.kb_node.proofs.Goes.{goes_joined, goes_opened, goes_still, goes_then, joined}
use Rattle.kb_node.proofs.Seats.{comes_behind, given_any, not_kept}
use Rattle.kb_node.proofs.edge.Edge.take_in.Goals as goal

pub returns-then-is_err-clause-goes : goal.returns-then-is_err-clause-goes
returns-then-is_err-clause-goes g c = goes_still (ap (λ xs. seen c.args.self.now.host xs) c.reserve.ensures.items)

pub returns-then-is_err-2-clause-goes : goal.returns-then-is_err-2-clause-goes
returns-then-is_err-2-clause-goes g c = goes_then (goes_still (ap (λ xs. seen c.args.self.now.host xs) c.reserve.ensures.items))
    (goes_opened c.in-Some.ensures.above.0 c.connect.ensures.tried (ap (λ x. x.sync) c.connect.ensures.commits) c.connect.ensures.happens (record {
      refused = on_err c.connect.result c.connect.ensures.err (sym c.is_err-2.ensures.value ∙ c.if-is_err-2.true);
      sockets = refl;
    }))

pub returns-then-is_err-2-clause-unopened : goal.returns-then-is_err-2-clause-unopened
returns-then-is_err-2-clause-unopened g c =
    inr (on_err c.connect.result c.connect.ensures.err (sym c.is_err-2.ensures.value ∙ c.if-is_err-2.true))

pub returns-clause-goes : goal.returns-clause-goes
returns-clause-goes g c =
    goes_joined c.in-Some.connection c.args.stream c.in-Some.ensures.above.0 c.connect.ensures.tried (ap (λ x. x.sync) c.connect.ensures.commits) c.connect.ensures.happens (record {
      opened = on_ok c.connect.result c.connect.ensures.ok (sym c.is_err-2.ensures.value ∙ c.if-is_err-2.false);
      joined = joined _ _ _ _ c.push_reserved.ensures.items c.reserve.ensures.items
          c.new-socket.ensures.connection c.new-socket.ensures.stream c.new-socket.ensures.unwritten c.new-socket.ensures.unhanded
          c.new-socket.ensures.whole c.new-socket.ensures.open;
    })

pub returns-clause-socket : goal.returns-clause-socket
returns-clause-socket g c =
    let kept = on_ok c.connect.result c.connect.ensures.ok (sym c.is_err-2.ensures.value ∙ c.if-is_err-2.false) in (
      omega (arith, c.in-Some.ensures.above.0, c.connect.ensures.tried),
      record {
        opened = kept ∙ ap (λ n. opened c.args.self.now.host.broker.state n) (sym c.connect.ensures.tried);
        joined = joined _ _ _ _ c.push_reserved.ensures.items c.reserve.ensures.items
            (c.new-socket.ensures.connection ∙ sym c.connect.ensures.tried) c.new-socket.ensures.stream
            c.new-socket.ensures.unwritten c.new-socket.ensures.unhanded c.new-socket.ensures.whole c.new-socket.ensures.open;
      },
    )

pub invariant_of-self-then-is_err-clause-seated : goal.invariant_of-self-then-is_err-clause-seated
invariant_of-self-then-is_err-clause-seated g c =
    let any = given_any c.admit-2.result c.in-Some.connection c.args.self.now.shares.tenants c.args.self.now.shares c.admit-2.new.self c.admit-2.ensures.seat c.admit-2.ensures.none in
    not_kept c.args.self.now.host c.args.self.now.host c.args.self.now.shares c.admit-2.new.self c.refuse.new.shares _ _ c.in-Some.connection any.0 c.reserve.ensures.items c.in-Some.ensures.above.0 (omega arith)
    any.1 c.refuse.ensures c.args.self.now.seated

pub invariant_of-self-then-is_err-2-clause-seated : goal.invariant_of-self-then-is_err-2-clause-seated
invariant_of-self-then-is_err-2-clause-seated g c =
    let any = given_any c.admit-2.result c.in-Some.connection c.args.self.now.shares.tenants c.args.self.now.shares c.admit-2.new.self c.admit-2.ensures.seat c.admit-2.ensures.none in
    not_kept c.args.self.now.host c.connect.new.self c.args.self.now.shares c.admit-2.new.self c.refuse-then-is_err-2.new.shares _ _ c.in-Some.connection any.0 c.reserve.ensures.items c.in-Some.ensures.above.0
    (omega (arith, c.in-Some.ensures.above.0, c.connect.ensures.tried)) any.1 c.refuse-then-is_err-2.ensures c.args.self.now.seated

pub invariant_of-self-2-clause-seated : goal.invariant_of-self-2-clause-seated
invariant_of-self-2-clause-seated g c =
    comes_behind c.args.self.now.host c.connect.new.self c.args.self.now.shares c.admit-2.new.self _ _ _ c.in-Some.connection _ c.push_reserved.ensures.items c.reserve.ensures.items c.in-Some.ensures.above.0 c.connect.ensures.tried
    (on_ok c.admit-2.result c.admit-2.ensures.seat (sym c.is_err.ensures.value ∙ c.if-is_err.false))
    c.new-socket.ensures.connection c.new-socket.ensures.open c.new-socket.ensures.stranger.1 c.args.self.now.seated
