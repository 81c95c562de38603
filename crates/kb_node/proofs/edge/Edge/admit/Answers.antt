use Rattle.std.proofs.Common.{◌∙◌, ap, inl, inr, ⊎_elim, refl, sym, arith}
use Rattle.kb_node.proofs.Alone.{others_joined, others_made}
use Rattle.kb_node.specs.Cores.{cores, seen}
use Rattle.kb_node.specs.Streams.{core_of}
use Rattle.kb_node.proofs.Carries.{on_err, on_ok}
use Rattle.kb_node.proofs.Goes.{goes_then}
use Rattle.kb_node.proofs.edge.Edge.admit.Goals as goal

pub returns-then-is_err-clause-goes : goal.returns-then-is_err-clause-goes
returns-then-is_err-clause-goes g c = goes_then c.make_room.ensures.goes c.take_in.ensures.goes

pub returns-else-is_err-clause-goes : goal.returns-else-is_err-clause-goes
returns-else-is_err-clause-goes g c = goes_then c.make_room.ensures.goes c.take_in.ensures.goes

pub returns-then-not-make_room-clause-admitted : goal.returns-then-not-make_room-clause-admitted
returns-then-not-make_room-clause-admitted g c = record {
  room = seen c.make_room.new.self.host c.make_room.new.self.sockets.items;
  goes = c.make_room.ensures.goes;
  tried = c.make_room.ensures.tried;
  admitted = inr (inr refl);
}

pub returns-then-is_err-clause-admitted : goal.returns-then-is_err-clause-admitted
returns-then-is_err-clause-admitted g c =
    let failed = sym c.is_err.ensures.value ∙ c.if-is_err.true in
    let same = on_err c.take_in.result c.take_in.ensures.others failed in
    record {
      room = seen c.make_room.new.self.host c.make_room.new.self.sockets.items;
      goes = c.make_room.ensures.goes;
      tried = c.make_room.ensures.tried;
      admitted = inr (⊎_elim
          (λ host. inr (λ i. seen (host i) (same i)))
          (λ refused. inl (record { refused = refused; sockets = ap cores same }))
          (on_err c.take_in.result c.take_in.ensures.unopened failed));
    }

pub returns-else-is_err-clause-admitted : goal.returns-else-is_err-clause-admitted
returns-else-is_err-clause-admitted g c = record {
  room = seen c.make_room.new.self.host c.make_room.new.self.sockets.items;
  goes = c.make_room.ensures.goes;
  tried = c.make_room.ensures.tried;
  admitted = inl (on_ok c.take_in.result c.take_in.ensures.socket (sym c.is_err.ensures.value ∙ c.if-is_err.false));
}

pub returns-then-not-make_room-clause-others : goal.returns-then-not-make_room-clause-others
returns-then-not-make_room-clause-others g c = λ n le ne. others_made _ _ _ _ c.make_room.ensures.made n ne

pub returns-then-is_err-clause-others : goal.returns-then-is_err-clause-others
returns-then-is_err-clause-others g c =
    let same = on_err c.take_in.result c.take_in.ensures.others (sym c.is_err.ensures.value ∙ c.if-is_err.true) in
    λ n le ne. ap (λ xs. core_of n (cores xs)) same ∙ others_made _ _ _ _ c.make_room.ensures.made n ne

pub returns-else-is_err-clause-others : goal.returns-else-is_err-clause-others
returns-else-is_err-clause-others g c =
    let taken = on_ok c.take_in.result c.take_in.ensures.socket (sym c.is_err.ensures.value ∙ c.if-is_err.false) in
    λ n le ne. others_joined _ _ _ _ taken.1.joined n (λ e. absurd (omega (arith, e, le, taken.0, c.make_room.ensures.tried)))
    ∙ others_made _ _ _ _ c.make_room.ensures.made n ne
