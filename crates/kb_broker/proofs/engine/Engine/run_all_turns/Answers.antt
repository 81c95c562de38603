use Rattle.kb_broker.proofs.Handled.{next-able, nowhere-able}
use Rattle.kb_broker.proofs.Going.{gone-same, gone-then}
use Rattle.kb_broker.proofs.engine.Engine.run_all_turns.Goals as goal

pub loop-i-init : goal.loop-i-init
loop-i-init g c = record { gone = gone-same g.S.Store.disk c.args.self.now c.requires.sound c.requires.unready c.requires.still }

pub turn-requires : goal.turn-requires
turn-requires g c = record {
  next = next-able c.loop-i.self.state c.next_able.result c.in-Some.i c.loop-i.invariant.gone.going.sound c.next_able.ensures c.in-Some.is;
  unready = c.loop-i.invariant.gone.unready;
}

pub loop-i-preserved : goal.loop-i-preserved
loop-i-preserved g c = record { gone = gone-then g.S.Store.disk c.args.self.now c.loop-i.self c.turn.new.self c.loop-i.invariant.gone c.turn.ensures.continues c.turn.ensures.later c.turn.ensures.turned }

-- the same, where the answer has numbers to drop
pub loop-i-preserved-in-Some : goal.loop-i-preserved-in-Some
loop-i-preserved-in-Some g c = record { gone = gone-then g.S.Store.disk c.args.self.now c.loop-i.self c.turn.new.self c.loop-i.invariant.gone c.turn.ensures.continues c.turn.ensures.later c.turn.ensures.turned }

pub returns : goal.returns
returns g c =
    let gone = c.loop-i.invariant.gone in
    record {
      continues = gone.going;
      later = gone.later;
      turned = gone.turned;
      settled = nowhere-able c.loop-i.self.state.lines c.next_able.result c.next_able.ensures c.in_default.not-Some;
    }
