use Rattle.std.proofs.Common.{refl, ◌∙◌, ap, drop}
use Rattle.kb_node.specs.Known.{silent}
use Rattle.kb_node.proofs.Carries.{StaysOpen, open_open, open_then, stays, writes, writes_told}
use Rattle.kb_node.proofs.Seats.{kept_then, seated_then, stays_seated}
use Rattle.kb_node.proofs.socket.Socket.hand_on.Goals as goal

pub returns-then-not-speaks-clause-carries : goal.returns-then-not-speaks-clause-carries
returns-then-not-speaks-clause-carries g c =
    let disk = g.S.Store.disk in let out = g.T.Write.contents in let in_ = g.T.Read.remaining in
    let put = c.write_on.ensures.written in
    let rest = c.take_seat.ensures.rest in
    let first : StaysOpen disk silent out in_ c.args.self.now c.write_on.new.self c.args.host.now.broker c.args.host.now.broker =
    record {
      carries = writes disk out in_ c.args.self.now _ _ _ put.0 refl put.1 put.2 c.write_on.ensures.unhanded c.write_on.ensures.over c.write_on.ensures.lost;
      connection = c.write_on.ensures.connection;
      ended = c.write_on.ensures.ended ∙ c.requires;
    } in
    let second : StaysOpen disk silent out in_ c.write_on.new.self c.ask-reserve.new.self c.args.host.now.broker c.ask-reserve.new.host.broker =
    record { carries = c.ask-reserve.ensures.carries; connection = c.ask-reserve.ensures.connection; ended = c.ask-reserve.ensures.ended ∙ first.ended } in
    open_then disk out in_ c.args.self.now c.ask-reserve.new.self _ _ _ _ (open_open disk out in_ c.args.self.now c.write_on.new.self _ _ c.args.host.now.broker _ first second)
    (stays disk out in_ c.ask-reserve.new.self _ _ _ refl (ap (λ s. s.stream) rest) (ap (λ s. drop s.written s.output.items) rest) (ap (λ s. drop s.input.handed s.input.bytes.items) rest) c.take_seat.ensures.over (ap (λ s. s.is_lost) rest))

pub returns-else-may_ask-clause-carries : goal.returns-else-may_ask-clause-carries
returns-else-may_ask-clause-carries g c =
    let put = c.write_on.ensures.written in
    writes g.S.Store.disk g.T.Write.contents g.T.Read.remaining c.args.self.now _ _ _ put.0 refl put.1 put.2 c.write_on.ensures.unhanded c.write_on.ensures.over c.write_on.ensures.lost

pub returns-then-not-speaks-clause-seat : goal.returns-then-not-speaks-clause-seat
returns-then-not-speaks-clause-seat g c =
    let a = c.args.shares.now in let s = c.args.self.now in
    seated_then s c.ask-reserve.new.self _ a a _ (c.ask-reserve.ensures.connection ∙ c.write_on.ensures.connection)
    (stays_seated a s c.ask-reserve.new.self (kept_then s c.write_on.new.self c.ask-reserve.new.self c.write_on.ensures.seat c.ask-reserve.ensures.seat))
    c.take_seat.ensures.seat

pub returns-else-may_ask-clause-seat : goal.returns-else-may_ask-clause-seat
returns-else-may_ask-clause-seat g c = stays_seated c.args.shares.now c.args.self.now _ c.write_on.ensures.seat

pub returns-else-may_ask-clause-unasked : goal.returns-else-may_ask-clause-unasked
returns-else-may_ask-clause-unasked g c = λ _.
    let put = c.write_on.ensures.written in
    writes_told g.S.Store.disk g.T.Write.contents g.T.Read.remaining c.args.self.now _ _ put.0 put.1 put.2 c.write_on.ensures.unhanded c.write_on.ensures.over c.write_on.ensures.lost
