use Rattle.std.proofs.Common.{refl}
use Rattle.kb_node.proofs.Seats.{given_seat, stays_seated}
use Rattle.kb_node.proofs.socket.Socket.take_seat.Goals as goal

pub returns-in-Ok-true-clause-seat : goal.returns-in-Ok-true-clause-seat
returns-in-Ok-true-clause-seat g c = given_seat c.args.shares.now c.bind.new.self c.args.self.now _ _ (rw c.in-Ok-true.field-0-test at c.in-Ok-true.ensures.seat) refl

pub returns-in_default-clause-seat : goal.returns-in_default-clause-seat
returns-in_default-clause-seat g c = stays_seated c.args.shares.now c.args.self.now c.args.self.now (refl, refl)
