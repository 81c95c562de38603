use Rattle.kb_node.proofs.Seats.{mark, reseated_as}
use Rattle.kb_node.specs.Cores.{core}
use Rattle.kb_node.proofs.Cores.{same_at}
use Rattle.std.proofs.Common.{refl, ◌∙◌, ap, sym}
use Rattle.kb_node.proofs.Goes.{goes_carried_as, goes_then}
use Rattle.kb_node.proofs.Telling.{goes_telling, telling_at_place, telling_still, telling_then}
use Rattle.kb_node.proofs.edge.Edge.hand_on_one.Goals as goal

pub returns-then-not-note_written-clause-goes : goal.returns-then-not-note_written-clause-goes
returns-then-not-note_written-clause-goes g c = goes_then (goes_carried_as _ _ c.args.self.now.sockets c.in-Some.place c.in-Some-get_mut.socket.now c.hand_on.new.self c.count.new.socket (ap core c.count.ensures.socket) (c.in-Some-get_mut.ensures.variant.0 refl)
    c.in-Some-get_mut.ensures.value c.hand_on.ensures.connection (sym c.is_ended.ensures ∙ c.if-is_ended.false) c.hand_on.ensures.tried c.hand_on.ensures.sync c.hand_on.ensures.carries) (goes_telling c.note_written.ensures.tells)

pub returns-clause-goes : goal.returns-clause-goes
returns-clause-goes g c = goes_then (goes_carried_as _ _ c.args.self.now.sockets c.in-Some.place c.in-Some-get_mut.socket.now c.hand_on.new.self c.count.new.socket (ap core c.count.ensures.socket) (c.in-Some-get_mut.ensures.variant.0 refl)
    c.in-Some-get_mut.ensures.value c.hand_on.ensures.connection (sym c.is_ended.ensures ∙ c.if-is_ended.false) c.hand_on.ensures.tried c.hand_on.ensures.sync c.hand_on.ensures.carries) (goes_telling (telling_then c.note_written.ensures.tells c.note_input.ensures.tells))

pub invariant_of-self-2-clause-seated : goal.invariant_of-self-2-clause-seated
invariant_of-self-2-clause-seated g c = reseated_as _ c.hand_on.new.host c.args.self.now.shares c.hand_on.new.shares c.args.self.now.sockets c.in-Some.place c.in-Some-get_mut.socket.now c.hand_on.new.self c.count.new.socket (c.in-Some-get_mut.ensures.variant.0 refl) c.in-Some-get_mut.ensures.value
    c.hand_on.ensures.connection c.hand_on.ensures.tried (sym c.is_ended.ensures ∙ c.if-is_ended.false) c.hand_on.ensures.ended c.hand_on.ensures.seat (ap mark c.count.ensures.socket) c.args.self.now.seated

pub returns-then-not-note_written-clause-unasked : goal.returns-then-not-note_written-clause-unasked
returns-then-not-note_written-clause-unasked g c = λ off. telling_then (telling_at_place _ _ c.args.self.now.sockets c.in-Some.place c.in-Some-get_mut.socket.now c.hand_on.new.self c.count.new.socket (ap core c.count.ensures.socket) (c.in-Some-get_mut.ensures.variant.0 refl)
    c.in-Some-get_mut.ensures.value c.hand_on.ensures.connection (sym c.is_ended.ensures ∙ c.if-is_ended.false) c.hand_on.ensures.tried c.hand_on.ensures.sync (c.hand_on.ensures.unasked off)) c.note_written.ensures.tells

pub returns-clause-unasked : goal.returns-clause-unasked
returns-clause-unasked g c = λ off. telling_then (telling_at_place _ _ c.args.self.now.sockets c.in-Some.place c.in-Some-get_mut.socket.now c.hand_on.new.self c.count.new.socket (ap core c.count.ensures.socket) (c.in-Some-get_mut.ensures.variant.0 refl)
    c.in-Some-get_mut.ensures.value c.hand_on.ensures.connection (sym c.is_ended.ensures ∙ c.if-is_ended.false) c.hand_on.ensures.tried c.hand_on.ensures.sync (c.hand_on.ensures.unasked off)) (telling_then c.note_written.ensures.tells c.note_input.ensures.tells)

pub returns-then-is_ended-clause-unasked : goal.returns-then-is_ended-clause-unasked
returns-then-is_ended-clause-unasked g c = λ off. telling_still (same_at _ c.args.self.now.sockets c.in-Some.place c.in-Some-get_mut.socket.now _ (c.in-Some-get_mut.ensures.variant.0 refl) c.in-Some-get_mut.ensures.value refl)
