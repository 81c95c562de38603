use Rattle.kb_node.proofs.Seats.{kept_at, mark}
use Rattle.std.proofs.Common.{◌++◌, ◌∷◌, [], ◌∙◌, ap, refl, slice_set, arith}
use Rattle.kb_node.specs.Ready.{ComesBehind, IsFull, ready_of}
use Rattle.kb_node.proofs.Ready.{put_back, queued_at, queued_before, queued_by, queued_later}
use Rattle.kb_node.specs.Cores.{core}
use Rattle.kb_node.proofs.Cores.{item_at, same_at}
use Rattle.kb_node.proofs.edge.Edge.queue.Goals as goal
use Rattle.kb_node.proofs.edge.Edge.queue.Goals.{else-not-socket-via-then-not-socket+else-len-capacity, else-not-socket-via-else-not-socket}

pub returns-then-len-capacity-clause-seen : goal.returns-then-len-capacity-clause-seen
returns-then-len-capacity-clause-seen g c =
    same_at _ c.args.self.now.sockets c.args.place c.in-Some.socket.now c.note_queued.new.self (c.in-Some.ensures.variant.0 refl) c.in-Some.ensures.value
    (ap core c.note_queued.ensures)

pub invariant_of-self-then-len-capacity-clause-seated : goal.invariant_of-self-then-len-capacity-clause-seated
invariant_of-self-then-len-capacity-clause-seated g c = kept_at _ _ _ c.args.self.now.sockets c.args.place c.in-Some.socket.now c.note_queued.new.self
    (c.in-Some.ensures.variant.0 refl) c.in-Some.ensures.value refl (ap mark c.note_queued.ensures) c.args.self.now.seated

pub returns-then-len-capacity-clause-queued : goal.returns-then-len-capacity-clause-queued
returns-then-len-capacity-clause-queued g c =
    let s = c.in-Some.socket.now in let before = c.args.self.now in
    let at = item_at before.sockets c.args.place s (c.in-Some.ensures.variant.0 refl) c.in-Some.ensures.value in
    let comes : ComesBehind s (ready_of before.ready before.sockets.items)
    (ready_of c.push_reserved.new.self (slice_set before.sockets.items c.args.place c.note_queued.new.self)) = record {
      place = c.args.place;
      there = at;
      room = omega (arith, c.if-len-capacity.true, c.len.ensures, c.capacity.ensures);
      behind = c.push_reserved.ensures.items ∙ ap (λ n. before.ready.items ++ n ∷ []) c.connection.ensures;
      noted = ap (λ t. slice_set before.sockets.items c.args.place t) c.note_queued.ensures;
    } in
    queued_at _ s _ _ at (queued_by s _ _ c.if-not-socket.true comes)

pub returns-else-not-socket-clause-queued : goal.returns-else-not-socket-clause-queued
returns-else-not-socket-clause-queued g c =
    let s = c.in-Some.socket.now in let before = c.args.self.now in
    let at = item_at before.sockets c.args.place s (c.in-Some.ensures.variant.0 refl) c.in-Some.ensures.value in
    let stays = ap (λ xs. ready_of before.ready xs) (put_back before.sockets.items c.args.place s at) in
    queued_at _ s _ _ at (elim c.else-not-socket.branch [
      | else-not-socket-via-then-not-socket+else-len-capacity w ↦
          let full : IsFull (ready_of before.ready before.sockets.items) (ready_of c.else-not-socket.self.ready c.else-not-socket.self.sockets.items) = record {
            full = omega (arith, w.if-len-capacity.false, w.len.ensures, w.capacity.ensures);
            same = ap (λ e. ready_of e.ready e.sockets.items) w.self-is ∙ stays;
          } in
          queued_later s _ _ w.if-not-socket.true full
      | else-not-socket-via-else-not-socket w ↦ queued_before s _ _ w.if-not-socket.false (ap (λ e. ready_of e.ready e.sockets.items) w.self-is ∙ stays)
    ])
