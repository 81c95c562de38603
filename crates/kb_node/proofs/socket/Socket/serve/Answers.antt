use Rattle.std.proofs.Common.{◌+◌, ◌-◌, ◌∙◌, ap, inl, refl, sym, ◌≡◌, true, false, vec_len}
use Rattle.kb_node.specs.Known.{hasty, silent, telling}
use Rattle.kb_node.proofs.Carries.{StaysOpen, StaysTelling, carries_knowing, open_at, open_open, open_then, seated, stays_open, telling_at, telling_on, tells_knowing}
use Rattle.kb_node.proofs.Known.{from_silent, telling_hasty}
use Rattle.kb_node.proofs.ToldAll.{asked_written, heard_all, heard_at, heard_on, over_ends, told_at, told_on}
use Rattle.kb_node.specs.Carries.{HasHeard, HasToldAll, unwritten_of}
use Rattle.kb_node.specs.Sockets.{can_ask}
use Rattle.kb_node.proofs.Seats.{joined_at, joined_then, seated_between, seated_then, stays_seated}
use Rattle.kb_node.specs.Seats.{IsReseated}
use Rattle.kb_node.proofs.socket.Socket.serve.Goals as goal
use Rattle.kb_node.proofs.socket.Socket.serve.Goals.{then-may_ask+then-can_ask+then-take_seat, then-may_ask+then-can_ask+else-take_seat, else-may_ask}

pub returns-clause-carries : goal.returns-clause-carries
returns-clause-carries g c =
    let disk = g.S.Store.disk in let out = g.T.Write.contents in let in_ = g.T.Read.remaining in
    let settled = g.S.Store.settled in let loss = g.S.Store.loss in
    let first : StaysOpen disk hasty out in_ c.args.self.now c.write_all.new.self c.args.host.now.broker c.write_all.new.host.broker =
    record {
      carries = carries_knowing disk (telling settled disk loss c.args.host.now.commits) hasty out in_ (telling_hasty settled disk loss c.args.host.now.commits)
          c.args.self.now c.write_all.new.self _ _ c.write_all.ensures.tells.carries;
      connection = c.write_all.ensures.connection;
      ended = c.write_all.ensures.ended ∙ c.requires.not_ended;
    } in
    let second : StaysOpen disk hasty out in_ c.write_all.new.self c.if-may_ask.self c.write_all.new.host.broker c.if-may_ask.host.broker =
    elim c.if-may_ask.branch [
      | then-may_ask+then-can_ask+then-take_seat w ↦ open_at disk out in_ c.write_all.new.self _ _ _ _ _ w.self-is (ap (λ h. h.broker) w.host-is)
          (let seat = seated disk out in_ c.write_all.new.self w.ask.new.self w.take_seat.new.self c.write_all.new.host.broker w.ask.new.host.broker (carries_knowing disk silent hasty out in_ (from_silent hasty) c.write_all.new.self w.ask.new.self _ _ w.ask.ensures.carries)
          w.ask.ensures.connection (w.ask.ensures.ended ∙ first.ended) w.take_seat.ensures.rest w.take_seat.ensures.over in
          open_open disk out in_ c.write_all.new.self w.take_seat.new.self _ _ w.ask.new.host.broker _ seat
          (record {
            carries = carries_knowing disk (telling settled disk loss w.ask.new.host.commits) hasty out in_ (telling_hasty settled disk loss w.ask.new.host.commits)
                w.take_seat.new.self w.write_output.new.self _ _ w.write_output.ensures.tells.carries;
            connection = w.write_output.ensures.connection;
            ended = w.write_output.ensures.ended ∙ seat.ended;
          }))
      | then-may_ask+then-can_ask+else-take_seat w ↦ open_at disk out in_ c.write_all.new.self _ _ _ _ _ w.self-is (ap (λ h. h.broker) w.host-is)
          (seated disk out in_ c.write_all.new.self w.ask.new.self w.take_seat.new.self c.write_all.new.host.broker w.ask.new.host.broker (carries_knowing disk silent hasty out in_ (from_silent hasty) c.write_all.new.self w.ask.new.self _ _ w.ask.ensures.carries)
          w.ask.ensures.connection (w.ask.ensures.ended ∙ first.ended) w.take_seat.ensures.rest w.take_seat.ensures.over)
      | else-may_ask w ↦ open_at disk out in_ c.write_all.new.self _ _ _ _ _ w.self-is (ap (λ h. h.broker) w.host-is) (stays_open disk out in_ c.write_all.new.self c.write_all.new.host.broker first.ended)
    ] in
    open_then disk out in_ c.args.self.now c.if-may_ask.self _ _ _ _ (open_open disk out in_ c.args.self.now c.write_all.new.self _ _ c.write_all.new.host.broker _ first second) (carries_knowing disk silent hasty out in_ (from_silent hasty) c.if-may_ask.self _ _ _ c.finish.ensures.tells.carries)

pub returns-clause-seat : goal.returns-clause-seat
returns-clause-seat g c =
    let s = c.write_all.new.self in let a = c.args.shares.now in
    let mid : (c.if-may_ask.self.connection ≡ s.connection) × IsReseated s c.if-may_ask.self a c.if-may_ask.shares =
    elim c.if-may_ask.branch [
      | then-may_ask+then-can_ask+then-take_seat w ↦ joined_at s w.write_output.new.self _ a w.take_seat.new.shares _ w.self-is w.shares-is (
        w.write_output.ensures.connection ∙ w.take_seat.ensures.connection ∙ w.ask.ensures.connection,
        seated_between s w.ask.new.self w.take_seat.new.self w.write_output.new.self a w.take_seat.new.shares w.ask.ensures.connection
            w.ask.ensures.seat w.take_seat.ensures.seat w.take_seat.ensures.connection w.write_output.ensures.seat,
      )
      | then-may_ask+then-can_ask+else-take_seat w ↦ joined_at s w.take_seat.new.self _ a w.take_seat.new.shares _ w.self-is w.shares-is (
        w.take_seat.ensures.connection ∙ w.ask.ensures.connection,
        seated_then s w.ask.new.self w.take_seat.new.self a a w.take_seat.new.shares w.ask.ensures.connection
            (stays_seated a s w.ask.new.self w.ask.ensures.seat) w.take_seat.ensures.seat,
      )
      | else-may_ask w ↦ joined_at s s _ a a _ w.self-is w.shares-is (refl, stays_seated a s s (refl, refl))
    ] in
    joined_then c.args.self.now s c.if-may_ask.self _ a c.if-may_ask.shares c.write_all.ensures.connection c.write_all.ensures.seat mid c.finish.ensures.seat

pub returns-clause-unasked : goal.returns-clause-unasked
returns-clause-unasked g c = λ off.
    let disk = g.S.Store.disk in let out = g.T.Write.contents in let in_ = g.T.Read.remaining in
    let first : StaysTelling disk hasty out in_ c.args.self.now c.write_all.new.self c.args.host.now.broker c.write_all.new.host.broker =
    record {
      tells = tells_knowing disk (telling g.S.Store.settled disk g.S.Store.loss c.args.host.now.commits) hasty out in_
          (telling_hasty g.S.Store.settled disk g.S.Store.loss c.args.host.now.commits) c.args.self.now c.write_all.new.self _ _ c.write_all.ensures.tells;
      connection = c.write_all.ensures.connection;
      ended = c.write_all.ensures.ended ∙ c.requires.not_ended;
    } in
    let second : StaysTelling disk hasty out in_ c.args.self.now c.if-may_ask.self c.args.host.now.broker c.if-may_ask.host.broker =
    elim c.if-may_ask.branch [
      | then-may_ask+then-can_ask+then-take_seat w ↦ absurd (let yes : true ≡ false = sym w.if-may_ask.true ∙ off in cc)
      | then-may_ask+then-can_ask+else-take_seat w ↦ absurd (let yes : true ≡ false = sym w.if-may_ask.true ∙ off in cc)
      | else-may_ask w ↦ telling_at disk out in_ c.args.self.now _ _ _ _ _ w.self-is (ap (λ h. h.broker) w.host-is) first
    ] in
    telling_on disk out in_ c.args.self.now c.if-may_ask.self _ _ _ _ second (tells_knowing disk silent hasty out in_ (from_silent hasty) c.if-may_ask.self _ _ _ c.finish.ensures.tells)

pub returns-clause-told : goal.returns-clause-told
returns-clause-told g c = λ goes_on. record {
  all = λ turn.
      let first : HasToldAll c.write_all.new.self c.write_all.new.host.broker.state = c.write_all.ensures.told.all turn in
      let t = c.write_all.new.self in
      let rest = c.finish.ensures.rest goes_on in let f = c.finish.new.self in
      let second : HasToldAll c.if-may_ask.self c.if-may_ask.host.broker.state = elim c.if-may_ask.branch [
        | then-may_ask+then-can_ask+then-take_seat w ↦ told_at w.write_output.new.self c.if-may_ask.self
            w.write_output.new.host.broker.state c.if-may_ask.host.broker.state w.self-is (ap (λ h. h.broker.state) w.host-is)
            (w.write_output.ensures.told (inl (ap unwritten_of w.take_seat.ensures.rest ∙ w.ask.ensures.unwritten
            ∙ asked_written c.write_all.new.self c.write_all.new.host.broker.state (ap (λ b. can_ask t.is_over (vec_len t.output - t.written) t.connection b.state) (sym w.broker.ensures) ∙ sym w.can_ask.ensures ∙ w.if-can_ask.true))))
        | then-may_ask+then-can_ask+else-take_seat w ↦ over_ends f.is_over f.is_half_closed f.may_answer (vec_len f.output - f.written) f.connection c.finish.new.host.broker.state
            (ap (λ s. s.is_over) rest.1 ∙ ap (λ s. s.is_over) w.self-is ∙ w.take_seat.ensures.stays.1 w.if-take_seat.false) (c.finish.ensures.stays goes_on)
        | else-may_ask w ↦ told_at t c.if-may_ask.self c.write_all.new.host.broker.state c.if-may_ask.host.broker.state w.self-is (ap (λ h. h.broker.state) w.host-is) first
      ] in
      told_on c.if-may_ask.self f c.if-may_ask.host.broker.state c.finish.new.host.broker.state (ap (λ h. h.broker.state) rest.0) rest.1 second;
  heard =
      let t = c.write_all.new.self in
      let rest = c.finish.ensures.rest goes_on in let f = c.finish.new.self in
      let second : HasHeard c.if-may_ask.self c.if-may_ask.host.broker.state = elim c.if-may_ask.branch [
        | then-may_ask+then-can_ask+then-take_seat w ↦ heard_at w.write_output.new.self c.if-may_ask.self
            w.write_output.new.host.broker.state c.if-may_ask.host.broker.state w.self-is (ap (λ h. h.broker.state) w.host-is)
            (heard_all w.write_output.new.self w.write_output.new.host.broker.state
            (w.write_output.ensures.told (inl (ap unwritten_of w.take_seat.ensures.rest ∙ w.ask.ensures.unwritten
            ∙ asked_written t c.write_all.new.host.broker.state (ap (λ b. can_ask t.is_over (vec_len t.output - t.written) t.connection b.state) (sym w.broker.ensures) ∙ sym w.can_ask.ensures ∙ w.if-can_ask.true)))))
        | then-may_ask+then-can_ask+else-take_seat w ↦ over_ends f.is_over f.is_half_closed f.may_answer (vec_len f.output - f.written) f.connection c.finish.new.host.broker.state
            (ap (λ s. s.is_over) rest.1 ∙ ap (λ s. s.is_over) w.self-is ∙ w.take_seat.ensures.stays.1 w.if-take_seat.false) (c.finish.ensures.stays goes_on)
        | else-may_ask w ↦ heard_at t c.if-may_ask.self c.write_all.new.host.broker.state c.if-may_ask.host.broker.state w.self-is (ap (λ h. h.broker.state) w.host-is) c.write_all.ensures.told.heard
      ] in
      heard_on c.if-may_ask.self f c.if-may_ask.host.broker.state c.finish.new.host.broker.state (ap (λ h. h.broker.state) rest.0) rest.1 second;
}
