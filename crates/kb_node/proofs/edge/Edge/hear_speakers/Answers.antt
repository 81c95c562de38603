use Rattle.std.proofs.Common.{◌≡◌, ◌<◌, ◌≤◌, ◌∙◌, IfSome, length, slice_get, ap, subst}
use Rattle.kb_broker.specs.Speakers.{speakers}
use Rattle.kb_node.specs.Ready.{Hears, ready_of}
use Rattle.kb_node.proofs.Ready.{called_all}
use Rattle.kb_node.proofs.Seats.{rising}
use Rattle.kb_node.proofs.Traffic.{along_next}
use Rattle.kb_node.proofs.edge.Edge.hear_speakers.Goals as goal

pub loop-at-preserved : goal.loop-at-preserved
loop-at-preserved g c =
    let was = c.loop-at.invariant in let old = c.args.self.now in let mid = c.loop-at.self in let new = c.hear_speaker.new.self in
    let all = speakers old.host.broker.state.lines in
    let said : c.speakers-count.result.now ≡ all = c.speakers-count.ensures.is ∙ ap (λ b. speakers b.state.lines) c.broker.ensures in
    record {
      stays = c.hear_speaker.ensures.seen ∙ was.stays;
      lanes = c.hear_speaker.ensures.lanes ∙ was.lanes;
      delays = c.hear_speaker.ensures.delays ∙ was.delays;
      heard = along_next Hears all c.loop-at.at (ready_of old.ready old.sockets.items) (ready_of mid.ready mid.sockets.items)
          (ready_of new.ready new.sockets.items) (subst (λ ns. c.loop-at.at < length ns) said c.loop-at-test.true) was.heard
          (subst (λ ns. IfSome (slice_get ns c.loop-at.at) (λ n. Hears n (ready_of mid.ready mid.sockets.items) (ready_of new.ready new.sockets.items)))
          (ap (λ x. speakers x.host.broker.state.lines) was.stays) c.hear_speaker.ensures.heard);
    }

pub returns-clause-called : goal.returns-clause-called
returns-clause-called g c = λ more. λ room.
    let old = c.args.self.now in let mid = c.loop-at.self in
    let all = speakers old.host.broker.state.lines in
    let said : c.speakers-count.result.now ≡ all = c.speakers-count.ensures.is ∙ ap (λ b. speakers b.state.lines) c.broker.ensures in
    called_all old.host.tried c.loop-at.at all (ready_of old.ready old.sockets.items) (ready_of mid.ready mid.sockets.items)
    (rising old.host old.sockets.items old.seated.in_order) (subst (λ ns. length ns ≤ c.loop-at.at) said c.loop-at-test.false)
    c.loop-at.invariant.heard room
