use Rattle.kb_node.proofs.Telling.{telling_same, telling_still, telling_then}
use Rattle.kb_node.proofs.edge.Edge.note.Goals as goal

pub returns-then-not-note_denied-clause-tells : goal.returns-then-not-note_denied-clause-tells
returns-then-not-note_denied-clause-tells g c = telling_then (telling_still c.note_served.ensures.seen) c.note_denied.ensures.tells

pub returns-then-not-note_written-clause-tells : goal.returns-then-not-note_written-clause-tells
returns-then-not-note_written-clause-tells g c =
    telling_then (telling_still c.note_served.ensures.seen) (telling_then c.note_denied.ensures.tells c.note_written.ensures.tells)

pub returns-then-not-note_input-clause-tells : goal.returns-then-not-note_input-clause-tells
returns-then-not-note_input-clause-tells g c =
    telling_then (telling_still c.note_served.ensures.seen)
    (telling_then c.note_denied.ensures.tells (telling_then c.note_written.ensures.tells c.note_input.ensures.tells))

pub returns-clause-tells : goal.returns-clause-tells
returns-clause-tells g c = telling_same c.queue_next.ensures.seen (telling_then (telling_still c.note_served.ensures.seen)
    (telling_then c.note_denied.ensures.tells (telling_then c.note_written.ensures.tells c.note_input.ensures.tells)))
