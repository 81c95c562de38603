use Rattle.std.proofs.Common.{◌∙◌, ap, sym}
use Rattle.kb_node.proofs.Alone.{nobody_there, removed_then, room_made, room_there}
use Rattle.kb_node.proofs.Goes.{goes_then}
use Rattle.kb_node.proofs.Telling.{telling_tried}
use Rattle.kb_node.proofs.edge.Edge.make_room.Goals as goal

pub returns-clause-goes : goal.returns-clause-goes
returns-clause-goes g c = goes_then c.close.ensures.goes c.remove.ensures.goes

pub returns-clause-tried : goal.returns-clause-tried
returns-clause-tried g c = ap (λ h. h.tried) c.remove.ensures.host ∙ telling_tried c.close.ensures.tells

pub returns-then-has_room-clause-made : goal.returns-then-has_room-clause-made
returns-then-has_room-clause-made g c = room_there _ _ _ (sym c.has_room.ensures.room ∙ c.if-has_room.true)

pub returns-in_default-clause-made : goal.returns-in_default-clause-made
returns-in_default-clause-made g c = nobody_there _ _ _ (sym c.has_room.ensures.room ∙ c.if-has_room.false) (sym c.in_default.ensures)

pub returns-clause-made : goal.returns-clause-made
returns-clause-made g c = room_made _ _ c.in-Some.number _ _ (sym c.has_room.ensures.room ∙ c.if-has_room.false) (sym c.in-Some.ensures)
    (removed_then c.in-Some.number c.args.self.now.sockets.items c.close.new.self.sockets.items _ c.close.ensures.closed c.remove.ensures.left)
