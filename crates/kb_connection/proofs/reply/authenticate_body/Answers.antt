use Rattle.std.proofs.Common.{refl}
use Rattle.kb_connection.proofs.Bodies.{authenticate_fits}
use Rattle.kb_connection.proofs.reply.authenticate_body.Goals as goal

pub write-requires : goal.write-requires
write-requires c κs = ((refl, tt), authenticate_fits _ _ _ c.requires c.new.ensures)
