use Rattle.std.proofs.Common.{refl}
use Rattle.kb_connection.proofs.Bodies.{handshake_fits}
use Rattle.kb_connection.proofs.reply.handshake_body.Goals as goal

pub write-requires : goal.write-requires
write-requires c κs = ((refl, tt), handshake_fits _ _ _ _ c.new-mechanisms.ensures c.new.ensures c.in_ok-push.ensures.ok)
