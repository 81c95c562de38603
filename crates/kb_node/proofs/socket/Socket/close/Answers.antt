use Rattle.std.proofs.Common.{refl}
use Rattle.kb_node.proofs.Carries.{gone_told}
use Rattle.kb_node.proofs.socket.Socket.close.Goals as goal

pub returns-clause-tells : goal.returns-clause-tells
returns-clause-tells g c =
    gone_told g.S.Store.disk g.T.Write.contents g.T.Read.remaining c.args.self.now _ _ _ _ refl refl refl refl refl refl c.end.ensures.tells
