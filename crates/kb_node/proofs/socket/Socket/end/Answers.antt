use Rattle.std.proofs.Common.{ap, refl}
use Rattle.kb_node.proofs.Carries.{closes_told}
use Rattle.kb_node.proofs.socket.Socket.end.Goals as goal

pub returns-clause-tells : goal.returns-clause-tells
returns-clause-tells g c = closes_told g.S.Store.disk g.T.Write.contents g.T.Read.remaining c.args.self.now _ _ _ c.disconnect.ensures.happens
    (ap (λ b. b.store) c.disconnect.ensures.broker) refl refl (λ is. is) refl
