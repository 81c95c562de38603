use Rattle.std.proofs.Common.{ap}
use Rattle.kb_isolation_spec.specs.Greeting.{for_tenant}
use Rattle.kb_isolation_spec.specs.Session.{in_front}
use Rattle.kb_isolation_spec.specs.Machine.{Line}
use Rattle.kb_connection.proofs.Fronts.{own_frame}
use Rattle.kb_connection.proofs.Turning.{serve_more, serve_short, serve_long, serve_frame}
use Rattle.kb_connection.proofs.connection.Connection.serve.Goals as goal

pub returns-in-More-clause-ok : goal.returns-in-More-clause-ok
returns-in-More-clause-ok c tenant kept clock n = serve_more (for_tenant c.args.setup.now tenant) kept clock n _ _ (ap (λ (l : Line). in_front l.session) c.self.view_is) c.in-More.ensures

pub returns-in-TooSmall-clause-ok : goal.returns-in-TooSmall-clause-ok
returns-in-TooSmall-clause-ok c tenant kept clock n = serve_short (for_tenant c.args.setup.now tenant) kept clock n _ _ _ (ap (λ (l : Line). in_front l.session) c.self.view_is) c.in-TooSmall.ensures c.shut_down.ensures

pub returns-in-TooLarge-clause-ok : goal.returns-in-TooLarge-clause-ok
returns-in-TooLarge-clause-ok c tenant kept clock n = serve_long (for_tenant c.args.setup.now tenant) kept clock n _ _ _ (ap (λ (l : Line). in_front l.session) c.self.view_is) c.in-TooLarge.ensures c.shut_down-in-TooLarge.ensures

pub returns-in-Frame-clause-ok : goal.returns-in-Frame-clause-ok
returns-in-Frame-clause-ok c tenant kept clock n =
    let same = ap (λ (l : Line). in_front l.session) c.self.view_is in
    let own = own_frame c.args.setup.now _ _ _ _ same c.in-Frame.ensures c.as_slice.ensures c.requires in
    serve_frame c.args.setup.now tenant kept clock n _ _ _ _ _ _ _ same c.in-Frame.ensures c.as_slice.ensures (c.bound_reaction-reaction.ensures own) c.take_turn.ensures.ok
