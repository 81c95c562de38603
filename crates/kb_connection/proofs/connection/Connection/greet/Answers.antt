use Rattle.std.proofs.Common.{ap}
use Rattle.kb_isolation_spec.specs.Session.{in_front}
use Rattle.kb_isolation_spec.specs.Machine.{Line}
use Rattle.kb_connection.specs.View.{greeting_of}
use Rattle.kb_connection.proofs.Turning.{greet_more, greet_short, greet_long, greet_frame}
use Rattle.kb_connection.proofs.connection.Connection.greet.Goals as goal

pub returns-in-More-clause-ok : goal.returns-in-More-clause-ok
returns-in-More-clause-ok c = greet_more c.args.setup.now (greeting_of c.args.greeting) _ _ (ap (λ (l : Line). in_front l.session) c.self.view_is) c.in-More.ensures

pub returns-in-TooSmall-clause-ok : goal.returns-in-TooSmall-clause-ok
returns-in-TooSmall-clause-ok c = greet_short c.args.setup.now (greeting_of c.args.greeting) _ _ _ (ap (λ (l : Line). in_front l.session) c.self.view_is) c.in-TooSmall.ensures c.shut_down.ensures

pub returns-in-TooLarge-clause-ok : goal.returns-in-TooLarge-clause-ok
returns-in-TooLarge-clause-ok c = greet_long c.args.setup.now (greeting_of c.args.greeting) _ _ _ (ap (λ (l : Line). in_front l.session) c.self.view_is) c.in-TooLarge.ensures c.shut_down-in-TooLarge.ensures

pub returns-in-Frame-clause-ok : goal.returns-in-Frame-clause-ok
returns-in-Frame-clause-ok c = greet_frame c.args.setup.now (greeting_of c.args.greeting) _ _ _ _ _ _ _ (ap (λ (l : Line). in_front l.session) c.self.view_is) c.in-Frame.ensures c.as_slice.ensures c.greeting_reaction-reaction.ensures c.take_turn.ensures.ok
