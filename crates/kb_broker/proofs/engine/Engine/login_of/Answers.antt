use Rattle.std.proofs.Common.{sym, ◌∙◌, ap}
use Rattle.kb_isolation_spec.specs.Calls.{login_in}
use Rattle.kb_isolation_spec.proofs.Sets.{find-none}
use Rattle.kb_broker.proofs.Placed.{found, find-found}
use Rattle.kb_broker.proofs.Honest.{state-is}
use Rattle.kb_broker.proofs.engine.Engine.login_of.Goals as goal

pub returns-in-Some : goal.returns-in-Some
returns-in-Some g c =
    let b = c.args.self.now.state in
    let l = c.index.result.now in
    c.login.ensures ∙ sym (ap login_in (find-found b c.in-Some.i c.args.number l c.requires (found _ b c.in-Some.i c.args.number l (state-is _ _ c.self.view_is) c.in-Some.ensures.within c.in-Some.ensures.some c.index.ensures)))

pub returns-in-None : goal.returns-in-None
returns-in-None g c = sym (ap login_in (find-none c.args.number c.args.self.now.state.lines c.in-None.ensures.none))
