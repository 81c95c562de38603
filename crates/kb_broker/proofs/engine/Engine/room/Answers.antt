use Rattle.std.proofs.Common.{sym, ◌∙◌, ap, subst}
use Rattle.kb_isolation_spec.specs.Calls.{room_if_open}
use Rattle.kb_isolation_spec.proofs.Sets.{find-none}
use Rattle.kb_connection.specs.View.{IsLimitedIn}
use Rattle.kb_broker.proofs.Placed.{found, find-found}
use Rattle.kb_broker.proofs.Honest.{state-is}
use Rattle.kb_broker.proofs.engine.Engine.room.Goals as goal

pub returns-in-Some-clause-room : goal.returns-in-Some-clause-room
returns-in-Some-clause-room g c =
    let b = c.args.self.now.state in
    let l = c.index.result.now in
    c.room.ensures.room ∙ sym (ap room_if_open (find-found b c.in-Some.i c.args.number l c.requires (found _ b c.in-Some.i c.args.number l (state-is _ _ c.self.view_is) c.in-Some.ensures.within c.in-Some.ensures.some c.index.ensures)))

pub returns-in-None-clause-room : goal.returns-in-None-clause-room
returns-in-None-clause-room g c = sym (ap room_if_open (find-none c.args.number c.args.self.now.state.lines c.in-None.ensures.none))

pub returns-in-Some-clause-limited : goal.returns-in-Some-clause-limited
returns-in-Some-clause-limited g c =
    let b = c.args.self.now.state in
    let l = c.index.result.now in
    subst IsLimitedIn (sym (find-found b c.in-Some.i c.args.number l c.requires (found _ b c.in-Some.i c.args.number l (state-is _ _ c.self.view_is) c.in-Some.ensures.within c.in-Some.ensures.some c.index.ensures))) c.room.ensures.limited

pub returns-in-None-clause-limited : goal.returns-in-None-clause-limited
returns-in-None-clause-limited g c = subst IsLimitedIn (sym (find-none c.args.number c.args.self.now.state.lines c.in-None.ensures.none)) tt
