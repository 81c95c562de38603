use Rattle.std.proofs.Common.{◌≡◌, true, sym, subst, ◌∙◌}
use Rattle.kb_isolation_spec.specs.Machine.{Comes}
use Rattle.kb_isolation_spec.specs.Broker.{IsReady}
use Rattle.kb_isolation_spec.specs.Calls.{is_calm}
use Rattle.kb_broker.proofs.Fields.{all-free}
use Rattle.kb_broker.specs.Hosts.{is_honest}
use Rattle.kb_broker.proofs.Honest.{ready-of}
use Rattle.kb_broker.proofs.ScriptEvents.{comes, spoken, unspoken}
use Rattle.kb_broker.proofs.script.give.Goals as goal

pub give_alone-requires-clause-alone : goal.give_alone-requires-clause-alone
give_alone-requires-clause-alone g c = all-free c.args.broker.now.state.lines (sym c.any_waits.ensures ∙ c.if-not-any_waits.true)

pub returns-clause-ok : goal.returns-clause-ok
returns-clause-ok g c honest =
    let b = c.args.broker.now.state in
    let new = c.input.new.self.state in
    let i = c.input.ensures in
    let told : is_honest g.S.Store.disk c.input.new.self = subst (λ s. (g.S.Store.disk s).honest) c.say.ensures.store honest in
    let ready : IsReady new = ready-of _ c.input.new.self i.ready told in
    let calm : is_calm new ≡ true = c.in_ok-calm.ensures.ok in
    let happens = comes b new c.args.connection c.args.piece.now (i.step told) ready calm i.last i.numbers in
    spoken c.say.result (Comes c.args.connection c.args.piece.now) b new c.say.new.broker.state c.deref.result.now _ _ (c.requires.ready (i.later.honest told)) happens i.numbers (c.deref.ensures.value ∙ c.in-Ok.ensures) c.say.ensures.state c.say.ensures.text

pub returns-clause-err : goal.returns-clause-err
returns-clause-err g c honest =
    let b = c.args.broker.now.state in
    let new = c.input.new.self.state in
    let i = c.input.ensures in
    let told : is_honest g.S.Store.disk c.input.new.self = subst (λ s. (g.S.Store.disk s).honest) c.say.ensures.store honest in
    let ready : IsReady new = ready-of _ c.input.new.self i.ready told in
    let calm : is_calm new ≡ true = c.in_ok-calm.ensures.ok in
    let happens = comes b new c.args.connection c.args.piece.now (i.step told) ready calm i.last i.numbers in
    unspoken c.say.result (Comes c.args.connection c.args.piece.now) b new c.deref.result.now _ _ (c.requires.ready (i.later.honest told)) happens i.numbers (c.deref.ensures.value ∙ c.in-Ok.ensures) c.say.ensures.err
