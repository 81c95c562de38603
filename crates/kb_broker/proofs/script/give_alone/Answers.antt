use Rattle.std.proofs.Common.{◌≡◌, ◌&&◌, not, true, rules, ap, subst, ◌∙◌}
use Rattle.std.specs.Io.KnownBytes.{Appends}
use Rattle.kb_isolation_spec.specs.Machine.{Comes}
use Rattle.kb_isolation_spec.specs.Broker.{IsReady}
use Rattle.kb_isolation_spec.specs.Calls.{is_calm, is_shut}
use Rattle.kb_broker.specs.Hosts.{is_honest}
use Rattle.kb_broker.proofs.Honest.{ready-of, state-is, store-is}
use Rattle.kb_isolation_spec.specs.Turned.{SameOthers}
use Rattle.kb_broker.specs.Script.{sent_text}
use Rattle.kb_broker.proofs.ScriptWords.{none-waits}
use Rattle.kb_broker.proofs.ScriptEvents.{comes, text-is, final-is, on-ok, cut-off}
use Rattle.kb_broker.proofs.script.give_alone.Goals as goal

pub returns-clause-ok : goal.returns-clause-ok
returns-clause-ok g c honest =
    let i = c.input.ensures in
    let told : is_honest g.S.Store.disk c.input.new.self = subst (λ s. (g.S.Store.disk s).honest) (store-is _ _ c.take_output-output.ensures.state) honest in
    let quiet = c.requires.quiet (i.later.honest told) in
    let ready : IsReady c.input.new.self.state = ready-of _ c.input.new.self i.ready told in
    let others : SameOthers c.args.connection c.args.broker.now.state c.input.new.self.state = λ k ne. i.others told k ne (none-waits k c.args.broker.now.state.lines c.requires.alone) in
    let calm : is_calm c.input.new.self.state ≡ true = c.in_ok-calm.ensures.ok in
    let happens = comes c.args.broker.now.state c.input.new.self.state c.args.connection c.args.piece.now (i.step told) ready calm i.last i.numbers in
    let made : c.in-Ok.answer.items ≡ sent_text c.args.connection c.take_output-output.result.items c.is_newly_shut-is_shut.result = search rules in
    let text = text-is c.args.broker.now.state c.input.new.self.state c.args.connection c.in-Ok.answer.items c.take_output-output.result.items c.is_newly_shut-is_shut.result ready quiet others made c.take_output-output.ensures.output (c.is_newly_shut-is_shut.ensures ∙ ap (λ b. is_shut c.args.connection c.input.new.self.state && not b) c.shut-was_shut.ensures) in
    let final = final-is c.args.broker.now.state c.input.new.self.state c.take_output-output.new.self.state c.args.connection ready quiet others (state-is _ _ c.take_output-output.ensures.state) in
    on-ok c.write_all.result _ _ (λ a. (c.input.new.self.state, happens, final, subst (Appends _ _) (c.deref-2.ensures.value ∙ text) a)) c.write_all.ensures.ok

pub returns-clause-err : goal.returns-clause-err
returns-clause-err g c honest =
    let i = c.input.ensures in
    let told : is_honest g.S.Store.disk c.input.new.self = subst (λ s. (g.S.Store.disk s).honest) (store-is _ _ c.take_output-output.ensures.state) honest in
    let quiet = c.requires.quiet (i.later.honest told) in
    let ready : IsReady c.input.new.self.state = ready-of _ c.input.new.self i.ready told in
    let others : SameOthers c.args.connection c.args.broker.now.state c.input.new.self.state = λ k ne. i.others told k ne (none-waits k c.args.broker.now.state.lines c.requires.alone) in
    let calm : is_calm c.input.new.self.state ≡ true = c.in_ok-calm.ensures.ok in
    let happens = comes c.args.broker.now.state c.input.new.self.state c.args.connection c.args.piece.now (i.step told) ready calm i.last i.numbers in
    let made : c.in-Ok.answer.items ≡ sent_text c.args.connection c.take_output-output.result.items c.is_newly_shut-is_shut.result = search rules in
    let text = text-is c.args.broker.now.state c.input.new.self.state c.args.connection c.in-Ok.answer.items c.take_output-output.result.items c.is_newly_shut-is_shut.result ready quiet others made c.take_output-output.ensures.output (c.is_newly_shut-is_shut.ensures ∙ ap (λ b. is_shut c.args.connection c.input.new.self.state && not b) c.shut-was_shut.ensures) in
    cut-off c.write_all.result (Comes c.args.connection c.args.piece.now) c.args.broker.now.state c.input.new.self.state c.deref-2.result.now _ _ happens (c.deref-2.ensures.value ∙ text) c.write_all.ensures.err c.write_all.ensures.front
