use Rattle.std.proofs.Common.{◌∙◌, ap, subst}
use Rattle.kbroker.specs.Scripts.{IsOfScript}
use Rattle.kbroker.proofs.Scripts.{cut_short}
use Rattle.kbroker.proofs.script.play_on.Goals as goal

pub returns-in-Err-clause-err : goal.returns-in-Err-clause-err
returns-in-Err-clause-err g c honest =
    let disk = g.S.Store.disk in
    let now = (disk c.play_script_on-played.new.broker.store).failures in
    cut_short c.play_script_on-played.result (g.R.Read.remaining c.args.reader.now) c.args.broker.now.state now c.in-Err.fault c.script_fault.result
    (g.W.Write.contents c.args.writer.now) (g.W.Write.contents c.play_script_on-played.new.writer) c.in-Err.is
    (subst (λ n. IsOfScript n c.in-Err.fault c.script_fault.result) (c.failures.ensures ∙ ap (λ s. (disk s).failures) c.store.ensures) c.script_fault.ensures)
    (c.play_script_on-played.ensures.err honest)
