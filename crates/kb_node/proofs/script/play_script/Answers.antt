use Rattle.std.proofs.Common.{OnOk, IfErr, IfSome}
use Rattle.kb_isolation_spec.specs.Broker.{BrokerState}
use Rattle.kb_broker.specs.Script.{script}
use Rattle.kb_broker.specs.ScriptRun.{IsPlayed}
use Rattle.kb_node.specs.Node.{IsHalted, IsHaltedAt}
use Rattle.kb_node.proofs.Standard.{told-standard}
use Rattle.kb_node.proofs.script.play_script.Goals as goal

pub returns-clause-ok : goal.returns-clause-ok
returns-clause-ok g c =
    told-standard c.in_ok-settings.settings
    (λ (b : BrokerState). OnOk c.play_script_with.result (IfSome (g.R.Read.remaining c.args.reader.now) (λ text. IsPlayed b (script b text) (g.W.Write.contents c.args.writer.now) (g.W.Write.contents c.play_script_with.new.writer))))
    c.in_ok-settings.ensures.value c.play_script_with.ensures.ok

pub returns-clause-err : goal.returns-clause-err
returns-clause-err g c =
    told-standard c.in_ok-settings.settings
    (λ (b : BrokerState). IfErr c.play_script_with.result (λ fault. IfSome (g.R.Read.remaining c.args.reader.now) (λ text. IsHalted b (script b text) fault (g.W.Write.contents c.args.writer.now) (g.W.Write.contents c.play_script_with.new.writer))))
    c.in_ok-settings.ensures.value c.play_script_with.ensures.err

pub returns-clause-stopped : goal.returns-clause-stopped
returns-clause-stopped g c =
    told-standard c.in_ok-settings.settings
    (λ (b : BrokerState). IfErr c.play_script_with.result (λ fault. IfSome (g.R.Read.remaining c.args.reader.now) (λ text.
    IsHaltedAt b text (g.R.Read.remaining c.play_script_with.new.reader) fault (g.W.Write.contents c.args.writer.now) (g.W.Write.contents c.play_script_with.new.writer))))
    c.in_ok-settings.ensures.value c.play_script_with.ensures.stopped
