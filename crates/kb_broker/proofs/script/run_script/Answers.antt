use Rattle.std.proofs.Common.{◌≡◌, true, sym, subst, OnOk, IfErr, IfSome}
use Rattle.kb_isolation_spec.specs.Broker.{BrokerState}
use Rattle.kb_isolation_spec.specs.Calls.{is_calm}
use Rattle.kb_broker.specs.Opening.{opening}
use Rattle.kb_broker.specs.Script.{script}
use Rattle.kb_broker.specs.ScriptRun.{IsPlayed, IsEnded, IsStopped}
use Rattle.kb_broker.proofs.ScriptOpening.{calm-opening}
use Rattle.kb_broker.proofs.ScriptPlay.{stopped-first}
use Rattle.kb_broker.proofs.script.run_script.Goals as goal

pub run_script_on-requires-clause-calm : goal.run_script_on-requires-clause-calm
run_script_on-requires-clause-calm g c honest = subst (λ b. is_calm b ≡ true) (sym c.in-Ok.ensures.state) (calm-opening c.args.settings.now)

pub returns-clause-ok : goal.returns-clause-ok
returns-clause-ok g c =
    subst (λ (b : BrokerState). OnOk c.run_script_on.result (IfSome (g.R.Read.remaining c.args.reader.now) (λ text. IsPlayed b (script b text) (g.W.Write.contents c.args.writer.now) (g.W.Write.contents c.run_script_on.new.writer))))
    c.in-Ok.ensures.state (c.run_script_on.ensures.ok tt)

pub returns-clause-stopped : goal.returns-clause-stopped
returns-clause-stopped g c =
    subst (λ (b : BrokerState). IfErr c.run_script_on.result (λ fault. IfSome (g.R.Read.remaining c.args.reader.now) (λ text. IsStopped b text (g.R.Read.remaining c.run_script_on.new.reader) fault (g.W.Write.contents c.args.writer.now) (g.W.Write.contents c.run_script_on.new.writer))))
    c.in-Ok.ensures.state (c.run_script_on.ensures.stopped tt)

pub returns-in_default-clause-stopped : goal.returns-in_default-clause-stopped
returns-in_default-clause-stopped g c = stopped-first (opening c.args.settings.now) (g.R.Read.remaining c.args.reader.now) (g.W.Write.contents c.args.writer.now)

pub returns-clause-err : goal.returns-clause-err
returns-clause-err g c =
    subst (λ (b : BrokerState). IfErr c.run_script_on.result (λ fault. IfSome (g.R.Read.remaining c.args.reader.now) (λ text. IsEnded b (script b text) fault (g.W.Write.contents c.args.writer.now) (g.W.Write.contents c.run_script_on.new.writer))))
    c.in-Ok.ensures.state (c.run_script_on.ensures.err tt)
