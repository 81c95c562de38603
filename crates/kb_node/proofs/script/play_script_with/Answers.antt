use Rattle.kb_broker.specs.Opening.{opening}
use Rattle.kb_node.proofs.Handed.{answered-ok, answered-err, answered-stopped}
use Rattle.kb_node.proofs.script.play_script_with.Goals as goal

pub returns-clause-ok : goal.returns-clause-ok
returns-clause-ok g c =
    answered-ok c.run_script-ran.result c.hand_on.result (opening c.args.settings.now) (g.R.Read.remaining c.args.reader.now) (g.W.Write.contents c.args.writer.now) (g.W.Write.contents c.run_script-ran.new.writer) (g.W.Write.contents c.hand_on.new.writer)
    c.run_script-ran.ensures.ok c.hand_on.ensures.bytes c.hand_on.ensures.ok

pub returns-clause-err : goal.returns-clause-err
returns-clause-err g c =
    answered-err c.run_script-ran.result c.hand_on.result (opening c.args.settings.now) (g.R.Read.remaining c.args.reader.now) (g.W.Write.contents c.args.writer.now) (g.W.Write.contents c.run_script-ran.new.writer) (g.W.Write.contents c.hand_on.new.writer)
    c.run_script-ran.ensures.ok c.run_script-ran.ensures.err c.hand_on.ensures.bytes c.hand_on.ensures.err

pub returns-clause-stopped : goal.returns-clause-stopped
returns-clause-stopped g c =
    answered-stopped c.run_script-ran.result c.hand_on.result (opening c.args.settings.now) (g.R.Read.remaining c.args.reader.now)
    (g.R.Read.remaining c.run_script-ran.new.reader) (g.W.Write.contents c.args.writer.now) (g.W.Write.contents c.run_script-ran.new.writer) (g.W.Write.contents c.hand_on.new.writer)
    c.run_script-ran.ensures.ok c.run_script-ran.ensures.stopped c.hand_on.ensures.bytes c.hand_on.ensures.err
