use Rattle.kb_node.proofs.Handed.{answered-ok, answered-err, answered-stopped}
use Rattle.kb_node.proofs.script.play_script_on.Goals as goal

pub returns-clause-ok : goal.returns-clause-ok
returns-clause-ok g c honest =
    answered-ok c.run_script_on-ran.result c.hand_on.result c.args.broker.now.state (g.R.Read.remaining c.args.reader.now) (g.W.Write.contents c.args.writer.now) (g.W.Write.contents c.run_script_on-ran.new.writer) (g.W.Write.contents c.hand_on.new.writer)
    (c.run_script_on-ran.ensures.ok honest) c.hand_on.ensures.bytes c.hand_on.ensures.ok

pub returns-clause-err : goal.returns-clause-err
returns-clause-err g c honest =
    answered-err c.run_script_on-ran.result c.hand_on.result c.args.broker.now.state (g.R.Read.remaining c.args.reader.now) (g.W.Write.contents c.args.writer.now) (g.W.Write.contents c.run_script_on-ran.new.writer) (g.W.Write.contents c.hand_on.new.writer)
    (c.run_script_on-ran.ensures.ok honest) (c.run_script_on-ran.ensures.err honest) c.hand_on.ensures.bytes c.hand_on.ensures.err

pub returns-clause-stopped : goal.returns-clause-stopped
returns-clause-stopped g c honest =
    answered-stopped c.run_script_on-ran.result c.hand_on.result c.args.broker.now.state (g.R.Read.remaining c.args.reader.now)
    (g.R.Read.remaining c.run_script_on-ran.new.reader) (g.W.Write.contents c.args.writer.now) (g.W.Write.contents c.run_script_on-ran.new.writer) (g.W.Write.contents c.hand_on.new.writer)
    (c.run_script_on-ran.ensures.ok honest) (c.run_script_on-ran.ensures.stopped honest) c.hand_on.ensures.bytes c.hand_on.ensures.err
