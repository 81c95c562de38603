use Rattle.kconsole.proofs.Giving.{gives_connected, gives_nothing}
use Rattle.kconsole.proofs.consume.connect.Goals as goal

pub returns-then-not-branch : goal.returns-then-not-branch
returns-then-not-branch c = gives_nothing c.args.core.now

pub returns : goal.returns
returns c = gives_connected c.args.core.now c.connected.new.self c.connected.ensures
