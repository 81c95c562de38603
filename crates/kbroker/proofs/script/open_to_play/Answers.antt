use Rattle.kbroker.proofs.Opened.{calm-opened, quiet-opened}
use Rattle.kbroker.proofs.script.open_to_play.Goals as goal

pub returns-clause-calm : goal.returns-clause-calm
returns-clause-calm g c = calm-opened c.args.start.listing c.args.start.settings.now c.in_ok-opened.opened.broker.state c.in_ok-opened.ensures.fixed c.in_ok-opened.ensures.calm
