use Rattle.kbroker.proofs.Scripts.{played_over}
use Rattle.kbroker.proofs.script.play_over.Goals as goal

pub returns : goal.returns
returns g c honest =
    let b = c.in_ok-opened.opened.broker.state in
    played_over (g.R.Read.remaining c.args.reader.now) c.args.start.listing c.args.start.settings.now b (g.W.Write.contents c.args.writer.now) (g.W.Write.contents c.play_on.new.writer)
    c.in_ok-opened.ensures.fixed (c.in_ok-play_on.ensures.ok honest)
