use Rattle.std.proofs.Common.{[]}
use Rattle.kconsole.proofs.Giving.{gives_asked, gives_both}
use Rattle.kconsole.proofs.consume.ask.Goals as goal

pub returns : goal.returns
returns c =
    gives_both c.args.core.now c.connect.new.core c.take_output.new.self [] [] c.in_ok-connect.ensures
    (gives_asked c.connect.new.core c.take_output.new.self c.in_ok-request.request.items c.in_ok-request.ensures.1)
