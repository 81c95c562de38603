use Rattle.kb_operator.specs.Logged.{bytes_or_none}
use Rattle.kbroker.proofs.Why.{why_of}
use Rattle.kbroker.proofs.telling.tell_shut.Goals as goal

pub returns : goal.returns
returns g c =
    let why = c.cause_text-cause in
    (bytes_or_none why.result, why_of why.result c.args.closed.now.cause c.args.request_bytes why.ensures, c.tell_shut.ensures)
