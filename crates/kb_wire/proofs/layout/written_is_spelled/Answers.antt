use Rattle.std.proofs.Common.{rules}
use Rattle.kb_wire.proofs.Whole.{spelled_again}
use Rattle.kb_wire.proofs.layout.written_is_spelled.Goals as goal

pub returns : goal.returns
returns g c = search (rules, spelled_again)
