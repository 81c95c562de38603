use Rattle.std.proofs.Common.{ap, ◌∙◌}
use Rattle.std.specs.FinMap as fin
use Rattle.kb_waits.proofs.Queues.{free_from}
use Rattle.kb_waits.proofs.waits.Waits.is_parked.Goals as goal

pub returns-clause-free : goal.returns-clause-free
returns-clause-free c = free_from c.contains.result (fin.get c.args.self.now c.args.connection) (c.contains.ensures ∙ ap (λ q. fin.contains_key q c.args.connection) c.self.view_is)
