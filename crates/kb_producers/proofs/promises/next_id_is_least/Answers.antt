use Rattle.kb_producers.specs.IdLaws as laws
use Rattle.kb_producers.proofs.promises.next_id_is_least.Goals as goal

pub returns : goal.returns
returns c = record { above = laws.above; least = laws.least; kept = laws.least_kept }
