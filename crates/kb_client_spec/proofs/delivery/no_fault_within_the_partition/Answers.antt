use Rattle.kb_client_spec.proofs.Consuming.{no_fault_read}
use Rattle.kb_client_spec.proofs.delivery.no_fault_within_the_partition.Goals as goal

pub returns : goal.returns
returns c = no_fault_read
