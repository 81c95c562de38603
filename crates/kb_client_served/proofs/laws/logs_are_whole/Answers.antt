use Rattle.kb_client_served.proofs.Whole.{whole_logs}
use Rattle.kb_client_served.proofs.laws.logs_are_whole.Goals as goal

pub returns : goal.returns
returns g c = λ es table next files w sound agree is. whole_logs g.L.PartitionLog.log g.met.L.PartitionLog.lawful es table next files sound agree w is
