use Rattle.kb_move.proofs.Backup.{backed_up, opens_as_then}
use Rattle.kb_move.proofs.laws.backups_open_to_their_moment.Goals as goal

pub returns-clause-same : goal.returns-clause-same
returns-clause-same c = backed_up

pub returns-clause-opens : goal.returns-clause-opens
returns-clause-opens c = opens_as_then
