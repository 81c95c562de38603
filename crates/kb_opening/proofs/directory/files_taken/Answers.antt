use Rattle.kb_opening.proofs.Taken.{taken_or_left, taken_apart}
use Rattle.kb_opening.proofs.directory.files_taken.Goals as goal

pub returns : goal.returns
returns c = record { either = taken_or_left; apart = taken_apart }
