use Rattle.kb_recovered.proofs.Following.{all_follow_lost}
use Rattle.kb_recovered.proofs.laws.what_was_acknowledged_stays.Goals as goal

pub returns : goal.returns
returns c = all_follow_lost
