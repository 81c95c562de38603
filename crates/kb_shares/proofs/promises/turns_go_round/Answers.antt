use Rattle.kb_shares.proofs.Rounds.{last_behind, not_passed}
use Rattle.kb_shares.proofs.promises.turns_go_round.Goals as goal

pub returns : goal.returns
returns c = record {
  passed = not_passed;
  behind = last_behind;
}
