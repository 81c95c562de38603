use Rattle.std.proofs.Common.{[]}
use Rattle.kb_groups.proofs.state.State.reopen.Goals as goal

pub returns : goal.returns
returns c = λ k. record { group = c.open_joining.ensures [] k; released = c.in_ok-answer.ensures k }
