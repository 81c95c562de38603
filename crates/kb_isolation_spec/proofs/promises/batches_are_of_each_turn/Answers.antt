use Rattle.std.proofs.Common.{refl}
use Rattle.kb_isolation_spec.proofs.Moments.{each-turn, all-turns, turns-again, turn-bound, next-serves, serves-next}
use Rattle.kb_isolation_spec.proofs.promises.batches_are_of_each_turn.Goals as goal

pub returns-clause-piece : goal.returns-clause-piece
returns-clause-piece c = λ n piece w. (refl, (λ h. h, λ h. h))

pub returns-clause-moment : goal.returns-clause-moment
returns-clause-moment c = λ now w. (refl, (λ h. h, λ h. h))

pub returns-clause-turns : goal.returns-clause-turns
returns-clause-turns c = λ w. (turns-again w, (each-turn w, all-turns w))

pub returns-clause-request : goal.returns-clause-request
returns-clause-request c = λ w l tenant wait first bound. (
  turn-bound w l tenant wait first bound,
  (next-serves w l tenant wait first bound, serves-next w l tenant wait first bound),
)
