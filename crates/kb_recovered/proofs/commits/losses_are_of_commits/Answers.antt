use Rattle.kb_recovered.proofs.Windows.{holds_left}
use Rattle.kb_recovered.proofs.commits.losses_are_of_commits.Goals as goal

pub returns : goal.returns
returns g c = λ past files t first last holds waiting found left.
    let s = c.args.store.now.store in
    holds_left past files t first last (g.S.Store.disk s) (g.S.Store.loss s) holds waiting found left
