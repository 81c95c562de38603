use Rattle.std.proofs.Common.{refl}
use Rattle.kb_recovered.proofs.Windows.{through_first}
use Rattle.kb_recovered.proofs.Results.{on_ok}
use Rattle.kb_recovered.proofs.commits.sync_begins.Goals as goal

pub returns : goal.returns
returns g c =
    let s = c.sync.new.self.store in
    let d = g.S.Store.disk s in
    let l = g.S.Store.loss s in
    on_ok c.sync.result c.sync.ensures.lasts (λ lasts syncs honest t. through_first d.files t d l refl (g.met.S.Store.timely s) (lasts syncs honest))
