use Rattle.kb_loss.proofs.Since.{still_synced}
use Rattle.kb_recovered.proofs.Results.{on_ok}
use Rattle.kb_recovered.proofs.calls.sync_lasts.Goals as goal

pub returns : goal.returns
returns g c =
    let s = c.sync.new.self in
    on_ok c.sync.result c.sync.ensures.synced (λ synced settled honest t. still_synced (g.S.Store.disk s).files t (g.S.Store.loss s) (g.met.S.Store.timely s) (synced settled honest))
