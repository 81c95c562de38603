use Rattle.std.proofs.Common.{◌≡◌, sym, subst, rules}
use Rattle.kb_store.specs.Loss.{Goes, Same}
use Rattle.kb_folder.specs.Lasting.{folder_loss}
use Rattle.kb_folder.specs.Told.{calls_of}
use Rattle.kb_folder.proofs.Synced.{on_ok, only_hosted}
use Rattle.kb_folder.proofs.host_folder.HostFolderFolder.sync.Goals as goal

pub returns-clause-synced : goal.returns-clause-synced
returns-clause-synced g c =
    let now = c.sync_changed.new.self.changed in
    on_ok c.sync_changed.result (only_hosted now (calls_of c.sync_changed.new.history) (c.sync_changed.ensures.syncs.noted c.self.invariant)) c.sync_changed.ensures.lasting

pub returns-clause-loss : goal.returns-clause-loss
returns-clause-loss g c =
    let had = c.args.self.now in
    let h = calls_of c.sync_changed.new.history in
    let history : had.history ≡ calls_of c.self.inside.history = search rules in
    subst (λ x. Goes Same (folder_loss x) (folder_loss h)) (sym history) c.sync_changed.ensures.syncs.loss
