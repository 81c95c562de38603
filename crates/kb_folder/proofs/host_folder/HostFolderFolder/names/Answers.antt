use Rattle.std.proofs.Common.{◌≡◌, refl, sym, subst, rules}
use Rattle.kb_store.specs.Loss.{Goes, Same}
use Rattle.kb_folder.specs.History.{listing_answer}
use Rattle.kb_folder.specs.Lasting.{folder_loss}
use Rattle.kb_folder.specs.Told.{calls_of}
use Rattle.kb_folder.proofs.Synced.{goes_or}
use Rattle.kb_folder.specs.Names.{numbers_named}
use Rattle.kb_folder.proofs.host_folder.HostFolderFolder.names.Goals as goal

pub returns-clause-loss : goal.returns-clause-loss
returns-clause-loss g c =
    let had = c.args.self.now in
    let h = calls_of c.names-listed.new.self in
    let history : had.history ≡ calls_of c.self.inside.history = search rules in
    subst (λ x. Goes Same (folder_loss x) (folder_loss h)) (sym history)
    (goes_or c.names-listed.result Same (λ x. refl) (calls_of c.self.inside.history) h (λ names. listing_answer (numbers_named names.items)) c.names-listed.ensures.listed c.names-listed.ensures.refused (λ x before found e. e))
