use Rattle.std.proofs.Common.{◌≡◌, subst, rules}
use Rattle.kb_store.specs.Loss.{Goes, Drops}
use Rattle.kb_store.specs.LossLaws.{dropped_not}
use Rattle.kb_folder.specs.History.{removed}
use Rattle.kb_folder.specs.Lasting.{folder_loss}
use Rattle.kb_folder.specs.Told.{calls_of}
use Rattle.kb_folder.proofs.Synced.{goes_or}
use Rattle.kb_folder.proofs.host_folder.HostFolderFolder.remove.Goals as goal

pub returns-in_err-answer-clause-loss : goal.returns-in_err-answer-clause-loss
returns-in_err-answer-clause-loss g c =
    let had = c.args.self.now in
    let now = c.take_away-removed.new.self in
    let file = c.args.file in
    goes_or c.take_away-removed.result (Drops file) (dropped_not file) had.history now.history (λ _. removed file) c.take_away-removed.ensures.removed c.take_away-removed.ensures.refused (λ x before found d. d)

pub returns-clause-loss : goal.returns-clause-loss
returns-clause-loss g c =
    let had = c.args.self.now in
    let now = c.take_away-removed.new.self in
    let file = c.args.file in
    let view : now.history ≡ calls_of c.self.inside.history = search rules in
    subst (λ x. Goes (Drops file) (folder_loss had.history) (folder_loss x)) view
    (goes_or c.take_away-removed.result (Drops file) (dropped_not file) had.history now.history (λ _. removed file) c.take_away-removed.ensures.removed c.take_away-removed.ensures.refused (λ x before found d. d))
