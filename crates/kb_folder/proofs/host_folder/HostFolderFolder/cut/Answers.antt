use Rattle.std.proofs.Common.{◌≡◌, subst, rules}
use Rattle.kb_store.specs.Loss.{Goes, Tears}
use Rattle.kb_store.specs.LossLaws.{torn_not}
use Rattle.kb_folder.specs.History.{resized}
use Rattle.kb_folder.specs.Lasting.{folder_loss}
use Rattle.kb_folder.specs.Told.{calls_of, with}
use Rattle.kb_folder.proofs.Synced.{goes_or}
use Rattle.kb_folder.proofs.Told.{turns_cut}
use Rattle.kb_folder.proofs.host_folder.HostFolderFolder.cut.Goals as goal

pub returns-clause-cut : goal.returns-clause-cut
returns-clause-cut g c =
    let told : calls_of c.self.inside.history ≡ with c.args.self.now.history (resized c.args.file c.args.len) = search rules in
    turns_cut c.args.self.now.history (calls_of c.self.inside.history) c.args.file c.args.len c.requires.within told

pub returns-in_err-answer-clause-loss : goal.returns-in_err-answer-clause-loss
returns-in_err-answer-clause-loss g c =
    let had = c.args.self.now in
    let now = c.resize-cut.new.self in
    let file = c.args.file in
    let len = c.args.len in
    goes_or c.resize-cut.result (Tears file len) (torn_not file len) had.history now.history (λ _. resized file len) c.resize-cut.ensures.resized c.resize-cut.ensures.refused (λ x before found t. t)

pub returns-clause-loss : goal.returns-clause-loss
returns-clause-loss g c =
    let had = c.args.self.now in
    let now = c.resize-cut.new.self in
    let file = c.args.file in
    let len = c.args.len in
    let view : now.history ≡ calls_of c.self.inside.history = search rules in
    subst (λ x. Goes (Tears file len) (folder_loss had.history) (folder_loss x)) view
    (goes_or c.resize-cut.result (Tears file len) (torn_not file len) had.history now.history (λ _. resized file len) c.resize-cut.ensures.resized c.resize-cut.ensures.refused (λ x before found t. t))
