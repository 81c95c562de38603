use Rattle.kb_store.specs.Loss.{Makes}
use Rattle.kb_store.specs.LossLaws.{made_not}
use Rattle.kb_folder.specs.History.{made}
use Rattle.kb_folder.proofs.Synced.{goes_or}
use Rattle.kb_folder.proofs.host_folder.HostFolderFolder.create.Goals as goal

pub returns-clause-loss : goal.returns-clause-loss
returns-clause-loss g c =
    let had = c.args.self.now in
    let now = c.make-made.new.self in
    let file = c.args.file in
    goes_or c.make-made.result (Makes file) (made_not file) had.history now.history (λ _. made file) c.make-made.ensures.made c.make-made.ensures.refused (λ x before found m. m)
