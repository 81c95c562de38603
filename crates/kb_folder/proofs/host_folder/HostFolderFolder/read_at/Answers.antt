use Rattle.std.proofs.Common.{refl}
use Rattle.kb_store.specs.Loss.{Same}
use Rattle.kb_store.specs.LossLaws.{stays_goes}
use Rattle.kb_folder.specs.Lasting.{folder_loss}
use Rattle.kb_folder.proofs.host_folder.HostFolderFolder.read_at.Goals as goal

pub returns-then-is_empty-clause-loss : goal.returns-then-is_empty-clause-loss
returns-then-is_empty-clause-loss g c = stays_goes Same (λ x. refl) (folder_loss c.args.self.now.history)

pub returns-clause-loss : goal.returns-clause-loss
returns-clause-loss g c = c.read-read.ensures.looks.loss
