use Rattle.kb_store.specs.Loss.{Tears}
use Rattle.kb_store.specs.LossLaws.{torn_not}
use Rattle.kb_folder.specs.History.{wrote}
use Rattle.kb_folder.proofs.Synced.{goes_or}
use Rattle.std.proofs.Common.{take}
use Rattle.kb_folder.proofs.Told.{turns_told}
use Rattle.kb_folder.proofs.host_folder.HostFolderFolder.write_end.Goals as goal

pub returns-clause-written : goal.returns-clause-written
returns-clause-written g c =
    turns_told c.args.self.now.history c.write-written.new.self.history c.args.file c.args.end c.args.bytes.now c.write-written.result c.answer.result c.requires c.answer.ensures.ok c.write-written.ensures.wrote

pub returns-clause-loss : goal.returns-clause-loss
returns-clause-loss g c =
    let had = c.args.self.now in
    let now = c.write-written.new.self in
    let file = c.args.file in
    let end = c.args.end in
    goes_or c.write-written.result (Tears file end) (torn_not file end) had.history now.history (λ n. wrote file end (take n c.args.bytes.now)) c.write-written.ensures.wrote c.write-written.ensures.refused
    (λ x before found t. t)
