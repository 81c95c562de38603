use Rattle.std.proofs.Common.{◌+◌, length, take, refl, arith}
use Rattle.kb_folder.proofs.Adding.{has_added, adds_back, adds_stays}
use Rattle.kb_folder.proofs.Goes.{goes_torn}
use Rattle.kb_folder.proofs.store.add_whole.Goals as goal

pub cut-requires-clause-there : goal.cut-requires-clause-there
cut-requires-clause-there g c = λ h.
    let s = take c.add_on-added.result.0 c.args.bytes.now in
    (has_added (g.F.Folder.contents c.args.folder.now) (g.F.Folder.contents c.add_on-added.new.folder) c.args.file s c.args.end (c.args.end + length s) c.requires.there c.add_on-added.ensures.added refl h).0

pub cut-requires-clause-within : goal.cut-requires-clause-within
cut-requires-clause-within g c = λ h.
    let s = take c.add_on-added.result.0 c.args.bytes.now in
    omega (arith, (has_added (g.F.Folder.contents c.args.folder.now) (g.F.Folder.contents c.add_on-added.new.folder) c.args.file s c.args.end (c.args.end + length s) c.requires.there c.add_on-added.ensures.added refl h).1)

pub returns-in-Ok-clause-added : goal.returns-in-Ok-clause-added
returns-in-Ok-clause-added g c =
    let s = take c.add_on-added.result.0 c.args.bytes.now in
    adds_back (g.F.Folder.contents c.args.folder.now) (g.F.Folder.contents c.add_on-added.new.folder) c.args.file (g.F.Folder.contents c.cut.new.self) s c.args.end c.requires.there c.add_on-added.ensures.added c.in-Ok.ensures.cut

pub returns-in-Err-clause-added : goal.returns-in-Err-clause-added
returns-in-Err-clause-added g c =
    let s = take c.add_on-added.result.0 c.args.bytes.now in
    adds_stays (g.F.Folder.contents c.args.folder.now) (g.F.Folder.contents c.add_on-added.new.folder) c.args.file (g.F.Folder.contents c.cut.new.self) s c.add_on-added.ensures.added c.in-Err.ensures.unchanged

pub returns-in-Ok-clause-loss : goal.returns-in-Ok-clause-loss
returns-in-Ok-clause-loss g c =
    goes_torn c.args.file c.args.end c.args.end (g.F.Folder.loss c.args.folder.now) (g.F.Folder.loss c.add_on-added.new.folder) (g.F.Folder.loss c.cut.new.self) (omega arith)
    c.add_on-added.ensures.loss c.cut.ensures.loss

pub returns-in-Err-clause-loss : goal.returns-in-Err-clause-loss
returns-in-Err-clause-loss g c =
    goes_torn c.args.file c.args.end c.args.end (g.F.Folder.loss c.args.folder.now) (g.F.Folder.loss c.add_on-added.new.folder) (g.F.Folder.loss c.cut.new.self) (omega arith)
    c.add_on-added.ensures.loss c.cut.ensures.loss

pub returns-in-Ok-clause-short : goal.returns-in-Ok-clause-short
returns-in-Ok-clause-short g c = λ some. omega (arith, c.add_on-added.ensures.short some)
