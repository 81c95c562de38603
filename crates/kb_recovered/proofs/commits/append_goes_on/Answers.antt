use Rattle.kb_store.specs.Disk.{len_of}
use Rattle.kb_durable.specs.Durable.{disk_of}
use Rattle.kb_durable.proofs.Seen.{len_inside}
use Rattle.kb_recovered.proofs.Windows.{through_append}
use Rattle.kb_recovered.proofs.commits.append_goes_on.Goals as goal

pub returns : goal.returns
returns g c = λ past files t first last may holds.
    let old = c.args.store.now in
    let new = c.append.new.self in
    through_append past files t first last (g.S.Store.disk old.store) (g.S.Store.disk new.store) (g.S.Store.loss old.store) (g.S.Store.loss new.store) holds
    c.args.file (len_of (disk_of g.S.Store.disk old) c.args.file) c.args.bytes.now c.append.result (len_inside old.waiting old.refused (g.S.Store.disk old.store) c.args.file c.requires) may (g.met.S.Store.timely old.store) c.append.ensures.loss
    c.append.ensures.inside c.append.ensures.inside_err
