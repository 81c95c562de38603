use Rattle.std.proofs.Common.{◌∙◌, ap, refl}
use Rattle.kb_store.specs.Loss.{Same}
use Rattle.kb_store.specs.LossLaws.{stays_goes}
use Rattle.kb_durable.specs.Durable.{is_torn}
use Rattle.kb_durable.proofs.Ends.{torn_pushed}
use Rattle.kb_durable.proofs.torn.note.Goals as goal

pub returns-then-is_torn-clause-loss : goal.returns-then-is_torn-clause-loss
returns-then-is_torn-clause-loss g c = stays_goes Same (λ f. refl) (g.S.Store.loss c.args.store.now)

pub returns-2-clause-noted : goal.returns-2-clause-noted
returns-2-clause-noted g c = λ _.
    ap (λ ts. is_torn ts c.args.file) c.push_reserved.ensures.items ∙ torn_pushed c.args.torn.now.items c.args.file c.args.len
