use Rattle.kb_groups.proofs.Index.{listed_by}
use Rattle.kb_groups.proofs.protocol.Protocols.lists.Goals as goal

pub returns : goal.returns
returns c = rw (← c.self.view_is) (listed_by c.as_ref.result.now c.self.inside.shared.value c.args.name.now c.find.result c.is_some.result c.as_ref.ensures c.find.ensures c.is_some.ensures)
