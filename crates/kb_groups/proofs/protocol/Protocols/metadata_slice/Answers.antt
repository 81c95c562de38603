use Rattle.std.proofs.Common.{◌∙◌}
use Rattle.kb_groups.proofs.Index.{metadata_some, metadata_none}
use Rattle.kb_groups.proofs.protocol.Protocols.metadata_slice.Goals as goal

pub returns-in-Some : goal.returns-in-Some
returns-in-Some c = rw (← c.self.view_is) (c.as_slice.ensures ∙ metadata_some c.as_ref.result.now c.self.inside.shared.value c.in-Some.protocol.now c.args.name.now c.as_ref.ensures c.in-Some.ensures)

pub returns-in-None : goal.returns-in-None
returns-in-None c = rw (← c.self.view_is) (metadata_none c.as_ref.result.now c.self.inside.shared.value c.args.name.now c.as_ref.ensures c.in-None.ensures)
