use Rattle.std.proofs.Common.{◌∙◌}
use Rattle.kb_groups.proofs.Each.{inserted_put}
use Rattle.kb_groups.proofs.members.Members.put.Goals as goal

pub returns-clause-members : goal.returns-clause-members
returns-clause-members c = rw (← c.self.view_is) (c.in_ok-insert.ensures.entries ∙ inserted_put c.args.number c.args.entry c.self.inside.map.entries)
