use Rattle.std.proofs.Common.{◌∙◌}
use Rattle.kb_groups.proofs.Each.{removed_without}
use Rattle.kb_groups.proofs.members.Members.remove.Goals as goal

pub returns : goal.returns
returns c = rw (← c.self.view_is) (c.shift_remove.ensures.entries ∙ removed_without c.args.number c.self.inside.map.entries)
