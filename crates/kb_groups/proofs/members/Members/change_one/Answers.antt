use Rattle.std.proofs.Common.{sym, ap, ◌∙◌, is_some}
use Rattle.kb_groups.proofs.Each.{changed_at, changed_none}
use Rattle.kb_groups.proofs.members.Members.change_one.Goals as goal

pub returns-in-Some : goal.returns-in-Some
returns-in-Some g c = rw c.apply.ensures (rw (← c.self.view_is) (changed_at _ _ _ _ _ _ (sym c.in-Some.ensures.index) c.pair_mut-member.ensures.value))

pub returns-in_default : goal.returns-in_default
returns-in_default g c = rw (← c.self.view_is) (sym (changed_none _ _ _ (ap is_some (sym c.get_index_of.ensures.index) ∙ c.get_index_of.ensures.found) (sym c.get_index_of.ensures.index ∙ c.in_default.is)))
