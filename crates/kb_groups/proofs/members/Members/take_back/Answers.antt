use Rattle.std.proofs.Common.{◌∙◌, sym, ap, is_some}
use Rattle.kb_groups.specs.Members.{changed}
use Rattle.kb_groups.proofs.Each.{popped_put, changed_put, changed_at, changed_none}
use Rattle.kb_groups.proofs.members.Members.take_back.Goals as goal
use Rattle.kb_groups.proofs.members.Members.take_back.Goals.{in-Some-1, in-None-1}

pub returns-in-None : goal.returns-in-None
returns-in-None c = λ ms m h e.
    let q = popped_put c.args.number m ms c.self.inside.map.entries _ _ (sym c.in-None.is ∙ h) (c.self.view_is ∙ e) c.pop.ensures.entries c.pop.ensures.found.1 in
    elim c.match-pop.branch [ in-Some-1 w ↦ ap (λ s. s) w.self-is ∙ q | in-None-1 w ↦ ap (λ s. s) w.self-is ∙ q ]

pub returns-in-Some-get_index_of : goal.returns-in-Some-get_index_of
returns-in-Some-get_index_of c = λ ms m h e.
    changed_at c.args.number (λ _. c.in-Some.old) c.self.inside.map.entries _ _ _ (sym c.in-Some-get_index_of.ensures.index) c.pair_mut-member.ensures.value
    ∙ ap (changed c.args.number (λ _. c.in-Some.old)) (c.self.view_is ∙ e)
    ∙ changed_put c.args.number m c.in-Some.old ms (sym c.in-Some.is ∙ h)

pub returns-in_default : goal.returns-in_default
returns-in_default c = λ ms m h e.
    sym c.self.view_is
    ∙ sym (changed_none c.args.number (λ _. c.in-Some.old) c.self.inside.map.entries (ap is_some (sym c.get_index_of.ensures.index) ∙ c.get_index_of.ensures.found) (sym c.get_index_of.ensures.index ∙ c.in_default.is))
    ∙ ap (changed c.args.number (λ _. c.in-Some.old)) (c.self.view_is ∙ e)
    ∙ changed_put c.args.number m c.in-Some.old ms (sym c.in-Some.is ∙ h)
