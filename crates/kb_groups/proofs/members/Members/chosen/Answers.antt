use Rattle.kb_groups.proofs.ChoiceSteps.{chosen_is, chosen_none}
use Rattle.kb_groups.proofs.members.Members.chosen.Goals as goal

pub returns-in_default : goal.returns-in_default
returns-in_default c = chosen_none c.args.leader c.args.self.now c.in_default.ensures.value

pub returns-in-Some-common : goal.returns-in-Some-common
returns-in-Some-common c = chosen_is c.args.leader c.args.self.now c.in-Some.member.now c.as_slice.result.now _ c.in-Some.ensures.value c.as_slice.ensures c.in-Some-common.ensures

pub returns-in-None : goal.returns-in-None
returns-in-None c = chosen_is c.args.leader c.args.self.now c.in-Some.member.now c.as_slice.result.now _ c.in-Some.ensures.value c.as_slice.ensures c.in-None.ensures
