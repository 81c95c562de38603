use Rattle.std.proofs.Common.{ap, ◌∙◌, Some}
use Rattle.kb_groups.specs.Calls.{others}
use Rattle.kb_groups.specs.Protocols.{all_list}
use Rattle.kb_groups.proofs.ChoiceSteps.{common_stop, common_go, common_end}
use Rattle.kb_groups.proofs.members.Members.common.Goals as goal

pub returns-then-all_list : goal.returns-then-all_list
returns-then-all_list g c =
    ap Some c.name-then-all_list.ensures ∙ common_stop g.N.Named.name_of (others c.args.but c.args.self.now) c.loop-named.named-index c.args.names.now c.named-item.result _ c.loop-named.invariant c.loop-named-test.true c.named-item.is (c.if-all_list.ensures ∙ ap (all_list (others c.args.but c.args.self.now)) c.name.ensures)

pub loop-named-preserved : goal.loop-named-preserved
loop-named-preserved g c =
    common_go g.N.Named.name_of (others c.args.but c.args.self.now) c.loop-named.named-index c.args.names.now c.named-item.result _ c.loop-named.invariant c.loop-named-test.true c.named-item.is (c.if-all_list.ensures ∙ ap (all_list (others c.args.but c.args.self.now)) c.name.ensures)

pub returns : goal.returns
returns g c = common_end g.N.Named.name_of (others c.args.but c.args.self.now) c.loop-named.named-index c.args.names.now _ c.loop-named.invariant c.loop-named-test.false
