use Rattle.std.proofs.Common.{◌≡◌, ◌∙◌, ◌++◌, ap, append_assoc, map, pos}
use Rattle.std.proofs.lemmas.Result.{on_ok_weaker}
use Rattle.kb_wire.specs.Codec.{array, int16}
use Rattle.kb_api_group.specs.Layouts.{list_groups_reply, listed_group}
use Rattle.kb_coordinator.specs.Groups.{Groups}
use Rattle.kb_coordinator.specs.Tools.{array_until, listed}
use Rattle.kb_coordinator.proofs.Until.{are_until, array_until_all}
use Rattle.kb_coordinator.proofs.coordinator.Coordinator.put_list.Goals as goal

pub returns-clause-whole : goal.returns-clause-whole
unfolding list_groups_reply
returns-clause-whole c = on_ok_weaker c.put_groups.result (λ wrote.
    let old = c.args.sink.now.bytes in
    let start = c.put_i16.new.self.bytes in
    let code = int16.written (pos 0) in
    let vs = map listed c.args.self.now.groups in
    let list = (array listed_group).written vs in
    are_until c.args.most (start ++ list) (old ++ (code ++ list)) (array_until c.args.most listed_group start vs) c.put_groups.new.sink.bytes
    (ap (λ s. s ++ list) c.in_ok-put_i16.ensures.ok ∙ append_assoc old code list)
    (wrote ∙ ap (λ es. array_until c.args.most listed_group start (map listed es)) (c.deref.ensures.value ∙ ap (λ (g : Groups). g.groups) c.self.view_is))
    (array_until_all c.args.most listed_group start vs)) c.put_groups.ensures
