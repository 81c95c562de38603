use Rattle.std.proofs.Common.{◌≡◌, ◌∙◌, ◌++◌, ap, map, refl}
use Rattle.std.proofs.lemmas.Result.{on_ok_weaker}
use Rattle.kb_wire.specs.Codec.{array}
use Rattle.kb_api_group.specs.Layouts.{describe_groups_reply, described_group}
use Rattle.kb_coordinator.specs.Tools.{array_until, description}
use Rattle.kb_coordinator.proofs.Until.{are_until, array_until_all}
use Rattle.kb_coordinator.proofs.coordinator.Coordinator.put_descriptions.Goals as goal

pub returns-clause-whole : goal.returns-clause-whole
unfolding describe_groups_reply
returns-clause-whole c = on_ok_weaker c.put_groups.result (λ wrote.
    let old = c.args.sink.now.bytes in
    let f = description c.args.self.now in
    let vs = map f c.args.request.now.group_ids in
    let all = old ++ (array described_group).written vs in
    are_until c.args.most all all (array_until c.args.most described_group old vs) c.put_groups.new.sink.bytes refl
    (wrote ∙ ap (λ ids. array_until c.args.most described_group old (map f ids)) c.as_slice.ensures)
    (array_until_all c.args.most described_group old vs)) c.put_groups.ensures
