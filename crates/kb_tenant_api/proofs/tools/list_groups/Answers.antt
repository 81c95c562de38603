use Rattle.std.proofs.Common.{rules, ◌≡◌, refl, to_z, of_z, w32}
use Rattle.kb_api_group.specs.Layouts.{list_groups_reply, list_groups_request}
use Rattle.kb_coordinator.specs.Tools.{group_list}
use Rattle.kb_tenant.specs.Replies.{most_bytes}
use Rattle.kb_wire.specs.Codec.{whole}
use Rattle.kb_tenant_api.specs.Serve.{of_list}
use Rattle.kb_tenant_api.specs.declared.answer.Answer.TheVariants as answers
use Rattle.kb_tenant_api.proofs.Joining.{was_read}
use Rattle.kb_tenant_api.proofs.Looking.{behind_begun, looked}
use Rattle.kb_tenant_api.proofs.tools.list_groups.Goals as goal

pub returns-clause-served : goal.returns-clause-served
returns-clause-served c = λ w.
    let request = c.args.request.now in
    let asked = c.in_ok-_asked._asked in
    let gs = c.args.groups.now in
    let quiet = c.silence.new.self in
    let body = list_groups_reply.written (group_list quiet) in
    let id : to_z w32 (of_z w32 request.correlation_id) ≡ request.correlation_id = search rules in
    was_read request.correlation_id w w gs quiet (whole list_groups_request request.body.now) asked (of_list c.args.limit w gs) (answers.Plain c.finish_within.result) c.in_ok-_asked.ensures.exact
    (looked c.args.limit request.correlation_id w gs quiet (λ x. list_groups_reply.written (group_list x)) (answers.Plain c.finish_within.result) c.silence.ensures refl
    (c.finish_within.ensures request.correlation_id body
    (behind_begun (most_bytes c.args.limit) c.most_bytes.result request.correlation_id _ c.in_ok-sink.sink.bytes body c.put_list.new.sink.bytes c.most_bytes.ensures c.in_ok-sink.ensures id c.in_ok-put_list.ensures.whole)))
