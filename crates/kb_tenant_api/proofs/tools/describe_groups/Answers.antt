use Rattle.std.proofs.Common.{rules, ◌≡◌, refl, to_z, of_z, w32}
use Rattle.kb_api_group.specs.Layouts.{describe_groups_reply, describe_groups_request}
use Rattle.kb_coordinator.specs.Tools.{descriptions}
use Rattle.kb_tenant.specs.Entries.{describe_groups_entries, within}
use Rattle.kb_tenant.specs.Replies.{most_bytes}
use Rattle.kb_wire.specs.Codec.{whole}
use Rattle.kb_tenant_api.specs.Serve.{of_describe}
use Rattle.kb_tenant_api.specs.declared.answer.Answer.TheVariants as answers
use Rattle.kb_tenant_api.proofs.Joining.{was_read}
use Rattle.kb_tenant_api.proofs.Looking.{behind_begun, looked}
use Rattle.kb_tenant_api.proofs.tools.describe_groups.Goals as goal

pub returns-clause-served : goal.returns-clause-served
returns-clause-served c = λ w.
    let request = c.args.request.now in
    let asked = c.in_ok-asked.asked in
    let gs = c.args.groups.now in
    let quiet = c.silence.new.self in
    let body = describe_groups_reply.written (descriptions quiet asked) in
    let id : to_z w32 (of_z w32 request.correlation_id) ≡ request.correlation_id = search rules in
    was_read request.correlation_id w w gs quiet (within c.args.limits.request_entries describe_groups_entries (whole describe_groups_request request.body.now)) asked (of_describe c.args.limits.reply_bytes w gs) (answers.Plain c.finish_within.result) c.in_ok-asked.ensures.exact
    (looked c.args.limits.reply_bytes request.correlation_id w gs quiet (λ x. describe_groups_reply.written (descriptions x asked)) (answers.Plain c.finish_within.result) c.silence.ensures refl
    (c.finish_within.ensures request.correlation_id body
    (behind_begun (most_bytes c.args.limits.reply_bytes) c.most_bytes-most.result request.correlation_id _ c.in_ok-sink.sink.bytes body c.put_descriptions.new.sink.bytes c.most_bytes-most.ensures c.in_ok-sink.ensures id
    c.in_ok-put_descriptions.ensures.whole)))
