use Rattle.std.proofs.Common.{rules, ◌≡◌, ◌∙◌, ◌++◌, false, ap, sym, to_z, of_z, w16, w32}
use Rattle.kb_wire.specs.ErrorCode.{code_of}
use Rattle.kb_api_group.specs.Layouts.{join_group_request}
use Rattle.kb_coordinator.specs.Calls.{after_join, is_accepted}
use Rattle.kb_coordinator.specs.Replies.{join_refusal}
use Rattle.kb_tenant.specs.Replies.{begun}
use Rattle.kb_wire.specs.Codec.{whole}
use Rattle.kb_tenant_api.specs.Serve.{if_read, of_join}
use Rattle.kb_tenant_api.specs.declared.answer.Answer.TheVariants as answers
use Rattle.kb_tenant_api.proofs.Joining.{joined, was_read}
use Rattle.kb_tenant_api.proofs.members.join_group.Goals as goal

pub returns-clause-served : goal.returns-clause-served
returns-clause-served c = λ w.
    let request = c.args.request.now in
    let asked = c.in_ok-asked.asked in
    let code = c.in_ok-join.field-0 in
    let gs = c.args.groups.now in
    let n = request.connection in
    let body = join_refusal (code_of code) asked.member_id in
    let id : to_z w32 (of_z w32 request.correlation_id) ≡ request.correlation_id = search rules in
    let number : to_z w16 (of_z w16 c.code-error.result) ≡ code_of code = search rules in
    let refused : is_accepted code ≡ false = search rules in
    let member : c.as_bytes.result.now ≡ asked.member_id = search rules in
    let written : c.put_join_refusal.new.sink.bytes ≡ begun request.correlation_id ++ body =
    c.in_ok-put_join_refusal.ensures ∙ (λ k. (c.in_ok-sink.ensures ∙ ap begun id) k ++ join_refusal (number k) (member k)) in
    was_read request.correlation_id w w gs c.join.new.self (whole join_group_request request.body.now) asked (of_join w c.args.clock n gs) (answers.Plain c.finish.result) c.in_ok-asked.ensures.exact
    (joined request.correlation_id w c.args.clock n gs c.silence.new.self c.join.new.self asked code false (answers.Plain c.finish.result) c.silence.ensures c.in_ok-join.ensures.code c.in_ok-join.ensures.after refused
    (c.finish.ensures request.correlation_id body written))

pub returns-clause-groups : goal.returns-clause-groups
returns-clause-groups c = λ w.
    let asked = c.in_ok-asked.asked in
    let gs = c.args.groups.now in
    let n = c.args.request.now.connection in
    c.in_ok-join.ensures.after
    ∙ ap (after_join c.args.clock n asked) c.silence.ensures
    ∙ ap (λ r. (if_read w gs r (of_join w c.args.clock n gs)).groups) (sym c.in_ok-asked.ensures.exact)
