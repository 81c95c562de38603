use Rattle.std.proofs.Common.{rules, ◌≡◌, ◌∙◌, refl, ap, subst, sym, to_z, of_z, w32}
use Rattle.kb_wire.specs.Codec.{whole}
use Rattle.kb_api_group.specs.Layouts.{sync_group_request}
use Rattle.kb_coordinator.specs.Calls.{after_sync, sync_answer}
use Rattle.kb_tenant.specs.Replies.{begun}
use Rattle.kb_tenant_api.specs.Replies.{IsAnswer}
use Rattle.kb_tenant_api.specs.Serve.{if_read, of_sync, sync_reaction}
use Rattle.kb_tenant_api.proofs.Joining.{groups_made, was_read}
use Rattle.kb_tenant_api.proofs.WaitersServed.{any_told, sync_any, sync_waits_told}
use Rattle.kb_tenant_api.proofs.members.sync_group.Goals as goal

pub returns-in_err-sync_answer-clause-waits : goal.returns-in_err-sync_answer-clause-waits
returns-in_err-sync_answer-clause-waits c =
    let n = c.args.request.now.connection in
    let gs = c.args.groups.now in
    any_told n gs c.sync.new.self c.from_residual-in_err-sync_answer.result
    (sync_waits_told n c.args.clock gs c.silence.new.self c.sync.new.self c.in_ok-asked.asked c.in_ok-answer.answer c.silence.ensures c.in_ok-answer.ensures.after c.in_ok-answer.ensures.answer
    (λ e. let no = c.in_err-sync_answer.ensures.waits e in absurd (cc)))

pub returns-clause-waits : goal.returns-clause-waits
returns-clause-waits c =
    sync_any c.args.request.now.connection c.args.clock c.args.groups.now c.silence.new.self c.sync.new.self c.in_ok-asked.asked c.in_ok-answer.answer c.in_ok-sync_answer.field-0 c.silence.ensures c.in_ok-answer.ensures.after c.in_ok-answer.ensures.answer
    (λ e. let is = c.in_ok-sync_answer.ensures.waits e in cc)

pub returns-in_err-sync_answer-clause-groups : goal.returns-in_err-sync_answer-clause-groups
returns-in_err-sync_answer-clause-groups c = λ w.
    let asked = c.in_ok-asked.asked in
    let gs = c.args.groups.now in
    let n = c.args.request.now.connection in
    groups_made gs (if_read w gs (whole sync_group_request c.args.request.now.body.now) (of_sync w c.args.clock n gs)).groups c.sync.new.self c.from_residual-in_err-sync_answer.result
    (c.in_ok-answer.ensures.after
    ∙ ap (after_sync c.args.clock n asked) c.silence.ensures
    ∙ ap (λ r. (if_read w gs r (of_sync w c.args.clock n gs)).groups) (sym c.in_ok-asked.ensures.exact))

pub returns-clause-groups : goal.returns-clause-groups
returns-clause-groups c = λ w.
    let asked = c.in_ok-asked.asked in
    let gs = c.args.groups.now in
    let n = c.args.request.now.connection in
    c.in_ok-answer.ensures.after
    ∙ ap (after_sync c.args.clock n asked) c.silence.ensures
    ∙ ap (λ r. (if_read w gs r (of_sync w c.args.clock n gs)).groups) (sym c.in_ok-asked.ensures.exact)

pub returns-clause-served : goal.returns-clause-served
returns-clause-served c = λ w.
    let request = c.args.request.now in
    let asked = c.in_ok-asked.asked in
    let gs = c.args.groups.now in
    let n = request.connection in
    let id : to_z w32 (of_z w32 request.correlation_id) ≡ request.correlation_id = search rules in
    let told : IsAnswer request.correlation_id (sync_reaction c.in_ok-answer.answer) c.in_ok-sync_answer.field-0 = c.in_ok-sync_answer.ensures.answer request.correlation_id (c.in_ok-sink.ensures ∙ ap begun id) in
    let says = c.in_ok-answer.ensures.answer ∙ ap (sync_answer c.args.clock n asked) c.silence.ensures in
    was_read request.correlation_id w w gs c.sync.new.self (whole sync_group_request request.body.now) asked (of_sync w c.args.clock n gs) c.in_ok-sync_answer.field-0 c.in_ok-asked.ensures.exact (
      refl,
      c.in_ok-answer.ensures.after ∙ ap (after_sync c.args.clock n asked) c.silence.ensures,
      refl,
      subst (λ a. IsAnswer request.correlation_id (sync_reaction a) c.in_ok-sync_answer.field-0) says told,
    )
