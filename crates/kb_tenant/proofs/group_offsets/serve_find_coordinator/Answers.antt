use Rattle.std.proofs.Common.{rules, ◌≡◌, ◌∙◌, ◌++◌, [], Bool, Ok, sym, ap, refl, subst}
use Rattle.kb_tenant.specs.FindCoordinator.{asked_coordinator, coordinator_as, coordinator_for, coordinator_in, has_key_type, is_group_as}
use Rattle.kb_tenant.specs.Replies.{begun}
use Rattle.kb_tenant.specs.Serve.{if_read, of_find_coordinator, IsServed}
use Rattle.kb_tenant.proofs.group_offsets.serve_find_coordinator.Goals as goal

pub returns : goal.returns
returns c = λ w.
    let id = c.args.request.now.correlation_id in
    let version = c.args.request.now.api_version in
    let body = c.args.request.now.body.now in
    let is_group = c.in_ok-is_group.is_group in
    let reply = coordinator_for c.args.node.now is_group in
    let has : Bool = c.has_key_type-has_key_type.result in
    let same : has ≡ has_key_type version = search rules in
    let from : c.in_ok-sink.sink.bytes ≡ begun id = search rules in
    let read : asked_coordinator version body ≡ Ok is_group = ap (λ b. is_group_as b body) (sym same) ∙ c.in_ok-is_group.ensures in
    subst (λ r. IsServed id (if_read w r (of_find_coordinator c.args.node.now version w)) w [] (Ok c.finish.result)) (sym read) (
      refl,
      refl,
      c.finish.ensures id (coordinator_in version reply) (c.in_ok-find_coordinator.ensures
          ∙ ap (λ s. s ++ coordinator_as has reply) from ∙ ap (λ b. begun id ++ coordinator_as b reply) same),
    )
