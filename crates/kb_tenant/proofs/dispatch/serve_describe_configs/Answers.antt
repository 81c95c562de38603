use Rattle.std.proofs.Common.{rules, ◌≡◌, ◌∙◌, ◌++◌, [], Ok, sym, ap, refl, subst, to_z, of_z}
use Rattle.std.specs.Int.{w16, w32}
use Rattle.kb_tenant_state.specs.Parts.{world_of}
use Rattle.kb_tenant.specs.DescribeConfigs.{asked_configs, configs_in, configs_of}
use Rattle.kb_tenant.specs.Entries.{describe_configs_entries, within}
use Rattle.kb_tenant.specs.Replies.{begun, AreUntil}
use Rattle.kb_tenant.specs.Serve.{if_read, of_describe_configs, IsServed}
use Rattle.kb_tenant.proofs.dispatch.serve_describe_configs.Goals as goal

pub returns : goal.returns
returns g c = λ files.
    let w = world_of g.L.PartitionLog.log c.args.parts.now files in
    let version = c.args.request.now.api_version in
    let limits = c.args.limits in
    let described = configs_of w.known.topics c.in_ok-asked.asked in
    let body = configs_in version described in
    let id : to_z w32 (of_z w32 c.args.request.now.correlation_id) ≡ c.args.request.now.correlation_id = search rules in
    let same : to_z w16 (of_z w16 version) ≡ version = search rules in
    let asked : within limits.request_entries describe_configs_entries (asked_configs version c.args.request.now.body.now) ≡ Ok c.in_ok-asked.asked =
    ap (λ v. within limits.request_entries describe_configs_entries (asked_configs v c.args.request.now.body.now)) (sym same) ∙ c.in_ok-asked.ensures.exact in
    let limit = limits.reply_bytes in
    let made = c.describe_configs.new.sink.bytes in
    let all : c.in_ok-sink.sink.bytes ++ configs_in (to_z w16 (of_z w16 version)) described ≡ begun c.args.request.now.correlation_id ++ body =
    ap (λ v. c.in_ok-sink.sink.bytes ++ configs_in v described) same ∙ ap (λ s. s ++ body) (c.in_ok-sink.ensures ∙ ap begun id) in
    subst (λ r. IsServed c.args.request.now.correlation_id (if_read w r (of_describe_configs limit version w)) w [] (Ok c.finish_within.result)) (sym asked) (
      refl,
      refl,
      c.finish_within.ensures c.args.request.now.correlation_id body
          (subst (λ m. AreUntil m (begun c.args.request.now.correlation_id ++ body) made) c.most_bytes-most.ensures (subst (λ x. AreUntil c.most_bytes-most.result x made) all (c.in_ok-describe_configs.ensures.whole files))),
    )
