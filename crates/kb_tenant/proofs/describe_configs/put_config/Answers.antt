use Rattle.std.proofs.Common.{rules, ◌≡◌, ◌∙◌, ◌++◌, ap, lit≤, of_z, to_z, w64}
use Rattle.std.specs.Prelude.{pos, codes}
use Rattle.std.proofs.lemmas.Result.{on_ok_weaker}
use Rattle.kb_tenant.specs.DescribeConfigs.{answered, default_config, fixed, limit_setting, resource_as}
use Rattle.kb_topics.specs.declared.config.TopicConfig.{TopicConfig}
use Rattle.kb_tenant.proofs.Configs.{fixed_fits, limit_fits, limit_is, three_are, three_fit}
use Rattle.kb_tenant.proofs.describe_configs.put_config.Goals as goal

pub put_answered-requires-clause-fits : goal.put_answered-requires-clause-fits
put_answered-requires-clause-fits c =
    three_fit c.fixed.result c.limit_setting.result c.limit_setting-2.result
    (fixed_fits c.fixed.result (codes "cleanup.policy") (codes "delete") c.fixed.ensures (lit≤ tt) (lit≤ tt))
    (limit_fits c.limit_setting.result (codes "retention.bytes") _ _ c.limit_setting.ensures.exact (lit≤ tt) c.limit_setting.ensures.short)
    (limit_fits c.limit_setting-2.result (codes "retention.ms") _ _ c.limit_setting-2.ensures.exact (lit≤ tt) c.limit_setting-2.ensures.short)

pub returns : goal.returns
returns c = on_ok_weaker c.put_answered.result (λ told.
    let config = c.args.config in
    let default = c.default_config-default.result in
    let bytes : to_z w64 (of_z w64 config.retention_bytes) ≡ config.retention_bytes = search rules in
    let time : to_z w64 (of_z w64 config.retention_ms) ≡ config.retention_ms = search rules in
    let all : to_z w64 (of_z w64 default.retention_bytes) ≡ default.retention_bytes = search rules in
    let week : to_z w64 (of_z w64 default.retention_ms) ≡ default.retention_ms = search rules in
    told ∙ ap (λ ss. c.args.sink.now.bytes ++ resource_as c.args.old (answered (pos 0) c.args.resource.now ss))
    (three_are c.fixed.result c.limit_setting.result c.limit_setting-2.result (fixed (codes "cleanup.policy") (codes "delete"))
    (limit_setting (codes "retention.bytes") config.retention_bytes default_config.retention_bytes) (limit_setting (codes "retention.ms") config.retention_ms default_config.retention_ms)
    c.fixed.ensures
    (limit_is c.limit_setting.result (codes "retention.bytes") _ config.retention_bytes _ default_config.retention_bytes bytes (all ∙ ap (λ (x : TopicConfig). x.retention_bytes) c.default_config-default.ensures) c.limit_setting.ensures.exact)
    (limit_is c.limit_setting-2.result (codes "retention.ms") _ config.retention_ms _ default_config.retention_ms time (week ∙ ap (λ (x : TopicConfig). x.retention_ms) c.default_config-default.ensures) c.limit_setting-2.ensures.exact))) c.put_answered.ensures
