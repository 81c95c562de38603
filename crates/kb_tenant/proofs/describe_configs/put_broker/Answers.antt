use Rattle.std.proofs.Common.{rules, ◌≡◌, ◌∙◌, ◌++◌, ap, lit≤, of_z, to_z, w64}
use Rattle.std.specs.Prelude.{pos, codes}
use Rattle.std.specs.Fmt.{signed_decimal}
use Rattle.std.proofs.lemmas.Result.{on_ok_weaker}
use Rattle.kb_tenant.specs.DescribeConfigs.{answered, default_config, fixed, resource_as}
use Rattle.kb_topics.specs.declared.config.TopicConfig.{TopicConfig}
use Rattle.kb_tenant.proofs.Configs.{fixed_fits, six_are, six_fit}
use Rattle.kb_tenant.proofs.describe_configs.put_broker.Goals as goal

pub put_answered-requires-clause-fits : goal.put_answered-requires-clause-fits
put_answered-requires-clause-fits c =
    six_fit c.fixed.result c.fixed-2.result c.fixed-3.result c.fixed-4.result c.fixed-5.result c.fixed-6.result
    (fixed_fits c.fixed.result (codes "auto.create.topics.enable") (codes "false") c.fixed.ensures (lit≤ tt) (lit≤ tt))
    (fixed_fits c.fixed-2.result (codes "broker.id") (codes "0") c.fixed-2.ensures (lit≤ tt) (lit≤ tt))
    (fixed_fits c.fixed-3.result (codes "default.replication.factor") (codes "1") c.fixed-3.ensures (lit≤ tt) (lit≤ tt))
    (fixed_fits c.fixed-4.result (codes "log.cleanup.policy") (codes "delete") c.fixed-4.ensures (lit≤ tt) (lit≤ tt))
    (fixed_fits c.fixed-5.result (codes "log.retention.bytes") c.format.result.now c.fixed-5.ensures (lit≤ tt) c.format.ensures.short)
    (fixed_fits c.fixed-6.result (codes "log.retention.ms") c.format-2.result.now c.fixed-6.ensures (lit≤ tt) c.format-2.ensures.short)

pub returns : goal.returns
returns c = on_ok_weaker c.put_answered.result (λ told.
    let default = c.default_config-default.result in
    let all : to_z w64 (of_z w64 default.retention_bytes) ≡ default.retention_bytes = search rules in
    let week : to_z w64 (of_z w64 default.retention_ms) ≡ default.retention_ms = search rules in
    told ∙ ap (λ ss. c.args.sink.now.bytes ++ resource_as c.args.old (answered (pos 0) c.args.resource.now ss))
    (six_are c.fixed.result c.fixed-2.result c.fixed-3.result c.fixed-4.result c.fixed-5.result c.fixed-6.result
    (fixed (codes "auto.create.topics.enable") (codes "false")) (fixed (codes "broker.id") (codes "0")) (fixed (codes "default.replication.factor") (codes "1")) (fixed (codes "log.cleanup.policy") (codes "delete"))
    (fixed (codes "log.retention.bytes") (signed_decimal default_config.retention_bytes)) (fixed (codes "log.retention.ms") (signed_decimal default_config.retention_ms))
    c.fixed.ensures c.fixed-2.ensures c.fixed-3.ensures c.fixed-4.ensures
    (c.fixed-5.ensures ∙ ap (fixed (codes "log.retention.bytes")) (c.format.ensures.text ∙ ap signed_decimal (all ∙ ap (λ (x : TopicConfig). x.retention_bytes) c.default_config-default.ensures)))
    (c.fixed-6.ensures ∙ ap (fixed (codes "log.retention.ms")) (c.format-2.ensures.text ∙ ap signed_decimal (week ∙ ap (λ (x : TopicConfig). x.retention_ms) c.default_config-default.ensures))))) c.put_answered.ensures
