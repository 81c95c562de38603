use Rattle.std.proofs.Common.{rules, ◌≡◌, ◌∙◌, ◌++◌, ap, map, of_z, subst, sym, to_z, w16}
use Rattle.std.specs.Prelude.{pos}
use Rattle.std.proofs.lemmas.Result.{on_ok_weaker}
use Rattle.kb_wire.specs.Codec.{array, int32}
use Rattle.kb_api_data.specs.Layouts.{config_resource}
use Rattle.kb_tenant.specs.DescribeConfigs.{configs_as, configs_of, described, is_old, resources_until}
use Rattle.kb_tenant.specs.Replies.{AreUntil}
use Rattle.kb_tenant_state.specs.Parts.{world_of}
use Rattle.kb_tenant.proofs.Configs.{configs_until_all, resources_fit}
use Rattle.kb_tenant.proofs.describe_configs.describe_configs.Goals as goal

pub put_resources-requires : goal.put_resources-requires
put_resources-requires g c = subst (array config_resource).Fits (sym c.as_slice.ensures) (resources_fit c.args.request.now c.requires)

pub returns-clause-exact : goal.returns-clause-exact
returns-clause-exact g c files = on_ok_weaker c.put_resources.result (λ told.
    let ts = (world_of g.L.PartitionLog.log c.args.parts.now files).known.topics in
    let same : to_z w16 (of_z w16 c.args.version) ≡ c.args.version = search rules in
    told ∙ ap (λ rs. resources_until c.args.most c.is_old-old.result c.put_i32.new.self.bytes (map (described ts) rs)) c.as_slice.ensures
    ∙ ap (λ s. resources_until c.args.most c.is_old-old.result s (configs_of ts c.args.request.now)) c.in_ok-put_i32.ensures.ok
    ∙ ap (λ b. resources_until c.args.most b (c.args.sink.now.bytes ++ int32.written (pos 0)) (configs_of ts c.args.request.now)) (c.is_old-old.ensures ∙ ap is_old same))
    (c.put_resources.ensures files)

pub returns-clause-whole : goal.returns-clause-whole
returns-clause-whole g c files = on_ok_weaker c.put_resources.result (λ made.
    let ds = configs_of (world_of g.L.PartitionLog.log c.args.parts.now files).known.topics c.args.request.now in
    subst (λ s. AreUntil c.args.most (c.args.sink.now.bytes ++ configs_as (is_old c.args.version) ds) s) (sym made) (configs_until_all c.args.most (is_old c.args.version) c.args.sink.now.bytes ds))
    (returns-clause-exact g c files)
