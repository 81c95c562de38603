use Rattle.std.proofs.Common.{◌∙◌, ◌<◌, ◌≤◌, sym, ap, refl, ◌++◌, length, map, drop, arith, w32}
use Rattle.std.proofs.lemmas.List.{length-map}
use Rattle.kb_wire.specs.Codec.{count}
use Rattle.kb_api_data.specs.Layouts.{config_resource}
use Rattle.kb_topics.specs.Catalog.{known}
use Rattle.kb_tenant.specs.DescribeConfigs.{described, resource_as}
use Rattle.kb_tenant.specs.Replies.{written_until}
use Rattle.kb_tenant.proofs.Configs.{resource_name_fits}
use Rattle.kb_tenant.proofs.Fitting.{count_fits, item_fits}
use Rattle.kb_tenant.proofs.Until.{until_next, until_over, until_past}
use Rattle.kb_tenant.proofs.describe_configs.put_resources.Goals as goal

pub put_count-requires : goal.put_count-requires
put_count-requires g c = count_fits config_resource c.args.resources.now _ c.requires refl

pub put_resource-requires : goal.put_resource-requires
put_resource-requires g c = resource_name_fits c.resource-item.result (item_fits config_resource c.args.resources.now c.loop-resource.resource-index c.resource-item.result c.requires c.loop-resource-test.true c.resource-item.is)

pub loop-resource-preserved : goal.loop-resource-preserved
loop-resource-preserved g c files =
    let f = described (known c.args.parts.now.catalog).topics in
    let few : length c.loop-resource.sink.bytes ≤ c.args.most = omega (arith, c.if-len-most.false, c.len.ensures) in
    until_next c.args.most (resource_as c.args.old) f c.loop-resource.sink.bytes c.put_resource.new.sink.bytes c.args.resources.now c.loop-resource.resource-index c.resource-item.result few c.loop-resource-test.true c.resource-item.is
    (c.in_ok-put_resource.ensures files) ∙ c.loop-resource.invariant files

pub returns-then-len-most : goal.returns-then-len-most
returns-then-len-most g c files =
    let f = described (known c.args.parts.now.catalog).topics in
    let write = resource_as c.args.old in
    let rs = c.args.resources.now in
    let old = c.args.sink.now.bytes in
    let many : c.args.most < length c.loop-resource.sink.bytes = omega (arith, c.if-len-most.true, c.len.ensures) in
    sym (until_past c.args.most write c.loop-resource.sink.bytes (map f (drop c.loop-resource.resource-index rs)) many) ∙ c.loop-resource.invariant files
    ∙ ap (λ s. written_until c.args.most write s (map f rs)) (c.in_ok-put_count.ensures.ok ∙ ap (λ n. old ++ (count w32).written n) (sym (length-map rs f)))

pub returns : goal.returns
returns g c files =
    let f = described (known c.args.parts.now.catalog).topics in
    let write = resource_as c.args.old in
    let rs = c.args.resources.now in
    let old = c.args.sink.now.bytes in
    sym (until_over c.args.most write f c.loop-resource.sink.bytes rs c.loop-resource.resource-index c.loop-resource-test.false) ∙ c.loop-resource.invariant files
    ∙ ap (λ s. written_until c.args.most write s (map f rs)) (c.in_ok-put_count.ensures.ok ∙ ap (λ n. old ++ (count w32).written n) (sym (length-map rs f)))
