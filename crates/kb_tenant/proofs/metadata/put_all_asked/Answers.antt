use mir.Val.{to_z, of_z}
use Rattle.std.proofs.Common.{◌∙◌, ◌<◌, ◌≤◌, sym, ap, refl, subst, ◌++◌, length, map, drop, arith, w16, w32}
use Rattle.std.proofs.lemmas.Int.{to_z-of_z}
use Rattle.std.proofs.lemmas.List.{length-map}
use Rattle.kb_wire.specs.Codec.{string, count}
use Rattle.kb_topics.specs.Catalog.{known}
use Rattle.kb_tenant.specs.Metadata.{topic_asked, topic_in, topics_until}
use Rattle.kb_tenant.specs.Replies.{written_until}
use Rattle.kb_tenant.proofs.Fitting.{count_fits, item_fits}
use Rattle.kb_tenant.proofs.Until.{until_next, until_over, until_past}
use Rattle.kb_tenant.proofs.metadata.put_all_asked.Goals as goal

pub put_count-requires : goal.put_count-requires
put_count-requires g c = count_fits string c.args.names.now _ c.requires refl

pub put_asked-requires : goal.put_asked-requires
put_asked-requires g c = subst string.Fits (sym c.as_str.ensures) (item_fits string c.args.names.now c.loop-name.name-index c.name-item.result c.requires c.loop-name-test.true c.name-item.is)

pub loop-name-preserved : goal.loop-name-preserved
loop-name-preserved g c files =
    let f = topic_asked (known c.args.parts.now.catalog).topics in
    let write = topic_in (to_z w16 (of_z w16 c.args.version)) in
    let few : length c.loop-name.sink.bytes ≤ c.args.most = omega (arith, c.if-len-most.false, c.len.ensures) in
    until_next c.args.most write f c.loop-name.sink.bytes c.put_asked.new.sink.bytes c.args.names.now c.loop-name.name-index c.name-item.result few c.loop-name-test.true c.name-item.is
    (c.in_ok-put_asked.ensures files ∙ ap (λ n. c.loop-name.sink.bytes ++ write (f n)) c.as_str.ensures) ∙ c.loop-name.invariant files

pub returns-then-len-most : goal.returns-then-len-most
returns-then-len-most g c files =
    let f = topic_asked (known c.args.parts.now.catalog).topics in
    let write = topic_in (to_z w16 (of_z w16 c.args.version)) in
    let names = c.args.names.now in
    let old = c.args.sink.now.bytes in
    let many : c.args.most < length c.loop-name.sink.bytes = omega (arith, c.if-len-most.true, c.len.ensures) in
    sym (until_past c.args.most write c.loop-name.sink.bytes (map f (drop c.loop-name.name-index names)) many) ∙ c.loop-name.invariant files
    ∙ ap (λ s. written_until c.args.most write s (map f names)) (c.in_ok-put_count.ensures.ok ∙ ap (λ n. old ++ (count w32).written n) (sym (length-map names f)))
    ∙ ap (λ z. topics_until c.args.most z old (map f names)) (to_z-of_z w16 c.args.version c.ranges.version)

pub returns : goal.returns
returns g c files =
    let f = topic_asked (known c.args.parts.now.catalog).topics in
    let write = topic_in (to_z w16 (of_z w16 c.args.version)) in
    let names = c.args.names.now in
    let old = c.args.sink.now.bytes in
    sym (until_over c.args.most write f c.loop-name.sink.bytes names c.loop-name.name-index c.loop-name-test.false) ∙ c.loop-name.invariant files
    ∙ ap (λ s. written_until c.args.most write s (map f names)) (c.in_ok-put_count.ensures.ok ∙ ap (λ n. old ++ (count w32).written n) (sym (length-map names f)))
    ∙ ap (λ z. topics_until c.args.most z old (map f names)) (to_z-of_z w16 c.args.version c.ranges.version)
