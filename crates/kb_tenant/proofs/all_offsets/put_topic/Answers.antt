use Rattle.std.proofs.Common.{◌≡◌, ◌∙◌, ◌<◌, ◌^◌, ◌++◌, sym, ap, subst, length, arith}
use Rattle.std.specs.List.{flat_map}
use Rattle.std.proofs.lemmas.List.{append-nil}
use Rattle.std.proofs.lemmas.Result.{on_ok_weaker}
use Rattle.kb_wire.specs.Codec.{string}
use Rattle.kb_wire.specs.Fits.{string_fits}
use Rattle.kb_tenant_state.specs.Parts.{world_of}
use Rattle.kb_tenant.specs.OffsetFetch.{partition_reply, told_in, topic_reply}
use Rattle.kb_tenant.proofs.AllOffsets.{topic_none, topic_written}
use Rattle.kb_tenant.proofs.Fitting.{small_count}
use Rattle.kb_tenant.proofs.all_offsets.put_topic.Goals as goal

pub put_string-requires : goal.put_string-requires
put_string-requires g c =
    let small : length c.name.result.now < 2 ^ 15 = omega (arith, c.if-name.false) in
    string_fits c.name-2.result.now (subst (λ n. length n < 2 ^ 15) (c.name.ensures ∙ sym c.name-2.ensures) small)

pub put_count-requires : goal.put_count-requires
put_count-requires g c = small_count c.count_in-count.result (omega (arith, c.count_in-count.ensures.few, c.if-partitions.false))

pub returns-then-count-eq0 : goal.returns-then-count-eq0
returns-then-count-eq0 g c files =
    let w = world_of g.L.PartitionLog.log c.args.parts.now files in
    let t = c.args.topic.now in
    let xs = told_in w c.args.group.now c.args.instance (length t.partitions) in
    let old = c.args.sink.now.bytes in
    let is : c.count_in-count.result ≡ length xs = c.count_in-count.ensures.exact files ∙ ap (λ ps. length (told_in w c.args.group.now c.args.instance (length ps))) c.partitions-partitions.ensures in
    sym (append-nil old) ∙ ap (λ l. old ++ flat_map (topic_reply c.args.has_epochs).written l) (sym (topic_none t.name xs (sym is ∙ c.if-count-eq0.true)))

pub returns : goal.returns
returns g c files =
    let w = world_of g.L.PartitionLog.log c.args.parts.now files in
    let t = c.args.topic.now in
    let xs = told_in w c.args.group.now c.args.instance (length t.partitions) in
    let old = c.args.sink.now.bytes in
    let middle = c.put_count.new.self.bytes in
    let is : c.count_in-count.result ≡ length xs = c.count_in-count.ensures.exact files ∙ ap (λ ps. length (told_in w c.args.group.now c.args.instance (length ps))) c.partitions-partitions.ensures in
    on_ok_weaker c.put_in.result (λ told. topic_written c.args.has_epochs t.name xs c.count_in-count.result old c.put_string.new.self.bytes middle c.put_in.new.sink.bytes is c.if-count-eq0.false
    (c.in_ok-put_string.ensures.ok ∙ ap (λ m. old ++ string.written m) c.name-2.ensures) c.in_ok-put_count.ensures.ok
    (told ∙ ap (λ ps. middle ++ flat_map (partition_reply c.args.has_epochs).written (told_in w c.args.group.now c.args.instance (length ps))) c.partitions-partitions.ensures)) (c.put_in.ensures files)
