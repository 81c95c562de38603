use Rattle.std.proofs.Common.{◌∙◌, ap, sym, subst}
use Rattle.std.proofs.lemmas.Result.{on_ok_weaker}
use Rattle.kb_wire.specs.Codec.{int32, string}
use Rattle.kb_api_group.specs.Layouts.{offset_fetch_topic}
use Rattle.kb_topics.specs.Known.{named}
use Rattle.kb_tenant_state.specs.Parts.{world_of}
use Rattle.kb_tenant_state.specs.World.{World}
use Rattle.kb_tenant.proofs.Fitting.{count_fits}
use Rattle.kb_tenant.proofs.OffsetsKept.{topic_written}
use Rattle.kb_tenant.proofs.offset_fetch.fetch_topic.Goals as goal

pub put_string-requires : goal.put_string-requires
unfolding offset_fetch_topic
put_string-requires g c = subst string.Fits (sym c.as_str.ensures) c.requires.0

pub put_count-requires : goal.put_count-requires
unfolding offset_fetch_topic
put_count-requires g c = count_fits int32 c.args.topic.now.partitions c.len.result c.requires.1 c.len.ensures

pub returns : goal.returns
returns g c files = on_ok_weaker c.fetch_partitions.result (λ told.
    let w : World = world_of g.L.PartitionLog.log c.args.parts.now files in
    topic_written c.args.has_epochs w c.args.group.now c.args.topic.now c.as_str.result.now c.len.result c.topic_named-instance.result c.as_slice-partitions.result.now c.args.sink.now.bytes c.put_string.new.self.bytes c.put_count.new.self.bytes c.fetch_partitions.new.sink.bytes
    c.as_str.ensures c.len.ensures (c.topic_named-instance.ensures files ∙ ap (λ m. named m w.known.topics) c.as_str-2.ensures) c.as_slice-partitions.ensures c.in_ok-put_string.ensures.ok c.in_ok-put_count.ensures.ok told) (c.fetch_partitions.ensures files)
