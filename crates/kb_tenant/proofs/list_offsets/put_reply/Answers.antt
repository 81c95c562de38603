use Rattle.std.proofs.Common.{refl}
use Rattle.std.proofs.lemmas.Result.{on_ok_weaker}
use Rattle.kb_wire.specs.Codec.{int}
use Rattle.kb_api_data.specs.Layouts.{list_offsets_partition_reply}
use Rattle.kb_tenant.proofs.Offsets.{answer_written}
use Rattle.kb_tenant.proofs.list_offsets.put_reply.Goals as goal

pub write-requires : goal.write-requires
unfolding list_offsets_partition_reply int
write-requires c = λ k. ((refl, tt), (tt, (tt, (tt, tt))))

pub returns : goal.returns
returns c = on_ok_weaker c.put_epoch.result (λ last.
    answer_written c.args.has_epochs c.args.reply.now c.args.sink.now.bytes c.write.new.sink.bytes c.put_epoch.new.sink.bytes c.in_ok-write.ensures.ok last) c.put_epoch.ensures
