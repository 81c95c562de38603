use Rattle.std.proofs.Common.{◌∙◌, ◌++◌, ap, w16, w32}
use Rattle.std.proofs.lemmas.Int.{to_z-of_z}
use Rattle.std.proofs.lemmas.Result.{on_ok_weaker}
use Rattle.kb_wire.specs.Codec.{int16, int32}
use Rattle.kb_coordinator.proofs.Written.{front_written}
use Rattle.kb_coordinator.proofs.replies.put_join_front.Goals as goal

pub returns : goal.returns
returns c members = on_ok_weaker c.put_text-3.result (λ last.
    front_written c.args.error_code c.args.generation c.args.protocol.now c.args.leader.now c.args.member.now members c.args.sink.now.bytes c.put_i16.new.self.bytes c.put_i32.new.self.bytes c.put_text.new.sink.bytes c.put_text-2.new.sink.bytes c.put_text-3.new.sink.bytes
    (c.in_ok-put_i16.ensures.ok ∙ ap (λ z. c.args.sink.now.bytes ++ int16.written z) (to_z-of_z w16 c.args.error_code c.ranges.error_code))
    (c.in_ok-put_i32.ensures.ok ∙ ap (λ z. c.put_i16.new.self.bytes ++ int32.written z) (to_z-of_z w32 c.args.generation c.ranges.generation))
    c.in_ok-put_text.ensures c.in_ok-put_text-2.ensures last) c.put_text-3.ensures
