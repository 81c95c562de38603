use Rattle.std.proofs.Common.{◌∙◌, ◌++◌, ◌<◌, ◌^◌, ap, arith, length, w16}
use Rattle.std.proofs.lemmas.Int.{to_z_pos}
use Rattle.std.proofs.lemmas.Result.{on_ok_weaker}
use Rattle.kb_wire.specs.Codec.{int16}
use Rattle.kb_coordinator.proofs.Written.{text_written}
use Rattle.kb_coordinator.proofs.replies.put_text.Goals as goal

pub returns : goal.returns
returns c =
    let small : length c.args.text.now < 2 ^ 15 = omega (arith, c.if-text.false) in
    on_ok_weaker c.put_bytes.result (λ last. text_written c.args.text.now c.args.sink.now.bytes c.put_i16.new.self.bytes c.put_bytes.new.self.bytes
    (c.in_ok-put_i16.ensures.ok ∙ ap (λ z. c.args.sink.now.bytes ++ int16.written z) (to_z_pos w16 (length c.args.text.now) small)) last) c.put_bytes.ensures.ok
