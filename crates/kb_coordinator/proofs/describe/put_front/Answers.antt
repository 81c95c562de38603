use Rattle.std.proofs.Common.{pos}
use Rattle.std.proofs.lemmas.Result.{on_ok_weaker}
use Rattle.kb_coordinator.proofs.Told.{group_written}
use Rattle.kb_coordinator.proofs.describe.put_front.Goals as goal

pub returns : goal.returns
returns c members = on_ok_weaker c.put_text-4.result (λ last.
    group_written (pos 0) c.args.id.now c.args.state.now c.args.protocol_type.now c.args.protocol.now members c.args.sink.now.bytes c.put_i16.new.self.bytes c.put_text.new.sink.bytes c.put_text-2.new.sink.bytes c.put_text-3.new.sink.bytes c.put_text-4.new.sink.bytes
    c.in_ok-put_i16.ensures.ok c.in_ok-put_text.ensures c.in_ok-put_text-2.ensures c.in_ok-put_text-3.ensures last) c.put_text-4.ensures
