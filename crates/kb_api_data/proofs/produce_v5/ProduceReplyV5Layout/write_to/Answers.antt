use Rattle.kb_wire.specs.Sunk.{adds_both, adds_stop}
use Rattle.kb_api_data.specs.ProduceV5.{produce_reply_v5}
use Rattle.kb_api_data.proofs.produce_v5.ProduceReplyV5Layout.write_to.Goals as goal

pub returns-in_err-write_to : goal.returns-in_err-write_to
unfolding produce_reply_v5
returns-in_err-write_to c = adds_stop _ c.in_err-write_to.ensures c.from_residual.ensures.0

pub returns : goal.returns
unfolding produce_reply_v5
returns c = adds_both c.in_ok-write_to.ensures c.write_to-2.ensures
