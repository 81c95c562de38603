use Rattle.std.proofs.Common.{◌≡◌, ◌+◌, ◌++◌, length, take, vec_len, vec_capacity}
use Rattle.std.specs.Prelude.{map}
use Rattle.kb_isolation_spec.specs.Machine.{sent}
use Rattle.kb_broker.specs.Runs.{sent_of}
use Rattle.kb_broker.proofs.RunDrain.{drained_to}
use Rattle.kb_broker.proofs.broker.Broker.drain.Given as goal

-- the output of the first of them was taken
abbrev pub invariant-loop-i : goal.invariant-loop-i
invariant-loop-i g l = record {
  end : l.i-end ≡ length l.fn.self.state.lines;
  state : l.self ≡ record l.fn.self { state = drained_to l.i l.fn.self.state };
  written : map sent_of l.written.items ≡ map sent_of l.fn.written.items ++ map sent (take l.i l.fn.self.state.lines);
  len : vec_len l.written ≡ vec_len l.fn.written + l.i;
  capacity : vec_capacity l.written ≡ vec_capacity l.fn.written;
}
