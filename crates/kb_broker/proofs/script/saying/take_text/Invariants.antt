use Rattle.std.proofs.Common.{◌≡◌, length, take}
use Rattle.kb_broker.specs.Script.{step_text}
use Rattle.kb_broker.specs.ScriptRun.{said_since}
use Rattle.kb_broker.proofs.RunDrain.{drained_to}
use Rattle.kb_broker.proofs.script.saying.take_text.Given as goal

-- the output of the first of them was taken, and is spelled
abbrev pub invariant-loop-i : goal.invariant-loop-i
invariant-loop-i g l = record {
  store : l.broker.store ≡ l.fn.broker.store;
  end : l.i-end ≡ length l.fn.broker.state.lines;
  state : l.broker.state ≡ drained_to l.i l.fn.broker.state;
  text : l.text.items ≡ step_text (said_since (take l.i l.were_shut) (take l.i l.fn.broker.state.lines));
}
