use Rattle.std.proofs.Common.{◌≡◌, ◌-◌, take, length}
use Rattle.kb_client.specs.Lines.{with_at_most}
use Rattle.kb_client.proofs.found.Found.read_each.Given as goal

-- what the batches that are left come to is what all come to
abbrev pub invariant-loop-done : goal.invariant-loop-done
invariant-loop-done l = record {
  told : with_at_most (length l.fn.records - l.done) l.rest l.self ≡ with_at_most (length l.fn.records) l.fn.records l.initial.self;
  behind : take (length l.initial.self.text) l.self.text ≡ l.initial.self.text;
}
