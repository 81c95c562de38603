-- The line is what was taken, no line feed among it, and it is no longer than a line may be.
use Rattle.std.proofs.Common.{◌≢◌, ◌≤◌, All, vec_len}
use Rattle.std.specs.Io.KnownBytes.{Consumes}
use Rattle.kb_broker.specs.declared.script.reading.TheConstants.{LINE_BYTES}
use Rattle.kb_broker.proofs.script.reading.next_line.Given as goal

abbrev pub invariant-loop : goal.invariant-loop
invariant-loop g l = record {
  in_line : vec_len l.line ≤ LINE_BYTES;
  in_room : vec_len l.line ≤ l.room;
  none : All (λ x. x ≢ 10) l.line.items;
  taken : Consumes (g.R.Read.remaining l.initial.reader) (g.R.Read.remaining l.reader) l.line.items;
}
