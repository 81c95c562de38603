use Rattle.std.proofs.Common.{◌≡◌, ◌++◌, take, drop, length}
use Rattle.std.specs.List.{flat_map}
use Rattle.kb_client.specs.Lines.{line_text}
use Rattle.kb_client.proofs.found.push_lines.Given as goal

-- what is added and what is left to add are all
abbrev pub invariant-loop-record : goal.invariant-loop-record
invariant-loop-record l = record {
  told : l.text.items ++ flat_map line_text (take l.given (drop l.skipped l.record-iterator)) ≡ l.initial.text.items ++ flat_map line_text (take l.initial.given (drop l.initial.skipped l.fn.records));
  behind : take (length l.initial.text.items) l.text.items ≡ l.initial.text.items;
}
