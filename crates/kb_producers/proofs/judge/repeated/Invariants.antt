use Rattle.std.proofs.Common.{◌≡◌, drop}
use Rattle.std.specs.List.{find}
use Rattle.kb_producers.specs.Verdict.{is_repeat}
use Rattle.kb_producers.proofs.judge.repeated.Given as goal

abbrev pub invariant-loop-kept : goal.invariant-loop-kept
invariant-loop-kept l = find (is_repeat l.batch) (drop l.kept-index l.recent) ≡ find (is_repeat l.batch) l.recent
