use Rattle.std.proofs.Common.{◌≡◌, [], map, replicate}
use Rattle.kb_shares.proofs.turns.empty_lines.Given as goal

abbrev pub invariant-loop-made : goal.invariant-loop-made
invariant-loop-made l = map (λ m. m.items) l.lines.items ≡ replicate l.made []
