use Rattle.std.proofs.Common.{◌≡◌, ◌++◌, ℕ, List, map}
use Rattle.kb_operator.specs.Found.{nobody_line}
use Rattle.kb_operator.specs.Logged.{TellsTexts}
use Rattle.kb_operator.proofs.journal.found.tell_of_nobody.Given as goal

-- the lines so far, and those that are left
abbrev pub invariant-loop-tenant : goal.invariant-loop-tenant
invariant-loop-tenant g l = record {
  told : List (List ℕ);
  are : TellsTexts l.now told (g.T.LineLog.logged l.fn.lines) (g.T.LineLog.logged l.lines);
  rest : told ++ map nobody_line l.tenant-iterator ≡ map nobody_line l.initial.tenant-iterator;
}
