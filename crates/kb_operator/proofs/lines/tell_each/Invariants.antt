use Rattle.std.proofs.Common.{◌≡◌, ◌++◌, length}
use Rattle.std.specs.Vec.Iter.{into_iter_items, into_iter_len}
use Rattle.kb_operator.specs.Logged.{Grows, lines_at}
use Rattle.kb_operator.specs.Report.{bytes_of_each}
use Rattle.kb_operator.proofs.lines.tell_each.Given as goal

-- the texts so far are told, and the others are left
abbrev pub invariant-loop-text : goal.invariant-loop-text
invariant-loop-text g l =
    record {
      all : l.yielded ++ into_iter_items l.text-iterator ≡ into_iter_items l.initial.text-iterator;
      told : Grows (g.T.LineLog.logged l.fn.lines) (g.T.LineLog.logged l.lines) (lines_at l.now (bytes_of_each l.yielded));
      left : into_iter_len l.text-iterator ≡ length (into_iter_items l.text-iterator);
    }
