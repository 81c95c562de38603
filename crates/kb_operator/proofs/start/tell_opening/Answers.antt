use Rattle.std.proofs.Common.{◌++◌, ℕ, List, map, string_bytes}
use Rattle.kb_operator.specs.Found.{stray_lines}
use Rattle.kb_operator.specs.Report.{kept_if, kept_parts}
use Rattle.kb_operator.proofs.Speaks.{announces_both}
use Rattle.kb_operator.proofs.start.tell_opening.Goals as goal

pub returns : goal.returns
returns g c =
    let old = c.args.journal.now in
    let a = c.tell_dropped.new.self in
    let b = c.tell_kept.new.journal in
    let new = c.tell_strays.new.self in
    let dropped : List (List ℕ) = map (λ text. string_bytes text) c.args.dropped.items in
    let kept = kept_if c.args.aside (kept_parts c.args.kept) in
    let strays = stray_lines c.args.surveyed.now.strays in
    announces_both g.T.LineLog.logged c.args.now (dropped ++ kept) strays old b new
    (announces_both g.T.LineLog.logged c.args.now dropped kept old a b c.tell_dropped.ensures c.tell_kept.ensures) c.tell_strays.ensures
