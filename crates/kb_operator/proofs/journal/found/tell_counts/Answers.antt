use Rattle.std.proofs.Common.{◌++◌, [], ℕ, List, codes, map}
use Rattle.kb_operator.specs.Found.{count_text, nobody_line}
use Rattle.kb_operator.specs.Logged.{texts_of}
use Rattle.kb_operator.proofs.Logged.{tells_both}
use Rattle.kb_operator.proofs.journal.found.tell_counts.Goals as goal

pub returns : goal.returns
returns g c =
    let strays = c.args.strays.now in
    let now = c.args.now in
    let nobody : List (List ℕ) = map nobody_line strays.of_nobody.entries in
    let short = count_text (codes "stray files that are shorter than a header: ") strays.short [] in
    let unreadable = count_text (codes "stray files whose header cannot be read: ") strays.unreadable [] in
    let unfinished = count_text (codes "stray files of catalogs' snapshots that were not finished: ") strays.unfinished [] in
    let a = g.T.LineLog.logged c.args.lines.now in
    let b = g.T.LineLog.logged c.tell_of_nobody.new.lines in
    let d = g.T.LineLog.logged c.tell_if.new.lines in
    let e = g.T.LineLog.logged c.tell_if-2.new.lines in
    let f = g.T.LineLog.logged c.tell_if-3.new.lines in
    tells_both now (nobody ++ texts_of short ++ texts_of unreadable) (texts_of unfinished) a e f
    (tells_both now (nobody ++ texts_of short) (texts_of unreadable) a d e
    (tells_both now nobody (texts_of short) a b d c.tell_of_nobody.ensures (c.tell_if.ensures short c.count_text.ensures))
    (c.tell_if-2.ensures unreadable c.count_text-2.ensures))
    (c.tell_if-3.ensures unfinished c.count_text-3.ensures)
