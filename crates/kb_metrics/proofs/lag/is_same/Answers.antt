use Rattle.std.proofs.Common.{rules, tests}
use Rattle.std.proofs.lemmas.Bool.Decides.{same_from_decides}
use Rattle.std.proofs.lemmas.Iterator.{YieldsList-from_slice, YieldsList-from_zip, same_from_all}
use Rattle.std.specs.Cmp.Lexicographic.{bytes_decides}
use Rattle.std.specs.Str.{bytes_eq}
use Rattle.kb_metrics.proofs.lag.is_same.Goals as goal

pub returns-then-name-other : goal.returns-then-name-other
returns-then-name-other c =
    let n = c.as_bytes-name.result.now in
    let o = c.as_bytes-other.result.now in
    same_from_decides c.all.result (bytes_eq c.args.name.now c.args.other.now)
    (same_from_all c.all.new.self _ _ _ _ c.all.ensures.ran (YieldsList-from_zip (YieldsList-from_slice c.args.name.now cc) (YieldsList-from_slice c.args.other.now cc)) (search rules) (λ x q k. search (rules, tests)) (λ x q k. search (rules, tests)))
    (bytes_decides c.args.name.now c.args.other.now)
