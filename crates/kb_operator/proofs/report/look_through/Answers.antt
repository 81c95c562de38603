use Rattle.std.proofs.Common.{◌∙◌, ap}
use Rattle.kb_operator.specs.Report.{dropped_lines}
use Rattle.kb_operator.proofs.Seen.{dropped_same}
use Rattle.kb_operator.proofs.report.look_through.Goals as goal

pub returns-clause-dropped : goal.returns-clause-dropped
returns-clause-dropped g c = λ honest.
    let disk = g.S.Store.disk in
    let o = c.args.opened.now in
    let old = disk c.args.store.now in
    let ends = c.in_ok-damaged.ensures.unchanged in
    let first = c.in_ok-surveyed.ensures.unchanged in
    let second = c.in_ok-dropped.ensures.unchanged in
    let here = c.in_ok-strays.ensures.unchanged.honest honest in
    let looked = second.honest here in
    let begun = first.honest looked in
    c.in_ok-dropped.ensures.texts here
    ∙ dropped_same c.deref.result.now o (disk c.damaged_files.new.store) (disk c.look.new.store) first.table (first.files looked)
    ∙ dropped_same c.deref.result.now o old (disk c.damaged_files.new.store) ends.table (ends.files begun)
    ∙ ap (λ files. dropped_lines files o old o.files.now) (c.deref.ensures.value ∙ c.in_ok-damaged.ensures.files begun)
