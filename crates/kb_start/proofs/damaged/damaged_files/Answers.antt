use Rattle.std.proofs.Common.{◌∙◌, sym}
use Rattle.kb_start.specs.Survey.{used_by}
use Rattle.kb_start.proofs.Ends.{none_damaged}
use Rattle.kb_start.proofs.damaged.damaged_files.Goals as goal

pub returns-clause-files : goal.returns-clause-files
returns-clause-files g c = λ honest.
    let d = g.S.Store.disk c.args.store.now in
    let opened = c.args.opened.now in
    c.new.ensures.items ∙ sym (none_damaged (used_by opened d) d opened.files.now (sym c.any_dropped.ensures ∙ c.if-any_dropped.false))
