use Rattle.std.proofs.Common.{◌∙◌, ◌++◌, ap, append-nil, sym}
use Rattle.kb_start.specs.Survey.{known_of, used_by}
use Rattle.kb_start.proofs.Lost.{none_lost}
use Rattle.kb_start.proofs.losses.add_dropped.Goals as goal

pub returns-clause-losses : goal.returns-clause-losses
returns-clause-losses g c = λ honest.
    let d = g.S.Store.disk c.args.store.now in
    let opened = c.args.opened.now in
    let had = c.args.losses.now.items in
    let used = used_by opened d in
    sym (append-nil had)
    ∙ ap (λ ls. had ++ ls) (sym (none_lost (known_of opened) used d opened.files.now (sym c.any_dropped.ensures ∙ c.if-any_dropped.false)))
