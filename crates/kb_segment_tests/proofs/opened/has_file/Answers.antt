use Rattle.std.proofs.Common.{◌∙◌, ap, sym, nat_eq}
use Rattle.std.specs.List.{list_any}
use Rattle.kb_segment_tests.proofs.Reopened.{listed_is_there}
use Rattle.kb_segment_tests.proofs.opened.has_file.Goals as goal

pub returns : goal.returns
returns g c = λ yes.
    let old = g.S.Store.disk c.args.store.now in
    let new = g.S.Store.disk c.list.new.self in
    let e = c.in_ok-list.ensures in
    listed_is_there old new c.in_ok-list.field-0.items c.args.file e.numbers e.unchanged
    (ap (list_any (λ y. nat_eq y c.args.file)) (sym c.deref.ensures.value) ∙ sym c.contains.ensures.value ∙ yes)
