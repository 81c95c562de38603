use Rattle.std.proofs.Common.{◌∙◌, ◌++◌, ap}
use Rattle.kb_start.specs.Aside.{in_way_among}
use Rattle.kb_start.specs.Survey.{known_of}
use Rattle.kb_start.proofs.InWay.{same_in_way}
use Rattle.kb_start.proofs.aside.files_in_way.Goals as goal

pub returns-clause-files : goal.returns-clause-files
returns-clause-files g c = λ honest.
    let disk = g.S.Store.disk in
    let listing = c.list.ensures.unchanged in
    let before = c.add_in_way.ensures.unchanged.honest honest in
    let opened = c.args.opened.now in
    let names = (known_of opened).names in
    c.in_ok-add_in_way.ensures.files honest
    ∙ ap (λ files. files ++ in_way_among (disk c.list.new.self) names opened.next_instances.now opened.strays.now) c.new-files.ensures.items
    ∙ same_in_way (disk c.args.store.now) (disk c.list.new.self) names opened.next_instances.now opened.strays.now
    listing.table (listing.files before)
