use Rattle.std.proofs.Common.{◌∙◌, ◌++◌, ap}
use Rattle.kb_start.specs.Survey.{dropped_losses, known_of, stray_losses, used_by}
use Rattle.kb_survey.proofs.Changes.{kept_twice}
use Rattle.kb_start.proofs.Lost.{same_adds, same_dropped}
use Rattle.kb_start.proofs.losses.survey.Goals as goal

pub returns-clause-losses : goal.returns-clause-losses
returns-clause-losses g c = λ honest.
    let disk = g.S.Store.disk in
    let opened = c.args.opened.now in
    let old = disk c.args.store.now in
    let seen = disk c.list.new.self in
    let now = disk c.add_dropped.new.store in
    let listing = c.list.ensures.unchanged in
    let dropping = c.add_dropped.ensures.unchanged in
    let later = c.add_aside.ensures.unchanged.honest honest in
    let both = kept_twice old seen now listing dropping in
    let strays = stray_losses (known_of opened) (used_by opened old) old opened.next_instances.now opened.strays.now in
    (same_adds opened old now _ _ both.table (both.files later) (c.in_ok-add_aside.ensures.strays honest)).losses
    ∙ ap (λ ls. ls ++ strays) (c.in_ok-add_dropped.ensures.losses later)
    ∙ ap (λ ls. (ls ++ dropped_losses opened seen) ++ strays) c.new.ensures.items
    ∙ ap (λ ls. ls ++ strays) (same_dropped opened old seen listing.table (listing.files (dropping.honest later)))

pub returns-clause-unfit : goal.returns-clause-unfit
returns-clause-unfit g c = λ honest.
    let disk = g.S.Store.disk in
    let old = disk c.args.store.now in
    let now = disk c.add_dropped.new.store in
    let both = kept_twice old (disk c.list.new.self) now c.list.ensures.unchanged c.add_dropped.ensures.unchanged in
    let later = c.add_aside.ensures.unchanged.honest honest in
    (same_adds c.args.opened.now old now _ _ both.table (both.files later) (c.in_ok-add_aside.ensures.strays honest)).unfit
