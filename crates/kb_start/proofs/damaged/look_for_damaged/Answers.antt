use Rattle.std.proofs.Common.{◌∙◌, ap}
use Rattle.kb_survey.proofs.Changes.{kept_twice}
use Rattle.kb_start.specs.Damaged as damaged
use Rattle.kb_start.proofs.Ends.{same_among, same_files}
use Rattle.kb_start.proofs.damaged.look_for_damaged.Goals as goal

pub returns-clause-files : goal.returns-clause-files
returns-clause-files g c = λ honest.
    let disk = g.S.Store.disk in
    let opened = c.args.opened.now in
    let files = opened.files.now in
    let seen = disk c.list.new.self in
    let now = disk c.catalogs_in_use.new.store in
    let listing = c.list.ensures.unchanged in
    let reading = c.catalogs_in_use.ensures.unchanged in
    let later = c.damaged_among.ensures.unchanged.honest honest in
    c.in_ok-files.ensures.files honest
    ∙ ap (λ used. damaged.damaged_among used now files) (c.deref-3.ensures.value ∙ c.in_ok-used.ensures.catalogs later)
    ∙ same_among _ seen now files reading.table (reading.files later)
    ∙ same_files opened (disk c.args.store.now) seen listing.table (listing.files (reading.honest later))
