use Rattle.std.proofs.Common.{◌∙◌, ap, map, sym}
use Rattle.kb_start.specs.Starts.{catalogs_of}
use Rattle.kb_survey.proofs.Changes.{kept_twice}
use Rattle.kb_start.proofs.Recorded.{found_again, same_recorded}
use Rattle.kb_start.proofs.starts.recorded_starts.Goals as goal

pub returns-clause-starts : goal.returns-clause-starts
returns-clause-starts g c = λ honest.
    let disk = g.S.Store.disk in
    let old = disk c.args.store.now in
    let seen = disk c.list.new.self in
    let now = disk c.catalogs_among.new.store in
    let listing = c.list.ensures.unchanged in
    let reading = c.catalogs_among.ensures.unchanged in
    let later = c.starts_among.ensures.unchanged.honest honest in
    let both = kept_twice old seen now listing reading in
    let names = map (λ name. name.now) c.args.tenants.now in
    let starts = map (λ of. of.items) c.in_ok-starts.starts.items in
    let found =
    c.deref-3.ensures.value
    ∙ found_again seen now c.deref.result.now c.in_ok-catalogs.catalogs.items reading.table (reading.files later) (c.in_ok-catalogs.ensures.catalogs later)
    ∙ ap (catalogs_of now) (c.deref.ensures.value ∙ sym c.deref-2.ensures.value) in
    same_recorded old now names starts both.table (both.files later) (c.in_ok-starts.ensures.starts honest found)
