use Rattle.std.proofs.Common.{rules, ◌≡◌, true, false}
use Rattle.kb_survey.specs.Listed.{is_in}
use Rattle.kb_survey.proofs.Listed.{is_there}
use Rattle.kb_start.proofs.Gone.{listed_next, nothing_goes, not_there}
use Rattle.kb_start.proofs.deleted.remove_file.Goals as goal

pub returns-then-not-contains-clause-removed : goal.returns-then-not-contains-clause-removed
returns-then-not-contains-clause-removed g c =
    let d = g.S.Store.disk c.args.store.now in
    let found : is_in c.args.listed.now.items c.args.file ≡ false = search rules in
    nothing_goes d c.args.file (g.met.S.Store.lawful c.args.store.now) (not_there d c.args.listed.now.items c.args.file c.requires found)

pub remove-requires : goal.remove-requires
remove-requires g c =
    let found : is_in c.args.listed.now.items c.args.file ≡ true = search rules in
    is_there (g.S.Store.disk c.args.store.now) c.args.listed.now.items c.args.file c.requires found

pub returns-clause-listed : goal.returns-clause-listed
returns-clause-listed g c =
    let d = g.S.Store.disk c.args.store.now in
    let found : is_in c.args.listed.now.items c.args.file ≡ true = search rules in
    listed_next d (g.S.Store.disk c.remove.new.self) c.args.listed.now.items c.leave_out.new.numbers.items c.args.file c.requires
    (is_there d c.args.listed.now.items c.args.file c.requires found) c.in_ok-remove.ensures.removed c.leave_out.ensures
