use Rattle.std.proofs.Common.{ap}
use Rattle.kb_tenants.specs.Tenants.{hosted}
use Rattle.kb_log.specs.Shelf.{Shelved}
use Rattle.kb_tenants.specs.Counts.{counts_of}
use Rattle.kb_tenants.proofs.Causes.{counted_same, counted_still}
use Rattle.kb_tenants.proofs.Passed.{turn_same}
use Rattle.kb_tenants.proofs.tenants.Tenants.list_answered.Goals as goal

pub returns-in_default-clause-turn : goal.returns-in_default-clause-turn
returns-in_default-clause-turn g c = turn_same c.args.tenant (Unit {0}) (hosted g.L.PartitionLog.log g.S.Store.disk c.args.self.now)

pub returns-in_default-clause-accounted : goal.returns-in_default-clause-accounted
returns-in_default-clause-accounted g c =
    let old = c.args.self.now in
    counted_same c.args.tenant (hosted g.L.PartitionLog.log g.S.Store.disk old) (g.S.Store.disk old.shelf.store).failures (counts_of old)

pub returns-clause-accounted : goal.returns-clause-accounted
returns-clause-accounted g c =
    let disk = g.S.Store.disk in
    let seen = hosted g.L.PartitionLog.log disk in
    let old = c.args.self.now in
    let new = c.refuse.new.self in
    let r = c.refuse.ensures in
    counted_still c.args.tenant (seen old) (seen new) (disk old.shelf.store).failures (disk new.shelf.store).failures (counts_of old) (counts_of new)
    (ap (λ (s : Shelved g.row.S.Denot). (disk s.store).failures) r.shelf) r.accounted (r.turn.grows c.args.tenant) r.causes
