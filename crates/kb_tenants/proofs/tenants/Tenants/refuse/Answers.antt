use Rattle.kb_tenants.proofs.Causes.{counts_stay}
use Rattle.kb_tenants.proofs.Hosted.{accounted_refused, commands_stay, kept_refused, kept_stays, once_refused, turn_refused, loud_refused}
use Rattle.kb_tenants.proofs.tenants.Tenants.refuse.Goals as goal

pub returns-clause-invariant : goal.returns-clause-invariant
returns-clause-invariant g c =
    kept_refused g.L.PartitionLog.log g.S.Store.disk g.met.L.PartitionLog.lawful c.args.self.now c.args.tenant c.index_mut.result.now c.refuse.new.self
    c.requires.tenant c.index_mut.ensures.value c.requires.invariant c.refuse.ensures

pub returns-clause-turn : goal.returns-clause-turn
returns-clause-turn g c =
    turn_refused g.L.PartitionLog.log g.S.Store.disk g.met.L.PartitionLog.lawful c.args.self.now c.args.tenant c.index_mut.result.now c.refuse.new.self
    c.requires.tenant c.index_mut.ensures.value c.requires.invariant c.refuse.ensures

pub returns-clause-stays : goal.returns-clause-stays
returns-clause-stays g c =
    kept_stays g.L.PartitionLog.log g.S.Store.disk g.met.L.PartitionLog.lawful c.args.self.now c.args.tenant c.index_mut.result.now c.refuse.new.self
    c.requires.tenant c.index_mut.ensures.value c.requires.invariant c.refuse.ensures

pub returns-clause-counted : goal.returns-clause-counted
returns-clause-counted g c =
    loud_refused g.L.PartitionLog.log g.S.Store.disk g.met.L.PartitionLog.lawful c.args.self.now c.args.tenant c.index_mut.result.now c.refuse.new.self
    c.requires.tenant c.index_mut.ensures.value c.requires.invariant c.refuse.ensures

pub returns-clause-accounted : goal.returns-clause-accounted
returns-clause-accounted g c =
    accounted_refused g.L.PartitionLog.log g.S.Store.disk g.met.L.PartitionLog.lawful c.args.self.now c.args.tenant c.index_mut.result.now c.refuse.new.self
    c.requires.tenant c.index_mut.ensures.value c.requires.invariant c.refuse.ensures

pub returns-clause-once : goal.returns-clause-once
returns-clause-once g c =
    once_refused g.L.PartitionLog.log g.S.Store.disk g.met.L.PartitionLog.lawful c.args.self.now c.args.tenant c.index_mut.result.now c.refuse.new.self
    c.requires.tenant c.index_mut.ensures.value c.requires.invariant c.refuse.ensures

pub returns-clause-commands : goal.returns-clause-commands
returns-clause-commands g c =
    commands_stay g.L.PartitionLog.log g.S.Store.disk g.met.L.PartitionLog.lawful c.args.self.now c.args.tenant c.index_mut.result.now
    c.refuse.new.self c.requires.tenant c.index_mut.ensures.value c.requires.invariant c.refuse.ensures

pub returns-clause-causes : goal.returns-clause-causes
returns-clause-causes g c =
    let x = c.index_mut.result.now in
    counts_stay g.L.PartitionLog.log g.S.Store.disk c.args.self.now c.args.tenant x c.refuse.new.self x.groups c.args.self.now.shelf
    c.requires.tenant c.index_mut.ensures.value
