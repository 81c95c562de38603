use Rattle.std.proofs.Common.{subst}
use Rattle.kb_tenants.proofs.Ordered.{ordered_hosted}
use Rattle.kb_tenants.proofs.Small.{small_hosted}
use Rattle.kb_broker.specs.Hosts.{AreOrdered, AreSmall, IsInFiles}
use Rattle.kb_broker.proofs.InFiles.{hosted-in-files}
use Rattle.kb_broker.proofs.engine.Engine.connections.Goals as goal

pub returns-clause-small : goal.returns-clause-small
returns-clause-small g c =
    subst (AreSmall g.S.Store.disk) c.self.view_is (λ honest t. small_hosted g.L.PartitionLog.log g.met.L.PartitionLog.lawful g.S.Store.disk c.self.inside.tenants c.self.invariant.0 honest t)

pub returns-clause-ordered : goal.returns-clause-ordered
returns-clause-ordered g c =
    let log = g.L.PartitionLog.log in
    let disk = g.S.Store.disk in
    subst (AreOrdered disk) c.self.view_is (λ honest t. ordered_hosted log disk c.self.inside.tenants c.self.invariant.0 honest t)

pub returns-clause-in_files : goal.returns-clause-in_files
returns-clause-in_files g c =
    let log = g.L.PartitionLog.log in
    let disk = g.S.Store.disk in
    subst (IsInFiles log disk) c.self.view_is (hosted-in-files log disk c.self.inside.tenants c.self.invariant.0)
