use Rattle.std.proofs.Common.{◌∙◌, sym, subst}
use Rattle.std.specs.Prelude.{◌<◌}
use Rattle.std.proofs.lemmas.List.{length-map}
use Rattle.kb_tenants.specs.Tenants.{state_of}
use Rattle.kb_tenants.proofs.Hosted.{refusals_here}
use Rattle.kb_tenants.proofs.Others.{found}
use Rattle.kb_tenants.proofs.tenants.Tenants.refusals.Goals as goal

pub returns : goal.returns
returns g c =
    let ts = c.args.self.now in
    let files = (g.S.Store.disk ts.shelf.store).files in
    let lt = subst (λ n. c.args.tenant < n) (length-map ts.tenants.items (state_of g.L.PartitionLog.log files)) c.requires in
    c.refusals.ensures ∙ sym (refusals_here g.L.PartitionLog.log files ts.tenants.items c.args.tenant c.index.result.now (found ts.tenants.items c.args.tenant c.index.result.now lt c.index.ensures))
