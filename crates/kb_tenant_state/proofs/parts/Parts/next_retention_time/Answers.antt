use Rattle.std.proofs.Common.{◌≡◌, ◌≤ℤ◌, rules, pos, subst, to_z, of_z, w64}
use Rattle.kb_tenant_state.specs.Calls.{all_places}
use Rattle.kb_tenant_state.specs.Parts.{world_of}
use Rattle.kb_tenant_state.proofs.RetainedAll.{none_due, nothing_goes}
use Rattle.kb_tenant_state.proofs.parts.Parts.next_retention_time.Goals as goal

pub returns-clause-until : goal.returns-clause-until
returns-clause-until g c files agree clock le =
    let until = c.args.self.now.next_retention_time in
    let w = world_of g.L.PartitionLog.log c.args.self.now files in
    let same : to_z w64 (of_z w64 until) ≡ until = search rules in
    nothing_goes clock w (λ place. none_due w until clock place agree.until (subst (λ z. pos clock ≤ℤ z) same le)) (all_places w)
