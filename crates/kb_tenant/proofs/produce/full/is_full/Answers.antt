use Rattle.std.proofs.Common.{◌≡◌, ◌∙◌, ◌-◌, ◌^◌, ap, sym, subst, Ok, Result, ℕ}
use Rattle.std.specs.Prelude.{min}
use Rattle.kb_tenant_state.specs.Parts.{scene}
use Rattle.kb_tenant_state.specs.Stored.{stored_in}
use Rattle.kb_tenant_state.specs.Told.{IsWant, Tells}
use Rattle.kb_tenant_state.specs.declared.fault.PartitionFault.{PartitionFault}
use Rattle.kb_tenant.proofs.Storing.{full_is}
use Rattle.kb_tenant.proofs.Telling.{done_so}
use Rattle.kb_tenant.proofs.produce.full.is_full.Goals as goal

pub returns-in-Ok-clause-meets : goal.returns-in-Ok-clause-meets
returns-in-Ok-clause-meets g c = λ honest agree calm.
    let a = scene g.L.PartitionLog.log g.S.Store.disk c.args.parts.now c.args.shelf.now in
    let both = sym c.in-Ok.is ∙ c.stored.ensures.meets honest agree calm in
    let is : c.in-Ok.stored ≡ min (stored_in a.state.world) (2 ^ 64 - 1) = cc in
    ap Ok (full_is c.args.limit c.left_of.result a.state.world c.args.batch.now c.size.result c.is_past.result c.is_past.ensures (c.left_of.ensures.most (stored_in a.state.world) is) c.size.ensures.size)

pub returns-in-Ok-clause-told : goal.returns-in-Ok-clause-told
returns-in-Ok-clause-told g c =
    let a = scene g.L.PartitionLog.log g.S.Store.disk c.args.parts.now c.args.shelf.now in
    let b = scene g.L.PartitionLog.log g.S.Store.disk c.stored.new.self c.stored.new.shelf in
    let count = min (stored_in a.state.world) (2 ^ 64 - 1) in
    done_so a b _ _
    (λ both. let is : c.in-Ok.stored ≡ count = cc in
    ap Ok (full_is c.args.limit c.left_of.result a.state.world c.args.batch.now c.size.result c.is_past.result c.is_past.ensures (c.left_of.ensures.most (stored_in a.state.world) is) c.size.ensures.size))
    (subst (λ (r : Result ℕ PartitionFault). Tells a b (r ≡ Ok count) (IsWant a b) r) c.in-Ok.is c.stored.ensures.told)
