use Rattle.std.proofs.Common.{◌∙◌, List, get_or, map, ap, negsuc, refl}
use Rattle.kb_tenants.specs.Tenants.{hosted}
use Rattle.kb_tenants.specs.declared.tenants.Tenant.{Tenant}
use Rattle.kb_tenants.specs.declared.tenants.Tenants.{Tenants}
use Rattle.kb_tenants.specs.Counts.{no_counts}
use Rattle.kb_tenants.proofs.Causes.{counts_pushed}
use Rattle.kb_tenants.proofs.Added.{kept_left, kept_pushed, unknown_strays}
use Rattle.kb_tenants.proofs.Idle.{idle_unknown}
use Rattle.kb_tenants.proofs.tenants.Tenants.restore.Goals as goal

pub returns-clause-invariant : goal.returns-clause-invariant
returns-clause-invariant g c =
    let log = g.L.PartitionLog.log in
    let disk = g.S.Store.disk in
    let x : Tenant g.row.L.Denot = record { name = c.in_ok-from_str.field-0; parts = c.args.parts; groups = c.new.result; renew_at = 4096; counts = c.none.result } in
    let after : Tenants g.row.L.Denot g.row.S.Denot = record c.args.self.now { tenants = c.push.new.self; next_retention_time = negsuc 0 } in
    kept_pushed log disk c.args.self.now after x c.in_ok-push.ensures.items refl refl c.args.name.now c.in_ok-from_str.ensures.ok c.new.ensures
    c.requires.sound c.requires.apart c.requires.named
    (λ file stray own. unknown_strays c.args.self.now.strays c.requires.early file stray) c.requires.agrees (λ honest. idle_unknown (hosted log disk after)) c.requires.invariant

pub returns-in_err-push-clause-invariant : goal.returns-in_err-push-clause-invariant
returns-in_err-push-clause-invariant g c =
    kept_left g.L.PartitionLog.log g.S.Store.disk c.args.self.now (record c.args.self.now { tenants = c.push.new.self }) c.in_err-push.ensures.items refl refl refl c.requires.invariant

pub returns-clause-counts : goal.returns-clause-counts
returns-clause-counts g c = λ t.
    let x : Tenant g.row.L.Denot = record { name = c.in_ok-from_str.field-0; parts = c.args.parts; groups = c.new.result; renew_at = 4096; counts = c.none.result } in
    ap (λ (xs : List (Tenant g.row.L.Denot)). get_or (map (λ (z : Tenant g.row.L.Denot). z.counts) xs) t no_counts) c.in_ok-push.ensures.items
    ∙ counts_pushed c.args.self.now.tenants.items x c.none.ensures t

pub returns-in_err-push-clause-counts : goal.returns-in_err-push-clause-counts
returns-in_err-push-clause-counts g c = λ t.
    ap (λ (xs : List (Tenant g.row.L.Denot)). get_or (map (λ (z : Tenant g.row.L.Denot). z.counts) xs) t no_counts) c.in_err-push.ensures.items
