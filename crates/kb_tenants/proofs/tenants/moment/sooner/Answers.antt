use Rattle.std.proofs.Common.{◌≡◌, ◌∙◌, ap, arith}
use Rattle.std.proofs.lemmas.Int.{ints, clamps}
use Rattle.std.specs.Prelude.{unwrap_or}
use Rattle.kb_coordinator.specs.Groups.{earliest}
use Rattle.kb_groups.specs.Moments.{never}
use Rattle.kb_tenants.specs.Tenants.{clock_before}
use Rattle.kb_tenants.proofs.Idle.{due_before}
use Rattle.kb_tenants.proofs.tenants.moment.sooner.Goals as goal

pub returns : goal.returns
returns g c =
    let groups = c.args.tenant.now.groups in
    let due : clock_before c.unwrap_or-due.result ≡ clock_before (earliest groups.groups) =
    ap clock_before (c.unwrap_or-due.ensures ∙ ap (λ o. unwrap_or o never) c.next_due.ensures) ∙ due_before groups in
    omega (arith, ints, clamps, c.min.ensures.value, c.min-idle_until.ensures.value, c.next_retention_time-2.ensures.is, c.last_before-quiet_until.ensures.is, due)
