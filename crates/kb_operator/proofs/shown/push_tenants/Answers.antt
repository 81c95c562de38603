use Rattle.std.proofs.Common.{◌<◌, ℕ, List, arith, length}
use Rattle.kb_settings.specs.Limits.{limits_in}
use Rattle.kb_settings.specs.declared.tenant_limits.TenantLimits.{TenantLimits}
use Rattle.kb_operator.specs.Shown.{tenant_line}
use Rattle.kb_operator.proofs.Pushed.{lines_left}
use Rattle.kb_operator.proofs.shown.push_tenants.Goals as goal

pub loop-limits-preserved : goal.loop-limits-preserved
loop-limits-preserved c =
    let before = c.loop-limits in
    let tenants = c.args.tenants.now in
    let i = before.limits-index in
    let item = c.limits-item.result in
    let within : i < length tenants = omega arith in
    let line : TenantLimits → List ℕ = λ t. tenant_line (limits_in t) in
    lines_left line tenants i item before.text.items c.push_tenant.new.text.items _ within c.limits-item.is c.in_ok-push_tenant.ensures before.invariant
