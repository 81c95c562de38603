use Rattle.std.proofs.Common.{◌∙◌, List, ap, map, string_bytes}
use Rattle.std.proofs.lemmas.List.{take_all}
use Rattle.kb_settings.specs.Names.{in_order}
use Rattle.kb_settings.specs.declared.tenant_limits.TenantLimits.{TenantLimits}
use Rattle.kb_settings.proofs.names.limited_names.Goals as goal

pub returns : goal.returns
returns c =
    c.in_order.ensures
    ∙ ap in_order c.loop-limits.invariant
    ∙ ap (λ (tenants : List TenantLimits). in_order (map (λ t. string_bytes t.name) tenants)) (take_all c.loop-limits.limits-index c.args.tenants.now c.loop-limits-test.false)
