use Rattle.std.proofs.Common.{◌≡◌, ◌++◌, drop, map}
use Rattle.kb_settings.specs.Limits.{limits_in}
use Rattle.kb_operator.specs.Report.{lines_text}
use Rattle.kb_operator.specs.Shown.{tenant_line}
use Rattle.kb_operator.proofs.shown.push_tenants.Given as goal

-- the lines so far, and those that are left
abbrev pub invariant-loop-limits : goal.invariant-loop-limits
invariant-loop-limits l =
    l.text.items ++ lines_text (map (λ t. tenant_line (limits_in t)) (drop l.limits-index l.tenants))
    ≡ l.initial.text.items ++ lines_text (map (λ t. tenant_line (limits_in t)) l.tenants)
