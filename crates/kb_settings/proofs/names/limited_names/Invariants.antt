use Rattle.std.proofs.Common.{◌≡◌, map, take, string_bytes}
use Rattle.kb_settings.proofs.names.limited_names.Given as goal

abbrev pub invariant-loop-limits : goal.invariant-loop-limits
invariant-loop-limits l = map (λ name. name.now) l.names.items ≡ map (λ t. string_bytes t.name) (take l.limits-index l.tenants)
