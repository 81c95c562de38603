use Rattle.std.proofs.Common.{◌≡◌, drop}
use Rattle.std.specs.List.{flat_map}
use Rattle.kb_tenant_api.proofs.replies.any_reply.Given as goal

-- The lists up to here have nothing.
abbrev pub invariant-loop-i : goal.invariant-loop-i
invariant-loop-i l = flat_map (λ v. v.items) (drop l.i l.released) ≡ flat_map (λ v. v.items) l.released
