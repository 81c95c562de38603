use Rattle.std.proofs.Common.{◌≡◌, ◌++◌, string_bytes}
use Rattle.std.specs.List.{flat_map}
use Rattle.kb_operator.specs.Texts.{unknown_part}
use Rattle.kb_operator.proofs.texts.push_unknown.Given as goal

-- what stands there, and what is left
abbrev pub invariant-loop-tenant : goal.invariant-loop-tenant
invariant-loop-tenant l =
    string_bytes l.text ++ flat_map unknown_part l.tenant-iterator ≡ string_bytes l.initial.text ++ flat_map unknown_part l.initial.tenant-iterator
