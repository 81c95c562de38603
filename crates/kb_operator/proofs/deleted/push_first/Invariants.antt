use Rattle.std.proofs.Common.{◌≡◌, ◌++◌, string_bytes, take}
use Rattle.std.specs.List.{flat_map}
use Rattle.kb_operator.specs.Found.{deleted_part}
use Rattle.kb_operator.proofs.deleted.push_first.Given as goal

-- what stands there, and what is left that has room
abbrev pub invariant-loop-tenant : goal.invariant-loop-tenant
invariant-loop-tenant l =
    string_bytes l.text ++ flat_map deleted_part (take l.room l.tenant-iterator)
    ≡ string_bytes l.initial.text ++ flat_map deleted_part (take l.initial.room l.initial.tenant-iterator)
