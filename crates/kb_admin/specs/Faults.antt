-- What is told of a session that came to nothing.
use Rattle.std.specs.Prelude.{ℤ, ℕ, List, ◌++◌, Option, Some, None, codes}
use Rattle.std.specs.Fmt.{signed_decimal}
use Rattle.kb_admin.specs.declared.fault.AdminFault.{AdminFault}
use Rattle.kb_admin.specs.declared.fault.AdminFault.TheVariants.{Refused, Protocol, Memory}
use Rattle.kb_admin.specs.Names.{code_name}

-- an error code by its name, or by its number where it has none
abbrev pub code_text : ℤ → Option (List ℕ) → List ℕ
code_text code (Some name) = name
code_text code None = codes "the broker answered error code " ++ signed_decimal code

-- the text of a fault
abbrev pub fault_text : AdminFault → List ℕ
fault_text (Refused code) = code_text code (code_name code)
fault_text Protocol = codes "what the broker sent is no reply to what was asked"
fault_text Memory = codes "out of memory"
