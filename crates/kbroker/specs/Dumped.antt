-- What a dump's fault is to the program.
use Rattle.std.specs.Prelude.{◌≡◌, ◌≢◌, ℕ}
use Rattle.kb_dump.specs.declared.fault.DumpFault.{DumpFault}
use Rattle.kb_dump.specs.declared.fault.DumpFault.TheVariants as dumps
use Rattle.kb_operator.specs.declared.fault.OperatorFault.{OperatorFault}
use Rattle.kb_operator.specs.declared.fault.OperatorFault.TheVariants.{Store, Memory, Write}
use Rattle.kb_store.specs.Disk.{Grew}
use Rattle.kbroker.specs.declared.Fault.{Fault}
use Rattle.kbroker.specs.declared.Fault.TheVariants.{Operator}

-- where the store refused, the folder says which file and why
abbrev pub IsOfDump : DumpFault → OperatorFault → Type 0
IsOfDump dumps.Store fault = Unit {0}
IsOfDump dumps.Memory fault = fault ≡ Memory
IsOfDump dumps.Write fault = fault ≡ Write

-- a fault that is neither refused memory nor a refused write is the store's, whose failures grew
abbrev pub IsBlamed : ℕ → ℕ → Fault → Type 0
IsBlamed before now fault = fault ≢ Operator Memory → fault ≢ Operator Write → Grew before now
