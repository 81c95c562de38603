-- Keys that are read together.
use Rattle.std.specs.Prelude.{ℕ, List, Result, Ok, Err}
use Rattle.kb_settings.specs.Document.{with_part}
use Rattle.kb_settings.specs.Reading.{IsFaultIn}
use Rattle.kb_settings.specs.declared.fault.SettingsFault.{SettingsFault}
use Rattle.kb_settings.specs.declared.fault.SettingsFault.TheVariants as faults

-- a fault of the part is one of the whole
pub part_fault : {A B : Type 0} (part : Result A (List ℕ)) (next : A → Result B (List ℕ)) (fault : SettingsFault)
    → IsFaultIn part fault → IsFaultIn (with_part part next) fault
part_fault (Err key) next fault h = h
part_fault (Ok says) next faults.Text h = h
part_fault (Ok says) next (faults.Field key) h = absurd cc
part_fault (Ok says) next faults.Memory h = tt
