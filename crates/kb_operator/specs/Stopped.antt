-- Why a start does not go on.
use Rattle.std.specs.Prelude.{◌≡◌, ℕ, List, string_bytes}
use Rattle.kb_start.specs.declared.losses.Surveyed.{Surveyed}
use Rattle.kb_start.specs.declared.verdict.Cause.{Cause}
use Rattle.kb_start.specs.declared.verdict.Cause.TheVariants.{Damage, Strays}
use Rattle.kb_operator.specs.declared.fault.OperatorFault.{OperatorFault}
use Rattle.kb_operator.specs.declared.fault.OperatorFault.TheVariants as faults
use Rattle.kb_operator.specs.FolderRefused.{IsBehindFault}
use Rattle.kb_operator.specs.Texts.{damage_text, stray_text}

-- The fault says why a start on the folder at a path is refused; of memory nothing is said.
abbrev pub IsRefusedFor : List ℕ → Cause → Surveyed → OperatorFault → Type 0
IsRefusedFor path Damage s (faults.System text) = string_bytes text ≡ damage_text path s.losses.items
IsRefusedFor path Strays s (faults.System text) = string_bytes text ≡ stray_text path s.strays.unfit s.strays.never_given_out.entries
IsRefusedFor path cause s faults.Memory = Unit {0}
IsRefusedFor path cause s other = ⊥

-- The files of the folder could not be read; of memory nothing is said.
abbrev pub IsFolderFault : List ℕ → OperatorFault → Type 0
IsFolderFault path (faults.Store why) = IsBehindFault path (string_bytes why)
IsFolderFault path faults.Memory = Unit {0}
IsFolderFault path other = ⊥
