-- Why a program of the broker does not start.
use Rattle.std.specs.Prelude.{◌≡◌, ℕ, List, Some, None, Err, IsNone, codes, string_bytes}
use Rattle.kb_settings.specs.declared.fault.SettingsFault.{SettingsFault}
use Rattle.kb_settings.specs.declared.fault.SettingsFault.TheVariants as settings_faults
use Rattle.kb_settings.specs.declared.settings.Settings.{Settings}
use Rattle.kb_settings.specs.Reading.{settings_of}
use Rattle.kb_broker.specs.declared.opening.OpenFault.{OpenFault}
use Rattle.kb_broker.specs.declared.opening.OpenFault.TheVariants as open_faults
use Rattle.kb_node.specs.declared.edge.BindFault.{BindFault}
use Rattle.kb_node.specs.declared.edge.BindFault.TheVariants as bind_faults
use Rattle.kb_node.specs.declared.fault.StartFault.{StartFault}
use Rattle.kb_node.specs.declared.fault.StartFault.TheVariants as faults

-- the fault of refused settings
abbrev pub of_settings : SettingsFault → StartFault
of_settings settings_faults.Text = faults.Settings
of_settings (settings_faults.Field key) = faults.Field key
of_settings settings_faults.Memory = faults.Memory

-- the fault of a broker that cannot open
abbrev pub of_open : OpenFault → StartFault
of_open open_faults.Store = faults.Store
of_open open_faults.Memory = faults.Memory

-- the fault of an address that is not bound
abbrev pub of_bind : BindFault → StartFault
of_bind bind_faults.Bind = faults.Listen
of_bind bind_faults.Memory = faults.Memory

-- the settings of a text are not read: it is no document, or that is its first wrong key, or memory was refused
abbrev pub IsUnread : List ℕ → StartFault → Type 0
IsUnread text faults.Settings = settings_of text ≡ None
IsUnread text (faults.Field key) = settings_of text ≡ Some (Err (string_bytes key))
IsUnread text faults.Store = ⊥
IsUnread text faults.Listen = ⊥
IsUnread text faults.Memory = Unit {0}

-- settings are not served: they name no data folder, or memory was refused
abbrev pub IsUnserved : Settings → StartFault → Type 0
IsUnserved settings faults.Settings = ⊥
IsUnserved settings (faults.Field key) = IsNone settings.folder × (string_bytes key ≡ codes "data")
IsUnserved settings faults.Store = ⊥
IsUnserved settings faults.Listen = ⊥
IsUnserved settings faults.Memory = Unit {0}
