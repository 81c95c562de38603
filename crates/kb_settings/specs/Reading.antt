-- What a settings text says, and what is wrong with one.
use Rattle.std.specs.Prelude.{◌≡◌, ℕ, List, Option, None, Some, option_map, Result, Ok, Err, string_bytes}
use Rattle.toml.specs.Parse.{parse_document}
use Rattle.kb_settings.specs.Values.{Values}
use Rattle.kb_settings.specs.Document.{settings_in}
use Rattle.kb_settings.specs.declared.fault.SettingsFault.{SettingsFault}
use Rattle.kb_settings.specs.declared.fault.SettingsFault.TheVariants as faults

-- its settings or its first wrong key; nothing where it is no TOML document
abbrev pub settings_of : List ℕ → Option (Result Values (List ℕ))
settings_of text = option_map settings_in (parse_document text)

-- a fault of a text: it is no document, or that is its first wrong key; of memory nothing is said
abbrev pub IsFaultOf : List ℕ → SettingsFault → Type 0
IsFaultOf text faults.Text = settings_of text ≡ None
IsFaultOf text (faults.Field key) = settings_of text ≡ Some (Err (string_bytes key))
IsFaultOf text faults.Memory = Unit {0}

-- the first wrong key, where there is one
abbrev pub wrong_key : {A : Type 0} → Result A (List ℕ) → Option (List ℕ)
wrong_key (Ok says) = None
wrong_key (Err key) = Some key

-- a fault of what a document says: that is its first wrong key, or memory was refused
abbrev pub IsFaultAt : Option (List ℕ) → SettingsFault → Type 0
IsFaultAt wrong faults.Text = ⊥
IsFaultAt wrong (faults.Field key) = wrong ≡ Some (string_bytes key)
IsFaultAt wrong faults.Memory = Unit {0}

abbrev pub IsFaultIn : {A : Type 0} → Result A (List ℕ) → SettingsFault → Type 0
IsFaultIn says fault = IsFaultAt (wrong_key says) fault
