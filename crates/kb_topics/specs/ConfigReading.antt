-- How the settings of a topic are read, one after another.
use Rattle.std.specs.Prelude.{ℕ, pos, negsuc, true, false, List, Option, Some, None, ◌&&◌, if◌then◌else◌, codes, option_map, unwrap_or}
use Rattle.std.specs.Prelude.{is_none}
use Rattle.std.specs.Str.{bytes_eq}
use Rattle.kb_topics.specs.declared.config.TopicConfig.{TopicConfig}
use Rattle.kb_topics.specs.declared.config.ConfigReader.{ConfigReader}
use Rattle.kb_topics.specs.declared.config.ConfigEntry.{ConfigEntry}
use Rattle.kb_topics.specs.declared.config.ConfigEntry.TheVariants.{RetentionMs, RetentionBytes, CleanupPolicy}
use Rattle.kb_topics.specs.Config.{limit_in}

-- the setting of that name
abbrev pub setting : List ℕ → List ℕ → Option ConfigEntry
setting name value =
    if bytes_eq name (codes "retention.ms") then option_map RetentionMs (limit_in value)
    else (if bytes_eq name (codes "retention.bytes") then option_map RetentionBytes (limit_in value)
    else (if bytes_eq name (codes "cleanup.policy") && bytes_eq value (codes "delete") then Some CleanupPolicy else None))

-- A setting without a value is none.
abbrev pub entry_of : List ℕ → Option (List ℕ) → Option ConfigEntry
entry_of name None = None
entry_of name (Some value) = setting name value

-- no setting was read
abbrev pub nothing_read : ConfigReader
nothing_read = record { retention_ms = None; retention_bytes = None; cleanup_policy = false }

-- what was read and one more setting, whose name was not read before
abbrev pub with_entry : ConfigReader → Option ConfigEntry → Option ConfigReader
with_entry r None = None
with_entry r (Some (RetentionMs n)) = if is_none r.retention_ms then Some (record r { retention_ms = Some n }) else None
with_entry r (Some (RetentionBytes n)) = if is_none r.retention_bytes then Some (record r { retention_bytes = Some n }) else None
with_entry r (Some CleanupPolicy) = if r.cleanup_policy then None else Some (record r { cleanup_policy = true })

-- the defaults for what was not read: seven days, and no limit of bytes
abbrev pub config_of : ConfigReader → TopicConfig
config_of r = record { retention_ms = unwrap_or r.retention_ms (pos 604800000); retention_bytes = unwrap_or r.retention_bytes (negsuc 0) }
