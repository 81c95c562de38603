-- What an error code says of what was asked: which word of the command line is wrong, and what it may be.
use Rattle.std.specs.Prelude.{ℕ, ℤ, List, [], ◌∷◌, ◌++◌, Option, Some, None, codes, if◌then◌else◌}
use Rattle.std.specs.Fmt.{signed_decimal}
use Rattle.std.specs.Ordering.{int_eq}
use Rattle.std.specs.Str.{bytes_eq}
use Rattle.kb_wire.specs.ErrorCode.{code_of}
use Rattle.kb_wire.specs.declared.error_code.ErrorCode.TheVariants as errors
use Rattle.kb_admin.specs.declared.task.Task.{Task}
use Rattle.kb_admin.specs.declared.task.Task.TheVariants as tasks
use Rattle.kb_admin.specs.declared.task.Setting.{Setting}
use Rattle.kb_topics.specs.declared.config.ConfigEntry.{ConfigEntry}
use Rattle.kb_topics.specs.ConfigReading.{entry_of, nothing_read}
use Rattle.kb_topic_command.specs.Wrong.{from_wrong}

-- what a policy may be, and else which settings there are
unfoldable pub wanted_policy : List ℕ → List ℕ
wanted_policy key =
    if bytes_eq key (codes "cleanup.policy") then codes "it is delete"
    else codes "the settings of a topic are retention.ms, retention.bytes and cleanup.policy"

-- what a setting of that name may be
unfoldable pub wanted : List ℕ → List ℕ
wanted key =
    if bytes_eq key (codes "retention.ms") then codes "it is a number of milliseconds up to 9223372036854775807, or -1 for ever"
    else if bytes_eq key (codes "retention.bytes") then codes "it is a number of bytes up to 9223372036854775807, or -1 for any number"
    else wanted_policy key

-- what is wrong with a setting: one that a topic may be given was read before
abbrev pub wrong_with : List ℕ → Option ConfigEntry → List ℕ
wrong_with key (Some entry) = codes "it is given twice"
wrong_with key None = wanted key

-- what is wrong with the first of some settings
abbrev pub config_text : List Setting → List ℕ
config_text [] = codes ": the broker does not take these settings"
config_text (s ∷ ss) = codes ": --config " ++ s.key ++ codes "=" ++ s.value ++ codes ": " ++ wrong_with s.key (entry_of s.key (Some s.value))

-- the number of partitions that was asked for
abbrev pub partitions_meaning : Task → List ℕ
partitions_meaning (tasks.Create topic) = codes ": --partitions " ++ signed_decimal topic.partitions ++ codes ": a topic has 1 to 64 partitions"
partitions_meaning (tasks.Delete name) = []
partitions_meaning tasks.List = []

-- the settings that were asked for
abbrev pub config_meaning : Task → List ℕ
config_meaning (tasks.Create topic) = config_text (from_wrong nothing_read topic.settings.items)
config_meaning (tasks.Delete name) = []
config_meaning tasks.List = []

-- the codes whose names do not say all, whatever was asked
unfoldable pub code_meaning : ℤ → List ℕ
code_meaning code =
    if int_eq code (code_of errors.InvalidTopic) then codes ": a name has 1 to 249 of a-z A-Z 0-9 . _ -"
    else if int_eq code (code_of errors.PolicyViolation) then codes ": the tenant is at its limit of topics or of partitions"
    else if int_eq code (code_of errors.SaslAuthenticationFailed) then codes ": no user has this name and password"
    else []

-- What a code says of a task; nothing where its name says all.
abbrev pub meaning : Task → ℤ → List ℕ
meaning task code =
    if int_eq code (code_of errors.InvalidPartitions) then partitions_meaning task
    else if int_eq code (code_of errors.InvalidConfig) then config_meaning task
    else code_meaning code
