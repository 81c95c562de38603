-- The settings of a topic that a CreateTopics gives as entries of a name and a value (Apache Kafka's names of topic settings).
use Rattle.std.specs.Prelude.{ℕ, ℤ, pos, negsuc, Bool, true, false, List, [], ◌∷◌, Option, Some, None}
use Rattle.std.specs.Prelude.{codes, is_none, is_some, unwrap_or, ◌&&◌, ◌||◌, if◌then◌else◌}
use Rattle.std.specs.List.{find}
use Rattle.std.specs.Option.{option_and_then}
use Rattle.std.specs.Str.{bytes_eq}
use Rattle.kb_api_data.specs.declared.create_topics.CreateConfig.{CreateConfig}
use Rattle.kb_topics.specs.Config.{limit_in}
use Rattle.kb_topics.specs.declared.config.TopicConfig.{TopicConfig}

-- whether a setting of that name may have that value: a limit of milliseconds or of bytes, or that old records are deleted
abbrev pub is_allowed : List ℕ → Option (List ℕ) → Bool
is_allowed name None = false
is_allowed name (Some value) =
    if bytes_eq name (codes "retention.ms") || bytes_eq name (codes "retention.bytes") then is_some (limit_in value)
    else bytes_eq name (codes "cleanup.policy") && bytes_eq value (codes "delete")

-- the first entry of a name
abbrev pub entry_named : List ℕ → List CreateConfig → Option CreateConfig
entry_named name cs = find (λ c. bytes_eq c.name name) cs

-- Each entry has a value that its name may have, and no two have one name.
abbrev pub are_allowed : List CreateConfig → Bool
are_allowed [] = true
are_allowed (c ∷ cs) = is_allowed c.name c.value && is_none (entry_named c.name cs) && are_allowed cs

-- the limit that is the value of a name, if it has an entry
abbrev pub limit_named : List ℕ → List CreateConfig → Option ℤ
limit_named name cs = option_and_then (λ (c : CreateConfig). option_and_then limit_in c.value) (entry_named name cs)

-- Records are kept for seven days where no time is given, and whatever their bytes where no size is.
abbrev pub settings_of : List CreateConfig → TopicConfig
settings_of cs = record {
  retention_ms = unwrap_or (limit_named (codes "retention.ms") cs) (pos 604800000);
  retention_bytes = unwrap_or (limit_named (codes "retention.bytes") cs) (negsuc 0);
}

-- the settings of a topic that is given these; none where it may not be given one of them
abbrev pub settings_in : List CreateConfig → Option TopicConfig
settings_in cs = if are_allowed cs then Some (settings_of cs) else None
