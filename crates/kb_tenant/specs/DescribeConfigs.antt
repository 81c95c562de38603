-- The settings of topics and of the broker (Kafka protocol guide, "The Messages: DescribeConfigs").
use Rattle.std.specs.Prelude.{ℕ, ℤ, pos, Bool, true, false, List, [], ◌∷◌, ◌++◌, length, map, filter, Option, Some, None, Result, Ok}
use Rattle.std.specs.Prelude.{◌&&◌, if◌then◌else◌, codes}
use Rattle.std.specs.Fmt.{signed_decimal}
use Rattle.std.specs.Int.{w32}
use Rattle.std.specs.List.{flat_map, list_any}
use Rattle.std.specs.Option.{option_map, option_and_then}
use Rattle.std.specs.Ordering.{int_eq}
use Rattle.std.specs.Str.{bytes_eq}
use Rattle.kb_wire.specs.Codec.{count, string, whole, ◌>>=◌}
use Rattle.kb_wire.specs.ErrorCode.{code_of}
use Rattle.kb_wire.specs.declared.error_code.ErrorCode.TheVariants as errors
use Rattle.kb_wire.specs.declared.fault.WireFault.{WireFault}
use Rattle.kb_api_data.specs.Layouts.{describe_configs_request, describe_configs_request_v1, described_config, described_config_v1}
use Rattle.kb_api_data.specs.Layouts.{described_resource, described_resource_v1, describe_configs_reply, describe_configs_reply_v1}
use Rattle.kb_api_data.specs.declared.describe_configs.ConfigResource.{ConfigResource}
use Rattle.kb_api_data.specs.declared.describe_configs.DescribeConfigsRequest.{DescribeConfigsRequest}
use Rattle.kb_api_data.specs.declared.describe_configs.DescribeConfigsReply.{DescribeConfigsReply}
use Rattle.kb_api_data.specs.declared.describe_configs.DescribedConfig.{DescribedConfig}
use Rattle.kb_api_data.specs.declared.describe_configs.DescribedResource.{DescribedResource}
use Rattle.kb_api_data.specs.declared.describe_configs_v1.DescribeConfigsReplyV1.{DescribeConfigsReplyV1}
use Rattle.kb_api_data.specs.declared.describe_configs_v1.DescribedConfigV1.{DescribedConfigV1}
use Rattle.kb_api_data.specs.declared.describe_configs_v1.DescribedResourceV1.{DescribedResourceV1}
use Rattle.kb_topics.specs.Known.{TopicState, named, topic_at}
use Rattle.kb_topics.specs.declared.config.TopicConfig.{TopicConfig}
use Rattle.kb_tenant.specs.Replies.{written_until}
use Rattle.kb_tenant.specs.Settings.{settings_of}
use Rattle.kb_tenant.specs.declared.describe_configs.Setting.{Setting}

-- ---- settings: a name, a value as text, and whether it is what is there where nothing is set

-- one that nobody can set
abbrev pub fixed : List ℕ → List ℕ → Setting
fixed name value = record { name = name; value = value; is_default = true }

-- a limit of milliseconds or of bytes, beside the default
abbrev pub limit_setting : List ℕ → (limit default : ℤ) → Setting
limit_setting name limit default = record { name = name; value = signed_decimal limit; is_default = int_eq limit default }

-- the settings of a topic that CreateTopics is given none for
abbrev pub default_config : TopicConfig
default_config = settings_of []

-- the three settings of a topic, in byte order of their names, with values that CreateTopics takes
abbrev pub topic_settings : TopicConfig → List Setting
topic_settings c =
    fixed (codes "cleanup.policy") (codes "delete") ∷
    limit_setting (codes "retention.bytes") c.retention_bytes default_config.retention_bytes ∷
    limit_setting (codes "retention.ms") c.retention_ms default_config.retention_ms ∷ []

-- The settings of the broker that a client may know, in byte order of their names: no topic is made by asking for it, each has one
-- replica, and one that is given no settings has those defaults.
abbrev pub broker_settings : List Setting
broker_settings =
    fixed (codes "auto.create.topics.enable") (codes "false") ∷
    fixed (codes "broker.id") (codes "0") ∷
    fixed (codes "default.replication.factor") (codes "1") ∷
    fixed (codes "log.cleanup.policy") (codes "delete") ∷
    fixed (codes "log.retention.bytes") (signed_decimal default_config.retention_bytes) ∷
    fixed (codes "log.retention.ms") (signed_decimal default_config.retention_ms) ∷ []

-- ---- what is answered of a resource

-- No names ask for all settings.
abbrev pub is_asked : Option (List (List ℕ)) → List ℕ → Bool
is_asked None name = true
is_asked (Some names) name = list_any (bytes_eq name) names

abbrev pub asked : Option (List (List ℕ)) → List Setting → List Setting
asked names ss = filter (λ (s : Setting). is_asked names s.name) ss

pub record Described : Type 0 where
  pub error_code : ℤ
  pub resource_type : ℤ
  pub resource_name : List ℕ
  pub settings : List Setting

-- a resource with those of its settings that are asked
abbrev pub answered : ℤ → ConfigResource → List Setting → Described
answered error r ss = record {
  error_code = error;
  resource_type = r.resource_type;
  resource_name = r.resource_name;
  settings = asked r.configuration_keys ss;
}

-- the settings of the topic of that name
abbrev pub config_named : List ℕ → List (ℕ × TopicState) → Option TopicConfig
config_named name ts = option_map (λ (t : TopicState). t.config) (option_and_then (λ i. topic_at i ts) (named name ts))

abbrev pub topic_found : ConfigResource → Option TopicConfig → Described
topic_found r None = answered (code_of errors.UnknownTopicOrPartition) r []
topic_found r (Some config) = answered (code_of errors.None) r (topic_settings config)

-- Type 2 is a topic, by its name; type 4 is a broker, by its id, and the one broker is 0. There is nothing else.
abbrev pub described : List (ℕ × TopicState) → ConfigResource → Described
described ts r =
    if int_eq r.resource_type (pos 2) then topic_found r (config_named r.resource_name ts)
    else if int_eq r.resource_type (pos 4) && bytes_eq r.resource_name (codes "0") then answered (code_of errors.None) r broker_settings
    else answered (code_of errors.InvalidRequest) r []

-- the resources that are asked, in their order
abbrev pub configs_of : List (ℕ × TopicState) → DescribeConfigsRequest → List Described
configs_of ts q = map (described ts) q.resources

-- ---- version 0; any other is version 1

abbrev pub is_old : ℤ → Bool
is_old version = int_eq version (pos 0)

-- Whether synonyms are asked is not looked at: no setting has any.
abbrev pub asked_configs : ℤ → List ℕ → Result DescribeConfigsRequest WireFault
asked_configs version body =
    if is_old version then whole describe_configs_request body
    else whole describe_configs_request_v1 body >>= (λ q. Ok (record { resources = q.resources }))

-- Nobody can change a setting of what is there, and none is a secret.
abbrev pub config_v0 : Setting → DescribedConfig
config_v0 s = record { name = s.name; value = Some s.value; read_only = true; is_default = s.is_default; is_sensitive = false }

-- From version 1 on it is told where a value comes from: 1 is the topic, 5 is the default.
abbrev pub config_v1 : Setting → DescribedConfigV1
config_v1 s = record {
  name = s.name;
  value = Some s.value;
  read_only = true;
  config_source = if s.is_default then pos 5 else pos 1;
  is_sensitive = false;
  synonyms = [];
}

abbrev pub resource_v0 : Described → DescribedResource
resource_v0 d = record {
  error_code = d.error_code;
  error_message = None;
  resource_type = d.resource_type;
  resource_name = d.resource_name;
  configs = map config_v0 d.settings;
}

abbrev pub resource_v1 : Described → DescribedResourceV1
resource_v1 d = record {
  error_code = d.error_code;
  error_message = None;
  resource_type = d.resource_type;
  resource_name = d.resource_name;
  configs = map config_v1 d.settings;
}

abbrev pub reply_v0 : List Described → DescribeConfigsReply
reply_v0 ds = record { throttle_time_ms = pos 0; results = map resource_v0 ds }

abbrev pub reply_v1 : List Described → DescribeConfigsReplyV1
reply_v1 ds = record { throttle_time_ms = pos 0; results = map resource_v1 ds }

-- the reply in bytes; nobody is ever held back
abbrev pub configs_as : Bool → List Described → List ℕ
configs_as old ds = if old then describe_configs_reply.written (reply_v0 ds) else describe_configs_reply_v1.written (reply_v1 ds)

abbrev pub configs_in : ℤ → List Described → List ℕ
configs_in version ds = configs_as (is_old version) ds

-- what it says of a setting, of settings behind their count, and of a resource
abbrev pub setting_as : Bool → Setting → List ℕ
setting_as old s = if old then described_config.written (config_v0 s) else described_config_v1.written (config_v1 s)

abbrev pub settings_as : Bool → List Setting → List ℕ
settings_as old ss = (count w32).written (length ss) ++ flat_map (setting_as old) ss

abbrev pub resource_as : Bool → Described → List ℕ
resource_as old d = if old then described_resource.written (resource_v0 d) else described_resource_v1.written (resource_v1 d)

-- resources behind their count and some bytes, until these are more than so many
abbrev pub resources_until : ℕ → Bool → List ℕ → List Described → List ℕ
resources_until most old out ds = written_until most (resource_as old) (out ++ (count w32).written (length ds)) ds

-- ---- what is written fits

abbrev pub FitsSetting : Setting → Type 0
FitsSetting s = string.Fits s.name × string.Fits s.value
