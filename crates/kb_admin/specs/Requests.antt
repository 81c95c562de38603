-- The requests of a session, each as its bytes.
use Rattle.std.specs.Prelude.{ℕ, ℤ, pos, List, [], ◌∷◌, ◌++◌, Some, None, map}
use Rattle.kb_wire.specs.declared.api_key.TheConstants.{METADATA, CREATE_TOPICS, DELETE_TOPICS, SASL_AUTHENTICATE}
use Rattle.kb_api_group.specs.Layouts.{sasl_authenticate_request}
use Rattle.kb_api_data.specs.Layouts.{create_topics_request, delete_topics_request, metadata_request}
use Rattle.kb_api_data.specs.declared.create_topics.CreateConfig.{CreateConfig}
use Rattle.kb_client.specs.Requests.{request_text}
use Rattle.kb_admin.specs.declared.task.Setting.{Setting}
use Rattle.kb_admin.specs.declared.task.NewTopic.{NewTopic}
use Rattle.kb_admin.specs.declared.task.Task.{Task}
use Rattle.kb_admin.specs.declared.task.Task.TheVariants as tasks

-- the message of PLAIN (RFC 4616): no authorization identity, the user and the password
abbrev pub plain_message : List ℕ → List ℕ → List ℕ
plain_message user password = 0 ∷ user ++ 0 ∷ password

-- SaslAuthenticate
abbrev pub authenticate_text : ℤ → List ℕ → List ℕ → List ℕ
authenticate_text id user password =
    request_text SASL_AUTHENTICATE (pos 0) id (sasl_authenticate_request.written (record { auth_bytes = plain_message user password }))

-- a setting, as CreateTopics has it
abbrev pub config_of : Setting → CreateConfig
config_of s = record { name = s.key; value = Some s.value }

-- CreateTopics: the topic with its partitions and settings, one replica and no assignment
abbrev pub create_text : ℤ → NewTopic → List ℕ
create_text id t = request_text CREATE_TOPICS (pos 0) id (create_topics_request.written (record {
  topics = record {
    name = t.name;
    num_partitions = t.partitions;
    replication_factor = pos 1;
    assignments = [];
    configs = map config_of t.settings.items;
  } ∷ [];
  timeout_ms = pos 5000;
}))

-- DeleteTopics: the one topic
abbrev pub delete_text : ℤ → List ℕ → List ℕ
delete_text id name =
    request_text DELETE_TOPICS (pos 0) id (delete_topics_request.written (record { names = name ∷ []; timeout_ms = pos 5000 }))

-- Metadata: null asks for all topics
abbrev pub list_text : ℤ → List ℕ
list_text id = request_text METADATA (pos 1) id (metadata_request.written (record { topics = None }))

-- the request of a task
abbrev pub task_text : ℤ → Task → List ℕ
task_text id (tasks.Create topic) = create_text id topic
task_text id (tasks.Delete name) = delete_text id name
task_text id tasks.List = list_text id
