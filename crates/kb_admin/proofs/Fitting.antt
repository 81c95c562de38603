-- The requests fit their fields.
use Rattle.std.proofs.Common.{◌≡◌, ℕ, ◌≤◌, ℤ, List, [], ◌∷◌, ◌++◌, length, Some, None, codes, lit<, subst, sym, ap, ◌∙◌, arith}
use Rattle.std.specs.Prelude.{All}
use Rattle.std.proofs.lemmas.List.Elements.{All-cons, All-nil}
use Rattle.kb_wire.specs.Codec.{string, array, int}
use Rattle.kb_wire.specs.Fits.{string_fits, nullable_string_fits, array_fits, null_string_fits, null_array_fits, blob_fits}
use Rattle.kb_api_group.specs.Layouts.{request_header, sasl_handshake_request, sasl_authenticate_request}
use Rattle.kb_api_data.specs.Layouts.{create_topics_request, create_topic, create_assignment, create_config, delete_topics_request, metadata_request}
use Rattle.kb_api_data.specs.declared.create_topics.CreateTopic.{CreateTopic}
use Rattle.kb_api_data.specs.declared.create_topics.CreateAssignment.{CreateAssignment}
use Rattle.kb_api_data.specs.declared.create_topics.CreateConfig.{CreateConfig}

pub header_fits : (key version id : ℤ) → request_header.Fits (record { api_key = key; api_version = version; correlation_id = id; client_id = None })
unfolding request_header int
header_fits key version id = (tt, (tt, (tt, null_string_fits)))

pub handshake_fits : (mechanism : List ℕ) → mechanism ≡ codes "PLAIN" → sasl_handshake_request.Fits (record { mechanism = mechanism })
unfolding sasl_handshake_request
handshake_fits mechanism is = subst string.Fits (sym is) (string_fits (codes "PLAIN") (lit< tt))

pub authenticate_fits : (message : List ℕ) → length message ≤ 512 → sasl_authenticate_request.Fits (record { auth_bytes = message })
unfolding sasl_authenticate_request
authenticate_fits message short = blob_fits message (omega (arith, short))

pub list_fits : metadata_request.Fits (record { topics = None })
unfolding metadata_request
list_fits = null_array_fits string

pub delete_fits : (names old : List (List ℕ)) (name : List ℕ) (time : ℤ) → length name ≤ 255 → old ≡ [] → names ≡ old ++ name ∷ [] → delete_topics_request.Fits (record { names = names; timeout_ms = time })
unfolding delete_topics_request int
delete_fits names old name time short none is =
    let one : names ≡ name ∷ [] = is ∙ ap (λ xs. xs ++ name ∷ []) none in
    (subst (array string).Fits (sym one) (array_fits string _ (lit< tt) (All-cons string.Fits name [] (string_fits name (omega (arith, short))) (All-nil string.Fits))), tt)

pub config_fits : (key value : List ℕ) → length key ≤ 255 → length value ≤ 255 → create_config.Fits (record { name = key; value = Some value })
unfolding create_config
config_fits key value short brief = (string_fits key (omega (arith, short)), nullable_string_fits value (omega (arith, brief)))

-- a topic whose name is short, with no assignment
topic_fits : (name : List ℕ) (partitions factor : ℤ) (configs : List CreateConfig) → length name ≤ 255 → length configs ≤ 2147483647 → All create_config.Fits configs → create_topic.Fits (record { name = name; num_partitions = partitions; replication_factor = factor; assignments = []; configs = configs })
unfolding create_topic int
topic_fits name partitions factor configs short few fit = (string_fits name (omega (arith, short)), (tt, (tt, (array_fits create_assignment [] (lit< tt) (All-nil create_assignment.Fits), array_fits create_config configs (omega (arith, few)) fit))))

pub create_fits : (name : List ℕ) (partitions factor time : ℤ) (assignments : List CreateAssignment) (configs : List CreateConfig) (old new : List CreateTopic) → length name ≤ 255 → length configs ≤ 2147483647 → All create_config.Fits configs → assignments ≡ [] → old ≡ [] → new ≡ old ++ record { name = name; num_partitions = partitions; replication_factor = factor; assignments = assignments; configs = configs } ∷ [] → create_topics_request.Fits (record { topics = new; timeout_ms = time })
unfolding create_topics_request int
create_fits name partitions factor time assignments configs old new short few fit no_assignments none is =
    let bare : CreateTopic = record { name = name; num_partitions = partitions; replication_factor = factor; assignments = []; configs = configs } in
    let one : new ≡ bare ∷ [] = is ∙ ap (λ xs. xs ++ record { name = name; num_partitions = partitions; replication_factor = factor; assignments = assignments; configs = configs } ∷ []) none ∙ ap (λ a. record { name = name; num_partitions = partitions; replication_factor = factor; assignments = a; configs = configs } ∷ []) no_assignments in
    (subst (array create_topic).Fits (sym one) (array_fits create_topic _ (lit< tt) (All-cons create_topic.Fits bare [] (topic_fits name partitions factor configs short few fit) (All-nil create_topic.Fits))), tt)
