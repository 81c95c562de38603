-- Kafka's names of error codes (Kafka protocol guide, "Error Codes"): of those that answer SaslHandshake, SaslAuthenticate,
-- CreateTopics, DeleteTopics and Metadata.
use Rattle.std.specs.Prelude.{ℕ, ℤ, pos, negsuc, List, Option, Some, None, codes, if◌then◌else◌}
use Rattle.std.specs.Ordering.{int_eq}

-- of a topic's partitions and settings
unfoldable pub partitions_name : ℤ → Option (List ℕ)
partitions_name code =
    if int_eq code (pos 37) then Some (codes "INVALID_PARTITIONS")
    else if int_eq code (pos 38) then Some (codes "INVALID_REPLICATION_FACTOR")
    else if int_eq code (pos 39) then Some (codes "INVALID_REPLICA_ASSIGNMENT")
    else if int_eq code (pos 40) then Some (codes "INVALID_CONFIG")
    else None

-- of a topic
unfoldable pub topic_name : ℤ → Option (List ℕ)
topic_name code =
    if int_eq code (pos 3) then Some (codes "UNKNOWN_TOPIC_OR_PARTITION")
    else if int_eq code (pos 17) then Some (codes "INVALID_TOPIC_EXCEPTION")
    else if int_eq code (pos 29) then Some (codes "TOPIC_AUTHORIZATION_FAILED")
    else if int_eq code (pos 36) then Some (codes "TOPIC_ALREADY_EXISTS")
    else if int_eq code (pos 44) then Some (codes "POLICY_VIOLATION")
    else partitions_name code

-- of a login, or a topic
unfoldable pub login_name : ℤ → Option (List ℕ)
login_name code =
    if int_eq code (pos 33) then Some (codes "UNSUPPORTED_SASL_MECHANISM")
    else if int_eq code (pos 34) then Some (codes "ILLEGAL_SASL_STATE")
    else if int_eq code (pos 58) then Some (codes "SASL_AUTHENTICATION_FAILED")
    else topic_name code

-- of any request, where the code is not negative
unfoldable pub refusal_name : ℤ → Option (List ℕ)
refusal_name code =
    if int_eq code (pos 7) then Some (codes "REQUEST_TIMED_OUT")
    else if int_eq code (pos 35) then Some (codes "UNSUPPORTED_VERSION")
    else if int_eq code (pos 41) then Some (codes "NOT_CONTROLLER")
    else if int_eq code (pos 42) then Some (codes "INVALID_REQUEST")
    else if int_eq code (pos 56) then Some (codes "KAFKA_STORAGE_ERROR")
    else login_name code

-- of any request
unfoldable pub code_name : ℤ → Option (List ℕ)
code_name code =
    if int_eq code (negsuc 0) then Some (codes "UNKNOWN_SERVER_ERROR")
    else refusal_name code
