-- FindCoordinator (Kafka protocol guide, "The Messages: FindCoordinator", versions 0 and 1): which broker looks after a group?
use Rattle.std.specs.Prelude.{ℤ, pos, negsuc, Bool, true, List, ℕ, [], None, Result, Ok, int_le, if◌then◌else◌}
use Rattle.std.specs.Ordering.{int_eq}
use Rattle.kb_wire.specs.Codec.{int8, int16, int32, string, nullable_string, whole, ◌>>=◌, ◌⊗◌}
use Rattle.kb_wire.specs.ErrorCode.{code_of}
use Rattle.kb_wire.specs.declared.error_code.ErrorCode.TheVariants as codes
use Rattle.kb_wire.specs.declared.fault.WireFault.{WireFault}
use Rattle.kb_api_data.specs.Both.{both}
use Rattle.kb_api_group.specs.Layouts.{find_coordinator_reply, find_coordinator_request}
use Rattle.kb_api_group.specs.declared.find_coordinator.FindCoordinatorReply.{FindCoordinatorReply}
use Rattle.kb_tenant.specs.declared.node.Node.{Node}

-- the one broker, as Metadata tells it, whatever the group is
abbrev pub coordinator : Node → FindCoordinatorReply
coordinator node = record { error_code = code_of codes.None; node_id = pos 0; host = node.host; port = pos node.port }

-- Nobody looks after anything else, as transactions: TRANSACTIONAL_ID_AUTHORIZATION_FAILED, which clients do not ask again.
abbrev pub no_coordinator : FindCoordinatorReply
no_coordinator = record { error_code = pos 53; node_id = negsuc 0; host = []; port = negsuc 0 }

-- the answer for a key that is a group's or not
abbrev pub coordinator_for : Node → Bool → FindCoordinatorReply
coordinator_for node is_group = if is_group then coordinator node else no_coordinator

-- ---- versions from 1 on; any other is version 0

-- From version 1 on a request says behind its key what type that has, and a reply has a message, which is null.
abbrev pub has_key_type : ℤ → Bool
has_key_type version = int_le (pos 1) version

-- whether the key that a body asks for is a group's: that of type 0, and each of version 0
abbrev pub is_group_as : Bool → List ℕ → Result Bool WireFault
is_group_as has body =
    if has then whole (both find_coordinator_request int8) body >>= (λ q. Ok (int_eq q.second (pos 0)))
    else whole find_coordinator_request body >>= (λ q. Ok true)

abbrev pub asked_coordinator : ℤ → List ℕ → Result Bool WireFault
asked_coordinator version body = is_group_as (has_key_type version) body

-- A reply of version 1, behind its throttle time: a code, a message that is null, and the broker's id, host and port.
abbrev pub with_message : FindCoordinatorReply → List ℕ
with_message r = (int16 ⊗ nullable_string ⊗ int32 ⊗ string ⊗ int32).written (r.error_code, (None, (r.node_id, (r.host, r.port))))

-- the reply in bytes
abbrev pub coordinator_as : Bool → FindCoordinatorReply → List ℕ
coordinator_as has r = if has then with_message r else find_coordinator_reply.written r

abbrev pub coordinator_in : ℤ → FindCoordinatorReply → List ℕ
coordinator_in version r = coordinator_as (has_key_type version) r
