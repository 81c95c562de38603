-- What is written of a coordinator, from version 1 on.
use Rattle.std.proofs.Common.{◌≡◌, ◌∙◌, ◌++◌, ap, ℤ, Bool, true, false, List, ℕ, None}
use Rattle.kb_wire.specs.Codec.{int16, int32, string, nullable_string}
use Rattle.kb_api_group.specs.declared.find_coordinator.FindCoordinatorReply.{FindCoordinatorReply}
use Rattle.kb_tenant.specs.FindCoordinator.{coordinator_as}
use Rattle.kb_tenant.proofs.Fitting.{written_both}

-- field by field, with a message that is null
pub message_written : (has : Bool) (r : FindCoordinatorReply) (code id port : ℤ) (host s0 s1 s2 s3 s4 s5 : List ℕ) → has ≡ true → code ≡ r.error_code
    → id ≡ r.node_id → host ≡ r.host → port ≡ r.port → s1 ≡ s0 ++ int16.written code → s2 ≡ s1 ++ nullable_string.written None → s3 ≡ s2 ++ int32.written id
    → s4 ≡ s3 ++ string.written host → s5 ≡ s4 ++ int32.written port → s5 ≡ s0 ++ coordinator_as has r
message_written false r code id port host s0 s1 s2 s3 s4 s5 is code_is id_is host_is port_is a b c d e = absurd cc
message_written true r code id port host s0 s1 s2 s3 s4 s5 is code_is id_is host_is port_is a b c d e =
    let null = nullable_string.written None in
    let place = string.written r.host ++ int32.written r.port in
    let node = int32.written r.node_id ++ place in
    let one : s5 ≡ s3 ++ place = written_both s3 s4 s5 (string.written r.host) (int32.written r.port)
    (d ∙ ap (λ x. s3 ++ string.written x) host_is) (e ∙ ap (λ x. s4 ++ int32.written x) port_is) in
    let two : s5 ≡ s2 ++ node = written_both s2 s3 s5 (int32.written r.node_id) place (c ∙ ap (λ x. s2 ++ int32.written x) id_is) one in
    let three : s5 ≡ s1 ++ (null ++ node) = written_both s1 s2 s5 null node b two in
    written_both s0 s1 s5 (int16.written r.error_code) (null ++ node) (a ∙ ap (λ x. s0 ++ int16.written x) code_is) three
