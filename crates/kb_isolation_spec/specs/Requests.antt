-- What a connection's bytes ask (Kafka protocol guide, "Protocol Primitives", "Request Header").
use Rattle.std.specs.Prelude.{ℕ, ℤ, List, Bool, not, ◌&&◌, int_le, if◌then◌else◌, Result, Ok, Err}
use Rattle.std.specs.Ordering.{int_eq}
use Rattle.std.specs.List.{list_any}
use Rattle.kb_wire.specs.Codec.{whole}
use Rattle.kb_wire.specs.declared.api_key.TheConstants.{SASL_HANDSHAKE, API_VERSIONS, SASL_AUTHENTICATE}
use Rattle.kb_wire.specs.declared.fault.WireFault.{WireFault}
use Rattle.kb_api_group.specs.Layouts.{request_start, request_header, api_versions_request, sasl_handshake_request}
use Rattle.kb_api_group.specs.Layouts.{sasl_authenticate_request}
use Rattle.kb_api_group.specs.declared.header.RequestStart.{RequestStart}
use Rattle.kb_api_group.specs.declared.header.RequestHeader.{RequestHeader}
use Rattle.kb_api_group.specs.declared.api_versions.ApiVersion.{ApiVersion}
use Rattle.kb_isolation_spec.specs.declared.head.Head.{Head}
use Rattle.kb_isolation_spec.specs.declared.shut.Shut.{Shut}
use Rattle.kb_isolation_spec.specs.declared.shut.Shut.TheVariants as causes
use Rattle.kb_isolation_spec.specs.Versions.{base_of, head_of, no_head}

-- whether an entry lists a key at a version: from its least version to its greatest
abbrev pub is_listed_in : ℤ → ℤ → ApiVersion → Bool
is_listed_in key version entry = int_eq entry.api_key key && (int_le entry.min_version version && int_le version entry.max_version)

-- whether a key is served at a version: where an entry of what is listed has it
unfoldable pub is_served : List ApiVersion → ℤ → ℤ → Bool
is_served versions key version = list_any (is_listed_in key version) versions

-- what a request asks: the versions, a step of the SASL greeting, or something of a tenant; or its bytes match nothing that is served
pub data Asked : Type 0 where
  Versions : Asked
  OtherVersions : Asked
  Handshake : (version : ℤ) (mechanism : List ℕ) → Asked
  Authenticate : (message : List ℕ) → Asked
  Another : (key version : ℤ) (body : List ℕ) → Asked
  Malformed : Asked

abbrev pub read_or_malformed : {A : Type 0} → Result A WireFault → (A → Asked) → Asked
read_or_malformed (Ok v) f = f v
read_or_malformed (Err fault) f = Malformed

-- a body, by its key: the tenant is asked in the version that the request's is laid out as
abbrev pub asked_by : ℤ → ℤ → List ℕ → Asked
asked_by key version body =
    if int_eq key API_VERSIONS then read_or_malformed (whole api_versions_request body) (λ v. Versions)
    else if int_eq key SASL_HANDSHAKE then read_or_malformed (whole sasl_handshake_request body) (λ v. Handshake version v.mechanism)
    else if int_eq key SASL_AUTHENTICATE then read_or_malformed (whole sasl_authenticate_request body) (λ v. Authenticate v.auth_bytes)
    else Another key (base_of key version).version body

-- a header, and the body behind it
abbrev pub asked_behind : List ApiVersion → Result (RequestHeader × List ℕ) WireFault → Asked
asked_behind versions (Err fault) = Malformed
asked_behind versions (Ok h) =
    if is_served versions h.0.api_key h.0.api_version then asked_by h.0.api_key h.0.api_version h.1 else Malformed

-- a request: what is kept of it for its reply, and what it asks
pub record Request : Type 0 where
  pub head : Head
  pub asked : Asked

-- ApiVersions of a version that is not listed is known by its key and version alone
abbrev pub request_at : List ApiVersion → List ℕ → Result (RequestStart × List ℕ) WireFault → Request
request_at versions frame (Err fault) = record { head = no_head; asked = Malformed }
request_at versions frame (Ok s) = record {
  head = head_of s.0;
  asked = if int_eq s.0.api_key API_VERSIONS && not (is_served versions s.0.api_key s.0.api_version) then OtherVersions
      else asked_behind versions (request_header.read frame);
}

-- the request of a frame, where those versions are listed
unfoldable pub request : List ApiVersion → List ℕ → Request
request versions frame = request_at versions frame (request_start.read frame)

-- why the connection of a request of that head is shut whose bytes match nothing that is served
abbrev pub unserved : List ApiVersion → Head → Shut
unserved versions head =
    if is_served versions head.api_key head.api_version then causes.Unanswerable head.api_key head.api_version
    else causes.NotServed head.api_key head.api_version
