-- What is counted of tenants' requests, and where a request has its API key.
use Rattle.std.specs.Prelude.{ℕ, List, [], ◌∷◌, ◌+◌, ◌-◌, ◌^◌, min, length, Bool, nat_lt, if◌then◌else◌, Option, None, Some, option_map, unwrap_or, slice_get, slice_index_or, slice_set}
use Rattle.std.specs.Int.{w16, from_be_bytes}
use Rattle.kb_node.specs.declared.tenant_traffic.Heading.{Heading}
use Rattle.kb_node.specs.declared.tenant_traffic.TenantTraffic.{TenantTraffic}

-- 1. Where a request has its API key

-- the byte at a place of a request of which so many came before a piece, where the piece has it
abbrev pub byte_in : ℕ → ℕ → List ℕ → Option ℕ
byte_in place seen piece = if nat_lt place seen then None else slice_get piece (place - seen)

-- The API key of a request, behind the four bytes of its size, where its last byte is in the piece. Its first one is in it too, or came
-- before.
abbrev pub key_in : ℕ → ℕ → List ℕ → Option ℕ
key_in seen high piece =
    option_map (λ low. from_be_bytes w16 (unwrap_or (byte_in 4 seen piece) high ∷ low ∷ [])) (byte_in 5 seen piece)

-- How many bytes came of the request before: none where it begins here, and as many as are looked for where it has no key.
abbrev pub seen_before : Bool → Bool → ℕ → ℕ
seen_before is_begun is_bare seen = if is_bare then 6 else (if is_begun then seen else 0)

abbrev pub key_or : Option ℕ → Option ℕ → Option ℕ
key_or None key = key
key_or (Some found) key = Some found

-- a piece is handed on where so much of the request was seen before
abbrev pub noted_from : ℕ → List ℕ → Heading → Heading
noted_from seen piece h = record {
  seen = min (seen + length piece) 6;
  high = unwrap_or (byte_in 4 seen piece) h.high;
  key = key_or (key_in seen h.high piece) h.key;
}

abbrev pub noted_piece : Bool → Bool → List ℕ → Heading → Heading
noted_piece is_begun is_bare piece h = noted_from (seen_before is_begun is_bare h.seen) piece h

-- 2. What is counted

-- one more at a place, as far as 64 bits go, and at none where there is no such place
abbrev pub with_one_more : ℕ → List ℕ → List ℕ
with_one_more place counts =
    if nat_lt place (length counts) then slice_set counts place (min (slice_index_or counts place 0 + 1) (2 ^ 64 - 1)) else counts

abbrev pub with_request : Option ℕ → List ℕ → List ℕ
with_request None counts = counts
with_request (Some key) counts = with_one_more key counts

-- a request of a key, if one began, and so many bytes more
abbrev pub with_traffic : Option ℕ → ℕ → ℕ → TenantTraffic → TenantTraffic
with_traffic key read written t = record {
  requests = with_request key t.requests;
  request_bytes = min (t.request_bytes + read) (2 ^ 64 - 1);
  response_bytes = min (t.response_bytes + written) (2 ^ 64 - 1);
}
