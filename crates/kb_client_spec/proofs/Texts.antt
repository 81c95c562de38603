-- The texts of requests and replies: their lengths, and what stands in front of them.
use Rattle.std.proofs.Common.{◌≡◌, ℕ, ◌+◌, ◌≤◌, true, false, List, [], ◌∷◌, ◌++◌, length, Some, None, Ok, refl, sym, ap, ◌∙◌, arith}
use Rattle.std.specs.Prelude.{ℤ, pos, negsuc, FitsSigned}
use Rattle.std.specs.Int.{w16, w32, w64, cast_signed, from_be_bytes}
use Rattle.std.specs.Ordering.{int_eq}
use Rattle.std.proofs.lemmas.Bool.Decides.{Decides-int_eq}
use Rattle.std.proofs.lemmas.Int.{ints}
use Rattle.std.proofs.lemmas.List.{append-nil, length-append}
use Rattle.kb_wire.specs.Codec.{Codec, int, int16, int32, int64, counted, nullable_counted, sized, nullable, octets, utf8, items, string, nullable_string, blob, nullable_blob, array, whole, ◌⊗◌}
use Rattle.kb_wire.specs.Fits.{blob_fits, null_string_fits}
use Rattle.kb_wire.specs.Laws.{IsLawful, blob_lawful}
use Rattle.kb_api_group.specs.Frames.{Front, Whole, Partial, TooSmall, TooLarge}
use Rattle.kb_api_group.specs.Frames as frames
use Rattle.kb_api_group.specs.ClientFrames.{REPLY_LIMIT, front}
use Rattle.kb_api_group.specs.FrameStream.{with_more, IsFrame}
use Rattle.kb_api_group.specs.Layouts.{request_header}
use Rattle.kb_api_group.specs.Lawful.{request_header_lawful}
use Rattle.kb_api_group.specs.declared.header.RequestHeader.{RequestHeader}
use Rattle.kb_api_group.proofs.Fronts.{front-only}
use Rattle.kb_api_group.proofs.Streams.{more_bytes}
use Rattle.kb_client.specs.Requests.{request_text}
use Rattle.kb_client_spec.specs.Receiver.{asked_by, request, request_of}

-- ---- numbers

pub int_same : (z : ℤ) → int_eq z z ≡ true
int_same z = (Decides-int_eq z z).1 refl

pub int_apart : (a b : ℤ) → (a ≡ b → ⊥) → int_eq a b ≡ false
int_apart a b apart = grind (arith, ints)

-- ---- what is spelled is read

pub whole_spelled : {A : Type 0} (c : Codec A) → IsLawful c → (s : List ℕ) (v : A) → c.Spells s v → whole c s ≡ Ok v
whole_spelled c l s v h =
    let e : c.read s ≡ Ok (v, []) = ap c.read (sym (append-nil s)) ∙ l.only s v [] h in
    rw e refl

pub whole_written : {A : Type 0} (c : Codec A) → IsLawful c → (v : A) → c.InRange v → c.Fits v → whole c (c.written v) ≡ Ok v
whole_written c l v ranged fits = whole_spelled c l (c.written v) v (l.again v ranged fits)

-- the number that eight bytes spell, where any was written
pub wrapped : ℤ → ℤ
wrapped z = cast_signed w64 (from_be_bytes w64 (int64.written z))

pub wrapped_spelled : (z : ℤ) → int64.Spells (int64.written z) (wrapped z)
unfolding int wrapped
wrapped_spelled z = (refl, refl)

-- ---- lengths

pub pair_len : {A B : Type 0} (a : Codec A) (b : Codec B) (v : A) (w : B) → length ((a ⊗ b).written (v, w)) ≡ length (a.written v) + length (b.written w)
pair_len a b v w = length-append (a.written v) (b.written w)

pub int16_len : (z : ℤ) → length (int16.written z) ≡ 2
unfolding int
int16_len z = refl

pub int32_len : (z : ℤ) → length (int32.written z) ≡ 4
unfolding int
int32_len z = refl

pub int64_len : (z : ℤ) → length (int64.written z) ≡ 8
unfolding int
int64_len z = refl

pub string_len : (v : List ℕ) → length (string.written v) ≡ 2 + length v
unfolding sized counted utf8
string_len v = omega (arith, length-append (int16.written (pos (length v))) v, int16_len (pos (length v)))

pub blob_len : (v : List ℕ) → length (blob.written v) ≡ 4 + length v
unfolding sized counted octets
blob_len v = omega (arith, length-append (int32.written (pos (length v))) v, int32_len (pos (length v)))

pub some_blob_len : (v : List ℕ) → length (nullable_blob.written (Some v)) ≡ 4 + length v
unfolding nullable nullable_counted octets
some_blob_len v = omega (arith, length-append (int32.written (pos (length v))) v, int32_len (pos (length v)))

pub no_string_len : length (nullable_string.written None) ≡ 2
unfolding nullable nullable_counted
no_string_len = int16_len (negsuc 0)

pub one_len : {A : Type 0} (c : Codec A) (v : A) → length ((array c).written (v ∷ [])) ≡ 4 + length (c.written v)
unfolding sized counted items
one_len c v = omega (arith, length-append (int32.written (pos 1)) (c.written v ++ []), int32_len (pos 1), ap length (append-nil (c.written v)))

pub none_len : {A : Type 0} (c : Codec A) → length ((array c).written []) ≡ 4
unfolding sized counted items
none_len c = omega (arith, length-append (int32.written (pos 0)) [], int32_len (pos 0))

-- ---- frames

pub front_nothing : front [] ≡ Partial
unfolding frames.front int
front_nothing = refl

frame_text : (m : List ℕ) → 8 ≤ length m → length m ≤ REPLY_LIMIT → IsFrame REPLY_LIMIT (blob.written m) m
unfolding sized counted octets
frame_text m least most = record { size = (least, most); spelled = blob_lawful.again m (tt, tt) (blob_fits m (omega (arith, most))) }

pub front_text : (m : List ℕ) → 8 ≤ length m → length m ≤ REPLY_LIMIT → front (blob.written m) ≡ Whole m []
front_text m least most = front-only REPLY_LIMIT (blob.written m) (Whole m []) (blob.written m, frame_text m least most, sym (append-nil (blob.written m)))

behind_nothing : (r y : List ℕ) → r ++ y ≡ [] → y ≡ []
behind_nothing [] y e = e
behind_nothing (b ∷ r) y e = absurd cc

partial_by : (F : Front) (x y m : List ℕ) → with_more REPLY_LIMIT F x y ≡ Whole m [] → (y ≡ [] → ⊥) → F ≡ Partial
partial_by (Whole f r) x y m e some = let none : r ++ y ≡ [] = cc in absurd (some (behind_nothing r y none))
partial_by Partial x y m e some = refl
partial_by TooSmall x y m e some = absurd cc
partial_by TooLarge x y m e some = absurd cc

-- a part of a frame is less than a frame
pub front_part : (x y m : List ℕ) → front (x ++ y) ≡ Whole m [] → (y ≡ [] → ⊥) → front x ≡ Partial
front_part x y m e some = partial_by (front x) x y m (sym (more_bytes REPLY_LIMIT x y) ∙ e) some

-- ---- requests

unfoldable pub header : ℤ → ℤ → ℤ → RequestHeader
header key version id = record { api_key = key; api_version = version; correlation_id = id; client_id = None }

header_len : (key version id : ℤ) → length (request_header.written (header key version id)) ≡ 10
unfolding request_header header
header_len key version id = omega (arith, pair_len int16 (int16 ⊗ int32 ⊗ nullable_string) key (version, (id, None)), pair_len int16 (int32 ⊗ nullable_string) version (id, None), pair_len int32 nullable_string id None, int16_len key, int16_len version, int32_len id, no_string_len)

pub header_read : (key version id : ℤ) (body : List ℕ) → FitsSigned w16 key → FitsSigned w16 version → FitsSigned w32 id → request_header.read (request_header.written (header key version id) ++ body) ≡ Ok (header key version id, body)
unfolding request_header header int nullable nullable_counted
header_read key version id body k v i = request_header_lawful.only (request_header.written (header key version id)) (header key version id) body (request_header_lawful.again (header key version id) (k, (v, (i, (tt)))) (tt, (tt, (tt, null_string_fits))))

pub request_read : (key version id : ℤ) (body : List ℕ) → FitsSigned w16 key → FitsSigned w16 version → FitsSigned w32 id → request (request_header.written (header key version id) ++ body) ≡ record { correlation_id = id; asked = asked_by key version body }
unfolding request header
request_read key version id body k v i = ap request_of (header_read key version id body k v i)

pub front_request : (key version id : ℤ) (body : List ℕ) → length body ≤ 2000000 → front (request_text key version id body) ≡ Whole (request_header.written (header key version id) ++ body) []
unfolding header
front_request key version id body small =
    let len : length (request_header.written (header key version id) ++ body) ≡ 10 + length body = omega (arith, length-append (request_header.written (header key version id)) body, header_len key version id) in
    front_text (request_header.written (header key version id) ++ body) (omega (arith, len)) (omega (arith, len, small))

-- ---- replies

pub front_reply : (id : ℤ) (body : List ℕ) → 4 ≤ length body → length body ≤ 2000000 → front (blob.written (int32.written id ++ body)) ≡ Whole (int32.written id ++ body) []
front_reply id body least most =
    let len : length (int32.written id ++ body) ≡ 4 + length body = omega (arith, length-append (int32.written id) body, int32_len id) in
    front_text (int32.written id ++ body) (omega (arith, len, least)) (omega (arith, len, most))
