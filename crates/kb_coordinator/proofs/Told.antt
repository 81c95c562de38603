-- What tools are told, part by part.
use Rattle.std.proofs.Common.{◌≡◌, ◌∙◌, sym, ap, refl, ℕ, ◌+◌, List, [], ◌++◌, map, ℤ, Some, drop, slice_get, append_assoc, w32}
use Rattle.std.proofs.lemmas.List.{append-nil}
use Rattle.std.specs.List.{flat_map}
use Rattle.kb_wire.specs.Codec.{Codec, array, blob, count, int16, string}
use Rattle.kb_api_group.specs.Layouts.{described_group, described_member}
use Rattle.kb_api_group.specs.declared.describe_groups.DescribedMember.{DescribedMember}
use Rattle.kb_coordinator.proofs.Lists.{drop_next}
use Rattle.kb_coordinator.proofs.Written.{array_written, written_both}

-- one entry is written, and the others are to come
pub write_at : {E A : Type 0} (write : A → List ℕ) (f : E → A) (out more : List ℕ) (es : List E) (i : ℕ) (e : E) → slice_get es i ≡ Some e → more ≡ out ++ write (f e)
    → more ++ flat_map write (map f (drop (i + 1) es)) ≡ out ++ flat_map write (map f (drop i es))
write_at write f out more es i e at wrote =
    ap (λ m. m ++ flat_map write (map f (drop (i + 1) es))) wrote
    ∙ append_assoc out (write (f e)) (flat_map write (map f (drop (i + 1) es)))
    ∙ sym (ap (λ l. out ++ flat_map write (map f l)) (drop_next i es e at))

-- no entry
pub none_written : {A : Type 0} (c : Codec A) (s0 s1 : List ℕ) → s1 ≡ s0 ++ (count w32).written 0 → s1 ≡ s0 ++ (array c).written []
none_written c s0 s1 e = e ∙ ap (λ x. s0 ++ x) (sym (append-nil ((count w32).written 0)) ∙ array_written c [] 0 refl)

-- a member
pub member_written : (id client host metadata assignment : List ℕ) (s0 s1 s2 s3 s4 s5 : List ℕ)
    → s1 ≡ s0 ++ string.written id → s2 ≡ s1 ++ string.written client → s3 ≡ s2 ++ string.written host → s4 ≡ s3 ++ blob.written metadata → s5 ≡ s4 ++ blob.written assignment
    → s5 ≡ s0 ++ described_member.written (record { member_id = id; client_id = client; client_host = host; member_metadata = metadata; member_assignment = assignment })
unfolding described_member
member_written id client host metadata assignment s0 s1 s2 s3 s4 s5 a b c d e =
    let last = blob.written assignment in
    let four = blob.written metadata ++ last in
    let three = string.written host ++ four in
    let two = string.written client ++ three in
    written_both s0 s1 s5 (string.written id) two a
    (written_both s1 s2 s5 (string.written client) three b
    (written_both s2 s3 s5 (string.written host) four c
    (written_both s3 s4 s5 (blob.written metadata) last d e)))

-- a group, but for its members
pub group_written : (code : ℤ) (id state kind protocol : List ℕ) (members : List DescribedMember) (s0 s1 s2 s3 s4 s5 : List ℕ)
    → s1 ≡ s0 ++ int16.written code → s2 ≡ s1 ++ string.written id → s3 ≡ s2 ++ string.written state → s4 ≡ s3 ++ string.written kind → s5 ≡ s4 ++ string.written protocol
    → s5 ++ (array described_member).written members ≡ s0 ++ described_group.written (record { error_code = code; group_id = id; group_state = state; protocol_type = kind; protocol_data = protocol; members = members })
unfolding described_group
group_written code id state kind protocol members s0 s1 s2 s3 s4 s5 a b c d e =
    let last = (array described_member).written members in
    let five = string.written protocol ++ last in
    let four = string.written kind ++ five in
    let three = string.written state ++ four in
    let all = s5 ++ last in
    written_both s0 s1 all (int16.written code) (string.written id ++ three) a
    (written_both s1 s2 all (string.written id) three b
    (written_both s2 s3 all (string.written state) four c
    (written_both s3 s4 all (string.written kind) five d
    (written_both s4 s5 all (string.written protocol) last e refl))))
