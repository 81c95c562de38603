-- The steps of an OffsetCommit.
use Rattle.std.proofs.Common.{◌≡◌, ◌∙◌, sym, ap, refl, inl, inr, ⊎_elim, ℕ, ℤ, pos, negsuc, Bool, Bor, true, false, List, ◌++◌, length, Option, Some, None, Result, Ok, Err}
use Rattle.std.specs.Int.{w32}
use Rattle.std.specs.Option.{option_copied}
use Rattle.std.specs.Prelude.{◌&&◌, ◌||◌, ◌+◌, is_some, nat_lt, not}
use Rattle.std.specs.List.{flat_map}
use Rattle.kb_wire.specs.Codec.{Codec, array, count, int32, int64, items, sized, string, int}
use Rattle.kb_api_data.specs.Both.{both}
use Rattle.kb_api_data.specs.declared.both.Both.{Both}
use Rattle.kb_wire.specs.ErrorCode.{code_of}
use Rattle.kb_wire.specs.declared.error_code.ErrorCode.TheVariants as codes
use Rattle.kb_api_group.specs.Layouts.{commit_partition, commit_partition_reply, commit_topic, commit_topic_reply, offset_commit_request, offset_commit_reply}
use Rattle.kb_api_group.specs.declared.offset_commit.CommitPartition.{CommitPartition}
use Rattle.kb_api_group.specs.declared.offset_commit.CommitPartitionReply.{CommitPartitionReply}
use Rattle.kb_api_group.specs.declared.offset_commit.CommitTopic.{CommitTopic}
use Rattle.kb_api_group.specs.declared.offset_commit.OffsetCommitRequest.{OffsetCommitRequest}
use Rattle.kb_tenant_state.specs.Scene.{Scene}
use Rattle.kb_topics.specs.CatalogFault.{code_of as fault_code}
use Rattle.kb_topics.specs.Known.{CommittedOffset, named}
use Rattle.kb_topics.specs.declared.fault.CatalogFault.{CatalogFault}
use Rattle.kb_topics.specs.declared.fault.CatalogFault.TheVariants as catalog
use Rattle.kb_tenant_state.specs.Calls.{commit, committed as committed_to}
use Rattle.kb_tenant_state.specs.Parts.{Seen}
use Rattle.kb_tenant_state.specs.Stored.{offsets_in, texts_in}
use Rattle.kb_tenant_state.specs.Told.{IsCatalogWant, IsDone, Tells}
use Rattle.kb_tenant_state.specs.World.{World, place_in}
use Rattle.kb_tenant_state.specs.declared.topic_partition.TopicPartition.{TopicPartition}
use Rattle.kb_tenant.specs.CreateTopics.{code_in}
use Rattle.kb_tenant.specs.Limits.{is_past, left_of}
use Rattle.kb_tenant.specs.OffsetCommit.{brings_too_much, committed, committed_all, committed_at, committed_entry, committed_topic, committed_unless_full, entry_with, is_one_too_many, is_over_limits, is_takeable, metadata_in, plain, plain_entry, plain_topic, request_with, text_brought, topic_with}
use Rattle.kb_tenant.specs.Produce.{written_next}
use Rattle.kb_tenant.specs.Told.{IsFaultOf, IsTold}
use Rattle.kb_tenant.specs.Turns.{in_turn, written_behind}
use Rattle.kb_tenant.specs.declared.limits.DataLimits.{DataLimits}
use Rattle.kb_tenant.proofs.Fitting.{array_written, each_fits, many_fit, written_both}
use Rattle.kb_tenant.proofs.Turning.{turn_length}

-- ---- one entry

done_so : (a b : Scene Seen) (P Q : Type 0) → (P → Q) → IsDone a b P → IsDone a b Q
done_so a b P Q f is = record { counted = is.counted; met = λ honest agree. f (is.met honest agree) }

copied : {A : Type 0} (o : Option (Bor A)) → is_some o ≡ is_some (option_copied o)
copied None = refl
copied (Some x) = refl

never : (b c : Bool) → b && (not true && c) ≡ false
never true c = refl
never false c = refl

-- one in the place of another is not one more
pub none_more : (limits : DataLimits) (w : World) (place : TopicPartition) (group metadata : List ℕ) (o : Option (Bor CommittedOffset)) (there : Bool)
    → there ≡ is_some o → there ≡ true → option_copied o ≡ committed_to w place group → false ≡ is_one_too_many limits w place group metadata
none_more limits w place group metadata o there is sure at =
    let takes = is_takeable w place metadata in
    let past = is_past limits.offsets (offsets_in w.known + 1) in
    sym (never takes past) ∙ ap (λ b. takes && (not b && past)) (sym sure ∙ is ∙ copied o ∙ ap is_some at)

-- nor is one that is refused for another cause
pub none_taken : (limits : DataLimits) (w : World) (place : TopicPartition) (group metadata : List ℕ) (takes : Bool)
    → takes ≡ is_takeable w place metadata → takes ≡ false → false ≡ is_one_too_many limits w place group metadata
none_taken limits w place group metadata takes is not_so =
    ap (λ b. b && (not (is_some (committed_to w place group)) && is_past limits.offsets (offsets_in w.known + 1))) (sym not_so ∙ is)

pub one_more : (limits : DataLimits) (w : World) (place : TopicPartition) (group metadata : List ℕ) (o : Option (Bor CommittedOffset)) (there takes full : Bool) (limit : ℕ)
    → limits.offsets ≡ Some limit → there ≡ is_some o → there ≡ false → option_copied o ≡ committed_to w place group → takes ≡ is_takeable w place metadata → takes ≡ true
    → full ≡ nat_lt limit (offsets_in w.known + 1) → full ≡ is_one_too_many limits w place group metadata
one_more limits w place group metadata o there takes full limit some is not_so at taken sure past =
    past
    ∙ ap (λ l. is_past l (offsets_in w.known + 1)) (sym some)
    ∙ ap (λ b. not b && is_past limits.offsets (offsets_in w.known + 1)) (sym not_so ∙ is ∙ copied o ∙ ap is_some at)
    ∙ ap (λ b. b && (not (is_some (committed_to w place group)) && is_past limits.offsets (offsets_in w.known + 1))) (sym sure ∙ taken)

-- it brings more text than is left
pub much_brought : (limits : DataLimits) (w : World) (place : TopicPartition) (group metadata : List ℕ) (takes past : Bool) (left : Option ℕ) (brought : ℕ)
    → takes ≡ is_takeable w place metadata → takes ≡ true → left ≡ left_of limits.group_bytes (texts_in w.known) → brought ≡ text_brought w place group metadata → past ≡ is_past left brought
    → past ≡ brings_too_much limits w place group metadata
much_brought limits w place group metadata takes past left brought taken sure room more is =
    let all = left_of limits.group_bytes (texts_in w.known) in
    is ∙ ap (λ l. is_past l brought) room ∙ ap (is_past all) more ∙ ap (λ b. b && is_past all (text_brought w place group metadata)) (sym sure ∙ taken)

-- one that is refused for another cause does not
pub much_refused : (limits : DataLimits) (w : World) (place : TopicPartition) (group metadata : List ℕ) (takes : Bool) → takes ≡ is_takeable w place metadata → takes ≡ false
    → takes ≡ brings_too_much limits w place group metadata
much_refused limits w place group metadata takes taken not_so =
    not_so ∙ ap (λ b. b && is_past (left_of limits.group_bytes (texts_in w.known)) (text_brought w place group metadata)) (sym not_so ∙ taken)

-- the limits refuse it for the one or for the other
pub over_by_one : (limits : DataLimits) (w : World) (place : TopicPartition) (group metadata : List ℕ) (one : Bool) → one ≡ is_one_too_many limits w place group metadata → one ≡ true
    → one ≡ is_over_limits limits w place group metadata
over_by_one limits w place group metadata one is so = so ∙ ap (λ b. b || brings_too_much limits w place group metadata) (sym so ∙ is)

pub over_by_text : (limits : DataLimits) (w : World) (place : TopicPartition) (group metadata : List ℕ) (one much : Bool) → one ≡ is_one_too_many limits w place group metadata → one ≡ false
    → much ≡ brings_too_much limits w place group metadata → much ≡ is_over_limits limits w place group metadata
over_by_text limits w place group metadata one much is not_so by = by ∙ ap (λ b. b || brings_too_much limits w place group metadata) (sym not_so ∙ is)

-- where the tenant's limits refuse it
pub commit_full : (limits : DataLimits) (w : World) (place : TopicPartition) (group : List ℕ) (e : CommitPartition) (text : List ℕ) (full : Bool) (code : ℤ)
    → text ≡ metadata_in e.metadata → full ≡ is_over_limits limits w place group text → full ≡ true → code ≡ code_of codes.PolicyViolation → (w, code) ≡ committed_at limits w (Some place) group e
commit_full limits w place group e text full code beside past over is =
    ap (λ z. (w, z)) is
    ∙ ap (λ b. committed_unless_full b w place group e.offset text) (sym over ∙ past)
    ∙ ap (λ s. committed_unless_full (is_over_limits limits w place group s) w place group e.offset s) beside

-- the code for what the call answered, at what the entry says
pub commit_code : (limits : DataLimits) (v w : World) (place : TopicPartition) (group : List ℕ) (e : CommitPartition) (offset : ℤ) (text : List ℕ) (full : Bool) (r : Result (Unit {0}) CatalogFault) (code : ℤ)
    → offset ≡ e.offset → text ≡ metadata_in e.metadata → full ≡ is_over_limits limits w place group text → full ≡ false → code ≡ code_in r → (v, r) ≡ commit w place group offset text
    → (v, code) ≡ committed_at limits w (Some place) group e
commit_code limits v w place group e offset text full r code at beside past under is met =
    ap (λ z. (v, z)) is
    ∙ ap (λ (x : World × Result (Unit {0}) CatalogFault). (x.0, code_in x.1)) met
    ∙ ap (λ b. committed_unless_full b w place group offset text) (sym under ∙ past)
    ∙ ap (λ z. committed_unless_full (is_over_limits limits w place group text) w place group z text) at
    ∙ ap (λ s. committed_unless_full (is_over_limits limits w place group s) w place group e.offset s) beside

pub fault_told : (a b : Scene Seen) (Want : CatalogFault → Type 0) (P Q : Type 0) (r : Result (Unit {0}) CatalogFault) (code : ℤ) → (P → Q) → code ≡ code_in r → Tells a b P Want r → IsTold a b Q (IsFaultOf Want code)
fault_told a b Want P Q (Ok u) code f is told = inl (done_so a b P Q f told)
fault_told a b Want P Q (Err g) code f is told =
    ⊎_elim
    (λ own. inl (done_so a b P Q f own))
    (λ wanted. inr (record { want = record { fault = g; told = is; want = wanted.want }; counted = wanted.counted; stays = wanted.stays }))
    told

pub commit_told : (limits : DataLimits) (a b : Scene Seen) (place : TopicPartition) (group : List ℕ) (e : CommitPartition) (offset : ℤ) (text : List ℕ) (full : Bool) (r : Result (Unit {0}) CatalogFault) (code : ℤ)
    → offset ≡ e.offset → text ≡ metadata_in e.metadata → full ≡ is_over_limits limits a.state.world place group text → full ≡ false → code ≡ code_in r
    → Tells a b ((b.state.world, r) ≡ commit a.state.world place group offset text) (IsCatalogWant a b) r
    → IsTold a b ((b.state.world, code) ≡ committed_at limits a.state.world (Some place) group e) (IsFaultOf (IsCatalogWant a b) code)
commit_told limits a b place group e offset text full r code at beside past under is told =
    fault_told a b (IsCatalogWant a b) ((b.state.world, r) ≡ commit a.state.world place group offset text) ((b.state.world, code) ≡ committed_at limits a.state.world (Some place) group e) r code
    (commit_code limits b.state.world a.state.world place group e offset text full r code at beside past under is) is told

-- each fault of the catalog has a code that is not 0
pub fault_speaks : (f : CatalogFault) → fault_code f ≡ pos 0 → ⊥
fault_speaks catalog.Name e = absurd cc
fault_speaks catalog.Exists e = absurd cc
fault_speaks catalog.Partitions e = absurd cc
fault_speaks catalog.Limit e = absurd cc
fault_speaks catalog.TooMany e = absurd cc
fault_speaks catalog.Unknown e = absurd cc
fault_speaks catalog.Metadata e = absurd cc
fault_speaks catalog.Back e = absurd cc
fault_speaks catalog.UsedUp e = absurd cc
fault_speaks catalog.Full e = absurd cc
fault_speaks catalog.Store e = absurd cc
fault_speaks catalog.Memory e = absurd cc

-- what is answered with no error was done
pub acknowledged : (a b : Scene Seen) (P : Type 0) (Want : CatalogFault → Type 0) (code : ℤ) → IsTold a b P (IsFaultOf Want code) → code ≡ pos 0 → IsDone a b P
acknowledged a b P Want code told zero = ⊎_elim (λ done. done) (λ refused. absurd (fault_speaks refused.want.fault (sym refused.want.told ∙ zero))) told

-- an entry that the whole request does not refuse, at its place
pub entry_at : (w : World) (limits : DataLimits) (refusal : Option ℤ) (group : List ℕ) (topic : Option ℕ) (e : CommitPartition) (o : Option TopicPartition) → refusal ≡ None → o ≡ place_in topic e.partition
    → committed_at limits w o group e ≡ committed limits refusal group topic w e
entry_at w limits refusal group topic e o none at = ap (λ p. committed_at limits w p group e) at ∙ ap (λ (r : Option ℤ). committed limits r group topic w e) (sym none)

pub told_so : (a b : Scene Seen) (P Q Want : Type 0) → (P → Q) → IsTold a b P Want → IsTold a b Q Want
told_so a b P Q Want f told = ⊎_elim (λ done. inl (done_so a b P Q f done)) (λ refused. inr refused) told

-- the reply for an entry
pub entry_is : (w v : World) (limits : DataLimits) (refusal : Option ℤ) (group : List ℕ) (topic : Option ℕ) (e : CommitPartition) (partition sent code : ℤ) → partition ≡ e.partition → sent ≡ code → (v, code) ≡ committed limits refusal group topic w e
    → (v, (let x : CommitPartitionReply = record { partition = partition; error_code = sent } in x)) ≡ committed_entry limits refusal group topic w e
entry_is w v limits refusal group topic e partition sent code one same step =
    ap (λ n. (v, (let x : CommitPartitionReply = record { partition = n; error_code = sent } in x))) one
    ∙ ap (λ z. (v, (let x : CommitPartitionReply = record { partition = e.partition; error_code = z } in x))) same
    ∙ ap (λ (r : World × ℤ). (r.0, (let x : CommitPartitionReply = record { partition = e.partition; error_code = r.1 } in x))) step

-- ---- what fits

pub reply_fits : (r : CommitPartitionReply) → commit_partition_reply.Fits r
unfolding commit_partition_reply int
reply_fits r = (tt, tt)

pub name_fits : (t : CommitTopic) → commit_topic.Fits t → string.Fits t.name
unfolding commit_topic
name_fits t fits = fits.0

pub entries_fit : (t : CommitTopic) → commit_topic.Fits t → (array commit_partition).Fits t.partitions
unfolding commit_topic
entries_fit t fits = fits.1

-- what was read without a retention time fits with one
pub commit_fits : (q : Both (List ℕ) (Both ℤ (Both (List ℕ) (List CommitTopic)))) → (both string (both int32 (both string (array commit_topic)))).Fits q
    → offset_commit_request.Fits (record { group_id = q.first; generation_id = q.second.first; member_id = q.second.second.first; retention_time_ms = negsuc 0; topics = q.second.second.second })
unfolding offset_commit_request both int
commit_fits q fits = (fits.0, (fits.1.0, (fits.1.1.0, (tt, fits.1.1.1))))

-- a topic's entry, and a topic, without a field behind the offset
entry_fits : {X : Type 0} (field : Codec X) (e : Both ℤ (Both ℤ (Both X (Option (List ℕ))))) → (entry_with field).Fits e → commit_partition.Fits (plain_entry e)
unfolding commit_partition both int
entry_fits field e fits = (tt, (tt, fits.1.1.1))

topic_fits : {X : Type 0} (field : Codec X) (t : Both (List ℕ) (List (Both ℤ (Both ℤ (Both X (Option (List ℕ))))))) → (topic_with field).Fits t → commit_topic.Fits (plain_topic t)
unfolding commit_topic both sized items
topic_fits field t fits =
    (fits.0, many_fit commit_partition plain_entry t.second fits.1.0 (each_fits (entry_with field).Fits commit_partition.Fits plain_entry (entry_fits field) t.second fits.1.1))

-- what was read with such a field fits without it
plain_fits : {X : Type 0} (field : Codec X) (q : Both (List ℕ) (Both ℤ (Both (List ℕ) (List (Both (List ℕ) (List (Both ℤ (Both ℤ (Both X (Option (List ℕ)))))))))))
    → (request_with field).Fits q → offset_commit_request.Fits (plain q)
unfolding offset_commit_request both sized items int
plain_fits field q fits =
    let topics = q.second.second.second in
    let each = each_fits (topic_with field).Fits commit_topic.Fits plain_topic (topic_fits field) topics fits.1.1.1.1 in
    (fits.0, (fits.1.0, (fits.1.1.0, (tt, many_fit commit_topic plain_topic topics fits.1.1.1.0 each))))

pub timestamps_fit : (q : Both (List ℕ) (Both ℤ (Both (List ℕ) (List (Both (List ℕ) (List (Both ℤ (Both ℤ (Both ℤ (Option (List ℕ))))))))))) → (request_with int64).Fits q → offset_commit_request.Fits (plain q)
timestamps_fit q fits = plain_fits int64 q fits

pub epochs_fit : (q : Both (List ℕ) (Both ℤ (Both (List ℕ) (List (Both (List ℕ) (List (Both ℤ (Both ℤ (Both ℤ (Option (List ℕ))))))))))) → (request_with int32).Fits q → offset_commit_request.Fits (plain q)
epochs_fit q fits = plain_fits int32 q fits

pub group_fits : (q : OffsetCommitRequest) → offset_commit_request.Fits q → string.Fits q.group_id
unfolding offset_commit_request
group_fits q fits = fits.0

pub topics_fit : (q : OffsetCommitRequest) → offset_commit_request.Fits q → (array commit_topic).Fits q.topics
unfolding offset_commit_request
topics_fit q fits = fits.1.1.1.1

-- ---- bytes

-- a topic's answer is its name, its count and its partitions' answers
pub topic_told : (limits : DataLimits) (refusal : Option ℤ) (group : List ℕ) (topic : Option ℕ) (w : World) (t : CommitTopic) (name : List ℕ) (entries : List CommitPartition) (n : ℕ) (out out1 out2 : List ℕ) (result : World × List ℕ)
    → name ≡ t.name → entries ≡ t.partitions → n ≡ length t.partitions → topic ≡ named t.name w.known.topics
    → out1 ≡ out ++ string.written name → out2 ≡ out1 ++ (count w32).written n
    → result ≡ written_behind commit_partition_reply.written out2 (in_turn (committed_entry limits refusal group topic) w entries)
    → result ≡ written_next commit_topic_reply.written out (committed_topic limits refusal group w t)
unfolding commit_topic_reply
topic_told limits refusal group topic w t name entries n out out1 out2 result name_is entries_are many topic_is first second is =
    let write = commit_partition_reply.written in
    let f = committed_entry limits refusal group (named t.name w.known.topics) in
    let r = in_turn f w t.partitions in
    let all = flat_map write r.1 in
    let count_is : n ≡ length r.1 = many ∙ sym (turn_length f w t.partitions) in
    let tail : out2 ++ all ≡ out1 ++ ((count w32).written n ++ all) = written_both out1 out2 (out2 ++ all) ((count w32).written n) all second refl in
    let bytes : out2 ++ all ≡ out ++ (string.written t.name ++ (array commit_partition_reply).written r.1) =
    written_both out out1 (out2 ++ all) (string.written t.name) ((array commit_partition_reply).written r.1) (first ∙ ap (λ m. out ++ string.written m) name_is)
    (tail ∙ ap (λ x. out1 ++ x) (array_written commit_partition_reply r.1 n count_is)) in
    is
    ∙ ap (λ es. written_behind write out2 (in_turn (committed_entry limits refusal group topic) w es)) entries_are
    ∙ ap (λ i. written_behind write out2 (in_turn (committed_entry limits refusal group i) w t.partitions)) topic_is
    ∙ ap (λ l. (r.0, l)) bytes

-- the reply is its count and its topics' answers
pub all_told : (q : OffsetCommitRequest) (w v : World) (limits : DataLimits) (refusal : Option ℤ) (group : List ℕ) (topics : List CommitTopic) (n : ℕ) (out out1 out2 : List ℕ)
    → group ≡ q.group_id → topics ≡ q.topics → n ≡ length q.topics → out1 ≡ out ++ (count w32).written n
    → (v, out2) ≡ written_behind commit_topic_reply.written out1 (in_turn (committed_topic limits refusal group) w topics)
    → (v ≡ (committed_all limits w refusal q).0) × (out2 ≡ out ++ offset_commit_reply.written (committed_all limits w refusal q).1)
unfolding offset_commit_reply
all_told q w v limits refusal group topics n out out1 out2 group_is topics_are many first told =
    let write = commit_topic_reply.written in
    let f = committed_topic limits refusal q.group_id in
    let r = in_turn f w q.topics in
    let all : (v, out2) ≡ (r.0, out1 ++ flat_map write r.1) =
    told
    ∙ ap (λ ts. written_behind write out1 (in_turn (committed_topic limits refusal group) w ts)) topics_are
    ∙ ap (λ g. written_behind write out1 (in_turn (committed_topic limits refusal g) w q.topics)) group_is in
    let last : out2 ≡ out1 ++ flat_map write r.1 = ap (λ (x : World × List ℕ). x.1) all in (
      ap (λ (x : World × List ℕ). x.0) all,
      written_both out out1 out2 ((count w32).written n) (flat_map write r.1) first last
          ∙ ap (λ x. out ++ x) (array_written commit_topic_reply r.1 n (many ∙ sym (turn_length f w q.topics))),
    )
