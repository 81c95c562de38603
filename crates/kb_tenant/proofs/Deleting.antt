-- One topic of a request of DeleteTopics.
use Rattle.std.proofs.Common.{◌≡◌, ◌∙◌, sym, ap, refl, subst, ℤ, pos, ℕ, ◌+◌, ◌<◌, ◌≤◌, ◌^◌, Bool, true, false, List, [], ◌∷◌, ◌++◌, length, take, Option, Some, None, append_assoc, arith}
use Rattle.std.specs.Prelude.{Result, Ok, Err, OnErr, OnOk, is_err, if◌then◌else◌}
use Rattle.std.specs.Ordering.{int_eq}
use Rattle.std.proofs.lemmas.List.{append-nil, length-take, take-append-le}
use Rattle.std.proofs.lemmas.List.FromFn.{map-range_with_len_more}
use Rattle.std.proofs.Math.Seq.{take-append_seam}
use Rattle.kb_wire.specs.Codec.{int, int32, counted, sized, utf8, string, array}
use Rattle.kb_api_data.specs.Layouts.{delete_topic_reply, delete_topics_request, delete_topics_reply, delete_topics_reply_v1}
use Rattle.kb_api_data.specs.declared.delete_topics.DeleteTopicsRequest.{DeleteTopicsRequest}
use Rattle.kb_api_data.specs.declared.delete_topics.DeleteTopicReply.{DeleteTopicReply}
use Rattle.kb_topics.specs.Known.{TopicState, named}
use Rattle.kb_topics.specs.declared.fault.CatalogFault.{CatalogFault}
use Rattle.kb_topics.specs.declared.fault.CatalogFault.TheVariants as faults
use Rattle.kb_tenant_state.specs.Calls.{delete, deleted_at}
use Rattle.kb_tenant.specs.CreateTopics.{code_in}
use Rattle.kb_tenant.specs.DeleteTopics.{place_at, places, places_in, places_at, places_named, told_if, deleted, deleted_topic, deletions_in, throttle_in}
use Rattle.kb_tenant_state.specs.World.{World}
use Rattle.kb_tenant_state.specs.declared.topic_partition.TopicPartition.{TopicPartition}

-- one more partition is told
pub places_more : (old new : List TopicPartition) (start : List TopicPartition) (instance n : ℕ) → new ≡ old ++ place_at instance n ∷ [] → old ≡ start ++ places instance n → new ≡ start ++ places instance (n + 1)
places_more old new start instance n more told =
    let last : List TopicPartition = place_at instance n ∷ [] in
    more ∙ ap (λ l. l ++ last) told ∙ append_assoc start (places instance n) last ∙ ap (λ l. start ++ l) (sym (map-range_with_len_more (place_at instance) 0 n n (omega arith)))

-- no partition is told where there is no topic
pub none_told : (start : List TopicPartition) (instance : ℕ) (t : Option TopicState) → None ≡ t → start ≡ start ++ places_in instance t
none_told start instance t none = sym (append-nil start) ∙ ap (λ o. start ++ places_in instance o) none

-- all partitions are told
pub all_told : (start now : List TopicPartition) (instance n count : ℕ) (found : TopicState) (t : Option TopicState) → now ≡ start ++ places instance n → n ≡ count → count ≡ length found.partitions → Some found ≡ t → now ≡ start ++ places_in instance t
all_told start now instance n count found t told over many some =
    told ∙ ap (λ m. start ++ places instance m) (over ∙ many) ∙ ap (λ o. start ++ places_in instance o) some

-- what comes of a topic that is there, or not
abbrev ended : World → List TopicPartition → Option ℕ → (World × List TopicPartition) × ℤ
ended w old i = let r = deleted_at w i in ((r.0, old ++ places_at w i), code_in r.1)

pub unknown_is : (w : World) (old : List TopicPartition) (name : List ℕ) (code : ℤ) → None ≡ named name w.known.topics → code ≡ pos 3 → ((w, old), code) ≡ deleted (w, old) name
unknown_is w old name code none here =
    ap (λ z. ((w, old), z)) here ∙ ap (λ l. ((w, l), pos 3)) (sym (append-nil old)) ∙ ap (ended w old) none

pub deleted_is : (w v : World) (old now : List TopicPartition) (name : List ℕ) (i : ℕ) (code : ℤ) → Some i ≡ named name w.known.topics → now ≡ old ++ places_at w (Some i) → (v, Ok tt) ≡ delete w name → code ≡ pos 0 → ((v, now), code) ≡ deleted (w, old) name
deleted_is w v old now name i code some told step here =
    ap (λ z. ((v, now), z)) here ∙ ap (λ l. ((v, l), pos 0)) (told ∙ ap (λ o. old ++ places_at w o) some)
    ∙ ap (λ (r : World × Result (Unit {0}) CatalogFault). ((r.0, old ++ places_named w name), code_in r.1)) step

-- the partitions of a topic that was deleted are told
pub told_all : (w : World) (old now : List TopicPartition) (name : List ℕ) (i : ℕ) (code : ℤ) → Some i ≡ named name w.known.topics → now ≡ old ++ places_at w (Some i) → code ≡ pos 0 → now ≡ old ++ told_if code (places_named w name)
told_all w old now name i code some told here = told ∙ ap (λ o. old ++ places_at w o) some ∙ ap (λ z. old ++ told_if z (places_named w name)) (sym here)

-- Where nothing was refused, a topic that is there is deleted.
pub never_refused : (w v : World) (name : List ℕ) (i : ℕ) (f : CatalogFault) → Some i ≡ named name w.known.topics → (v, Err f) ≡ delete w name → ⊥
never_refused w v name i f some step =
    let clash : true ≡ false → ⊥ = λ bad. cc in
    clash (ap (λ (r : World × Result (Unit {0}) CatalogFault). is_err r.1) (step ∙ sym (ap (deleted_at w) some)))

-- those of one that was not are not
pub told_none : (old now ps : List TopicPartition) (f : CatalogFault) (code : ℤ) → now ≡ old → code ≡ code_in (Err f) → now ≡ old ++ told_if code ps
told_none old now ps f code back here = back ∙ sym (append-nil old) ∙ ap (λ l. old ++ l) (sym (ap (λ z. told_if z ps) here ∙ untold f))
  where
    untold : (f : CatalogFault) → told_if (code_in (Err f)) ps ≡ []
    untold faults.Name = refl
    untold faults.Exists = refl
    untold faults.Partitions = refl
    untold faults.Limit = refl
    untold faults.TooMany = refl
    untold faults.Unknown = refl
    untold faults.Metadata = refl
    untold faults.Back = refl
    untold faults.UsedUp = refl
    untold faults.Full = refl
    untold faults.Store = refl
    untold faults.Memory = refl

-- what was told is taken back
pub taken_back : (old told now ps : List TopicPartition) (n : ℕ) → now ≡ take n told → n ≡ length old → told ≡ old ++ ps → now ≡ old
taken_back old told now ps n cut size more = cut ∙ ap (λ m. take m told) size ∙ ap (take (length old)) more ∙ take-append_seam old ps

-- what holds where a result is no error
pub unless_err : {X E P : Type 0} (r : Result X E) (b : Bool) → b ≡ is_err r → b ≡ false → OnOk r P → P
unless_err (Ok x) b is not p = p
unless_err (Err e) b is not p = absurd (subst (λ x. x ≡ false → ⊥) (sym is) (λ bad. cc) not)

-- and what holds of a failure
pub where_err : {X E P : Type 0} (r : Result X E) (b : Bool) → b ≡ is_err r → b ≡ true → OnErr r P → P
where_err (Ok x) b is so p = absurd (subst (λ x. x ≡ true → ⊥) (sym is) (λ bad. cc) so)
where_err (Err e) b is so p = p

-- what was told before is still there
pub kept_more : (start old new ps : List TopicPartition) → new ≡ old ++ ps → take (length start) old ≡ start → take (length start) new ≡ start
kept_more start old new ps more kept =
    let within : length start ≤ length old = omega (arith, length-take (length start) old, ap length kept) in
    ap (take (length start)) more ∙ take-append-le (length start) old ps within ∙ kept

-- the answer for a name of a request
pub answered_is : (w v : World) (old now : List TopicPartition) (name text sent : List ℕ) (code carried : ℤ) → text ≡ name → sent ≡ text → ((v, now), code) ≡ deleted (w, old) text → carried ≡ code
    → ((v, now), (let x : DeleteTopicReply = record { name = sent; error_code = carried } in x)) ≡ deleted_topic (w, old) name
answered_is w v old now name text sent code carried one two step same =
    ap (λ n. ((v, now), (let x : DeleteTopicReply = record { name = n; error_code = carried } in x))) two
    ∙ ap (λ z. ((v, now), (let x : DeleteTopicReply = record { name = text; error_code = z } in x))) same
    ∙ ap (λ (r : (World × List TopicPartition) × ℤ). (r.0, (let x : DeleteTopicReply = record { name = text; error_code = r.1 } in x))) step
    ∙ ap (deleted_topic (w, old)) one

-- a name that was read can be written, and be recorded
pub deleted_fits : (name sent : List ℕ) (code : ℤ) → sent ≡ name → string.Fits name → delete_topic_reply.Fits (record { name = sent; error_code = code })
unfolding delete_topic_reply int
deleted_fits name sent code one fits = (subst string.Fits (sym one) fits, tt)

pub name_short : (name sent : List ℕ) → sent ≡ name → string.Fits name → length sent < 2 ^ 15
unfolding sized counted int utf8
name_short name sent one fits = subst (λ n. length n < 2 ^ 15) (sym one) fits.0.1.sfits

pub names_fit : (q : DeleteTopicsRequest) → delete_topics_request.Fits q → (array string).Fits q.names
unfolding delete_topics_request
names_fit q fits = fits.0

-- ---- the reply, by its version

by_version : (b : Bool) (r : List DeleteTopicReply)
    → (if b then int32.written (pos 0) else []) ++ (array delete_topic_reply).written r
    ≡ (if b then delete_topics_reply_v1.written (record { throttle_time_ms = pos 0; topics = r }) else delete_topics_reply.written (record { topics = r }))
unfolding delete_topics_reply delete_topics_reply_v1
by_version true r = refl
by_version false r = refl

-- the topics behind what stands before them
pub deletions_written : (version : ℤ) (start head end : List ℕ) (r : List DeleteTopicReply) → head ≡ start ++ throttle_in version → end ≡ head ++ (array delete_topic_reply).written r
    → end ≡ start ++ deletions_in version (record { topics = r })
deletions_written version start head end r before topics =
    topics ∙ ap (λ s. s ++ (array delete_topic_reply).written r) before ∙ append_assoc start (throttle_in version) ((array delete_topic_reply).written r)
    ∙ ap (λ s. start ++ s) (by_version (int_eq version (pos 1)) r)
