-- What is written of topics and partitions that are described, put after put.
use Rattle.std.proofs.Common.{◌≡◌, ◌∙◌, ◌⊎◌, ⊎_elim, sym, subst, ap, refl, ℕ, ◌+◌, List, [], ◌∷◌, ◌++◌, length, map, append_assoc, arith, w32}
use Rattle.std.specs.Prelude.{ℤ, pos, Bool, true, false, Option, Some, None, if◌then◌else◌}
use Rattle.std.specs.Ordering.{int_eq}
use Rattle.std.specs.Option.{option_and_then}
use Rattle.std.specs.List.{flat_map, range_with_len}
use Rattle.std.proofs.lemmas.Bool.Decides.{Decides-int_eq}
use Rattle.std.proofs.lemmas.List.{append-nil, length-map}
use Rattle.std.proofs.lemmas.List.Folds.{flat_map-map}
use Rattle.std.proofs.lemmas.List.FromFn.{length-map-range_with_len, map-range_with_len_more}
use Rattle.kb_wire.specs.Fits.{null_array_fits}
use Rattle.kb_wire.specs.Codec.{count, counted, nullable, nullable_counted, sized, items, int, array, int16, int32, string, nullable_string, boolean}
use Rattle.kb_api_data.specs.Layouts.{metadata_request, metadata_request_v0, metadata_request_v4}
use Rattle.kb_api_data.specs.Layouts.{metadata_partition, metadata_topic, metadata_topic_v0, metadata_broker, metadata_broker_v0, metadata_reply, metadata_reply_v0, metadata_reply_v2, metadata_reply_v3}
use Rattle.kb_api_data.specs.declared.metadata.MetadataBroker.{MetadataBroker}
use Rattle.kb_api_data.specs.declared.metadata.MetadataPartition.{MetadataPartition}
use Rattle.kb_api_data.specs.declared.metadata.MetadataRequest.{MetadataRequest}
use Rattle.kb_api_data.specs.declared.metadata.MetadataTopic.{MetadataTopic}
use Rattle.kb_api_data.specs.declared.metadata.MetadataReply.{MetadataReply}
use Rattle.kb_api_data.specs.declared.metadata_versions.MetadataBrokerV0.{MetadataBrokerV0}
use Rattle.kb_api_data.specs.declared.metadata_versions.MetadataRequestV0.{MetadataRequestV0}
use Rattle.kb_api_data.specs.declared.metadata_versions.MetadataRequestV4.{MetadataRequestV4}
use Rattle.kb_topics.specs.Known.{TopicState, named, topic_at}
use Rattle.kb_topics.specs.Name.{is_legal}
use Rattle.kb_tenant.specs.Metadata.{broker, broker_v0, has_epochs, has_offline, internal_in, metadata_in, metadata_of, metadata_partition_v5, metadata_partition_v7, metadata_topic_v5, metadata_topic_v7, partition_as, partition_described, partition_v5, topic_as, topic_asked, topic_described, topic_found, topic_in, topic_v0, topic_v5, topics_asked, topics_in, topics_until, IsMetadataUntil}
use Rattle.kb_tenant.specs.Replies.{AreUntil}
use Rattle.kb_tenant_state.specs.World.{World}
use Rattle.kb_tenant.specs.declared.node.Node.{Node}
use Rattle.kb_tenant.proofs.Fitting.{array_written, written_both}
use Rattle.kb_tenant.proofs.Until.{are_until, until_all}

-- ---- what was read can be written

pub no_topics_fit : metadata_request.Fits (record { topics = None })
unfolding metadata_request
no_topics_fit = null_array_fits string

pub topics_fit_v0 : (r : MetadataRequestV0) → metadata_request_v0.Fits r → metadata_request.Fits (record { topics = Some r.topics })
unfolding metadata_request metadata_request_v0 nullable nullable_counted sized counted items
topics_fit_v0 r fits = fits

pub topics_fit_v4 : (r : MetadataRequestV4) → metadata_request_v4.Fits r → metadata_request.Fits (record { topics = r.topics })
unfolding metadata_request metadata_request_v4
topics_fit_v4 r fits = fits.0

-- ---- what is written

-- a partition's bytes: all but the four of its number are the same in each
pub partition_bytes : (p a b c d : ℕ) → int32.written (pos p) ≡ a ∷ b ∷ c ∷ d ∷ []
    → 0 ∷ 0 ∷ a ∷ b ∷ c ∷ d ∷ 0 ∷ 0 ∷ 0 ∷ 0 ∷ 0 ∷ 0 ∷ 0 ∷ 1 ∷ 0 ∷ 0 ∷ 0 ∷ 0 ∷ 0 ∷ 0 ∷ 0 ∷ 1 ∷ 0 ∷ 0 ∷ 0 ∷ 0 ∷ [] ≡ metadata_partition.written (partition_described p)
unfolding metadata_partition sized counted items int
partition_bytes p a b c d e = ap (λ number. 0 ∷ 0 ∷ (number ++ 0 ∷ 0 ∷ 0 ∷ 0 ∷ 0 ∷ 0 ∷ 0 ∷ 1 ∷ 0 ∷ 0 ∷ 0 ∷ 0 ∷ 0 ∷ 0 ∷ 0 ∷ 1 ∷ 0 ∷ 0 ∷ 0 ∷ 0 ∷ [])) (sym e)

-- the same with an epoch of its leader and its offline replicas
pub partition_bytes_v7 : (p a b c d : ℕ) → int32.written (pos p) ≡ a ∷ b ∷ c ∷ d ∷ []
    → 0 ∷ 0 ∷ a ∷ b ∷ c ∷ d ∷ 0 ∷ 0 ∷ 0 ∷ 0 ∷ 255 ∷ 255 ∷ 255 ∷ 255 ∷ 0 ∷ 0 ∷ 0 ∷ 1 ∷ 0 ∷ 0 ∷ 0 ∷ 0 ∷ 0 ∷ 0 ∷ 0 ∷ 1 ∷ 0 ∷ 0 ∷ 0 ∷ 0 ∷ 0 ∷ 0 ∷ 0 ∷ 0 ∷ [] ≡ metadata_partition_v7.written (partition_v5 (partition_described p))
unfolding sized counted items int
partition_bytes_v7 p a b c d e = ap (λ number. 0 ∷ 0 ∷ (number ++ 0 ∷ 0 ∷ 0 ∷ 0 ∷ 255 ∷ 255 ∷ 255 ∷ 255 ∷ 0 ∷ 0 ∷ 0 ∷ 1 ∷ 0 ∷ 0 ∷ 0 ∷ 0 ∷ 0 ∷ 0 ∷ 0 ∷ 1 ∷ 0 ∷ 0 ∷ 0 ∷ 0 ∷ 0 ∷ 0 ∷ 0 ∷ 0 ∷ [])) (sym e)

pub partition_with : (p : MetadataPartition) (epochs offline : Bool) (old t : List ℕ) → epochs ≡ true → t ≡ old ++ metadata_partition_v7.written (partition_v5 p) → t ≡ old ++ partition_as epochs offline p
partition_with p false offline old t is a = absurd cc
partition_with p true offline old t is a = a

pub partition_plain : (p : MetadataPartition) (epochs offline : Bool) (old t : List ℕ) → epochs ≡ false → offline ≡ false → t ≡ old ++ metadata_partition.written p → t ≡ old ++ partition_as epochs offline p
partition_plain p true offline old t is not a = absurd cc
partition_plain p false true old t is not a = absurd cc
partition_plain p false false old t is not a = a

-- a partition without offline replicas, where that is told
pub partition_without : (p : MetadataPartition) (epochs offline : Bool) (old s t : List ℕ) → epochs ≡ false → offline ≡ true → s ≡ old ++ metadata_partition.written p
    → t ≡ s ++ (count w32).written 0
    → t ≡ old ++ partition_as epochs offline p
unfolding sized items
partition_without p true offline old s t none is a b = absurd cc
partition_without p false false old s t none is a b = absurd cc
partition_without p false true old s t none is a b = written_both old s t (metadata_partition.written p) ((count w32).written 0) a b ∙ ap (λ x. old ++ (metadata_partition.written p ++ x)) (sym (append-nil ((count w32).written 0)))

-- one partition more
pub partitions_more : (epochs offline : Bool) (p : ℕ) (old s t : List ℕ) → s ≡ old ++ flat_map (partition_as epochs offline) (map partition_described (range_with_len 0 p))
    → t ≡ s ++ partition_as epochs offline (partition_described p)
    → t ≡ old ++ flat_map (partition_as epochs offline) (map partition_described (range_with_len 0 (p + 1)))
partitions_more epochs offline p old s t a b =
    let write = partition_as epochs offline in
    let before = map partition_described (range_with_len 0 p) in
    let both : t ≡ old ++ (flat_map write before ++ write (partition_described p)) = written_both old s t (flat_map write before) (write (partition_described p)) a b in
    let more : flat_map write before ++ write (partition_described p) ≡ flat_map write (before ++ partition_described p ∷ []) = sym (flat_map_snoc write before (partition_described p)) in
    both ∙ ap (λ x. old ++ x) (more ∙ ap (flat_map write) (sym (map-range_with_len_more partition_described 0 p p (omega arith))))
  where
    flat_map_snoc : {A : Type 0} (f : A → List ℕ) (xs : List A) (x : A) → flat_map f (xs ++ x ∷ []) ≡ flat_map f xs ++ f x
    flat_map_snoc f [] x = append-nil (f x)
    flat_map_snoc f (y ∷ ys) x = ap (λ r. f y ++ r) (flat_map_snoc f ys x) ∙ sym (append_assoc (f y) (flat_map f ys) (f x))

-- version 0 tells neither of offline replicas nor of epochs
not_offline : (version : ℤ) → int_eq version (pos 0) ≡ true → has_offline version ≡ false
not_offline version is = ap has_offline ((Decides-int_eq version (pos 0)).0 is)

not_epochs : (version : ℤ) → int_eq version (pos 0) ≡ true → has_epochs version ≡ false
not_epochs version is = ap has_epochs ((Decides-int_eq version (pos 0)).0 is)

-- partitions behind their count
abbrev partitions_behind : Bool → Bool → ℕ → List MetadataPartition → List ℕ
partitions_behind epochs offline n ps = (count w32).written n ++ flat_map (partition_as epochs offline) ps

-- its parts by each layout
by_layout : (old epochs offline : Bool) (error : ℤ) (name : List ℕ) (n : ℕ) → (old ≡ true → epochs ≡ false) → (old ≡ true → offline ≡ false)
    → int16.written error ++ (string.written name ++ ((if old then [] else boolean.written false) ++ partitions_behind epochs offline n (map partition_described (range_with_len 0 n)))) ≡ topic_as old epochs offline (topic_described error name n)
unfolding metadata_topic metadata_topic_v0
by_layout true true offline error name n none not = let clash : true ≡ false = none refl in absurd cc
by_layout true false true error name n none not = let clash : true ≡ false = not refl in absurd cc
by_layout true false false error name n none not =
    ap (λ x. int16.written error ++ (string.written name ++ x)) (array_written metadata_partition (map partition_described (range_with_len 0 n)) n (sym (length-map-range_with_len partition_described 0 n)))
by_layout false false false error name n none not =
    ap (λ x. int16.written error ++ (string.written name ++ (boolean.written false ++ x))) (array_written metadata_partition (map partition_described (range_with_len 0 n)) n (sym (length-map-range_with_len partition_described 0 n)))
by_layout false false true error name n none not =
    let ps = map partition_described (range_with_len 0 n) in
    let n_is = sym (length-map-range_with_len partition_described 0 n) ∙ sym (length-map ps partition_v5) in
    ap (λ x. int16.written error ++ (string.written name ++ (boolean.written false ++ x)))
    (ap (λ l. (count w32).written n ++ l) (sym (flat_map-map metadata_partition_v5.written partition_v5 ps)) ∙ array_written metadata_partition_v5 (map partition_v5 ps) n n_is)
by_layout false true offline error name n none not =
    let ps = map partition_described (range_with_len 0 n) in
    let n_is = sym (length-map-range_with_len partition_described 0 n) ∙ sym (length-map ps partition_v5) in
    ap (λ x. int16.written error ++ (string.written name ++ (boolean.written false ++ x)))
    (ap (λ l. (count w32).written n ++ l) (sym (flat_map-map metadata_partition_v7.written partition_v5 ps)) ∙ array_written metadata_partition_v7 (map partition_v5 ps) n n_is)

pub topic_written : (version sent error wrote : ℤ) (name : List ℕ) (n : ℕ) (epochs offline : Bool) (s0 s1 s2 s3 s4 s5 : List ℕ) → sent ≡ version → wrote ≡ error
    → epochs ≡ has_epochs sent → offline ≡ has_offline sent
    → s1 ≡ s0 ++ int16.written wrote → s2 ≡ s1 ++ string.written name → s3 ≡ s2 ++ internal_in sent → s4 ≡ s3 ++ (count w32).written n
    → s5 ≡ s4 ++ flat_map (partition_as epochs offline) (map partition_described (range_with_len 0 n))
    → s5 ≡ s0 ++ topic_in version (topic_described error name n)
topic_written version sent error wrote name n epochs offline s0 s1 s2 s3 s4 s5 sent_is wrote_is epochs_are offline_is a b c d e =
    let partitions = map partition_described (range_with_len 0 n) in
    let own = has_offline version in
    let told : offline ≡ own = offline_is ∙ ap has_offline sent_is in
    let theirs = has_epochs version in
    let known : epochs ≡ theirs = epochs_are ∙ ap has_epochs sent_is in
    let all = partitions_behind theirs own n partitions in
    let internal = internal_in version in
    let one : s5 ≡ s3 ++ all =
    written_both s3 s4 s5 ((count w32).written n) (flat_map (partition_as theirs own) partitions) d
    (e ∙ ap (λ o. s4 ++ flat_map (partition_as epochs o) partitions) told ∙ ap (λ k. s4 ++ flat_map (partition_as k own) partitions) known) in
    let two : s5 ≡ s2 ++ (internal ++ all) = written_both s2 s3 s5 internal all (c ∙ ap (λ v. s2 ++ internal_in v) sent_is) one in
    let three : s5 ≡ s1 ++ (string.written name ++ (internal ++ all)) = written_both s1 s2 s5 (string.written name) (internal ++ all) b two in
    written_both s0 s1 s5 (int16.written error) (string.written name ++ (internal ++ all)) (a ∙ ap (λ z. s0 ++ int16.written z) wrote_is) three
    ∙ ap (λ x. s0 ++ x) (by_layout (int_eq version (pos 0)) theirs own error name n (not_epochs version) (not_offline version))

pub broker_written : (node : Node) (host : List ℕ) (port : ℤ) → host ≡ node.host → port ≡ pos node.port
    → metadata_broker.written (record { node_id = pos 0; host = host; port = port; rack = None }) ≡ metadata_broker.written (broker node)
broker_written node host port h p =
    ap (λ x. metadata_broker.written (let b : MetadataBroker = record { node_id = pos 0; host = x; port = port; rack = None } in b)) h
    ∙ ap (λ x. metadata_broker.written (let b : MetadataBroker = record { node_id = pos 0; host = node.host; port = x; rack = None } in b)) p

pub broker_v0_written : (node : Node) (host : List ℕ) (port : ℤ) → host ≡ node.host → port ≡ pos node.port
    → metadata_broker_v0.written (record { node_id = pos 0; host = host; port = port }) ≡ metadata_broker_v0.written (broker_v0 (broker node))
broker_v0_written node host port h p =
    ap (λ x. metadata_broker_v0.written (let b : MetadataBrokerV0 = record { node_id = pos 0; host = x; port = port } in b)) h
    ∙ ap (λ x. metadata_broker_v0.written (let b : MetadataBrokerV0 = record { node_id = pos 0; host = node.host; port = x } in b)) p

-- ---- a topic that is asked by name

pub asked_unknown : (ts : List (ℕ × TopicState)) (name : List ℕ) → is_legal name ≡ true → None ≡ named name ts → topic_described (pos 3) name 0 ≡ topic_asked ts name
asked_unknown ts name legal none = rw (legal, sym none) refl

pub asked_gone : (ts : List (ℕ × TopicState)) (name : List ℕ) (i : ℕ) → is_legal name ≡ true → Some i ≡ named name ts → None ≡ topic_at i ts → topic_described (pos 3) name 0 ≡ topic_asked ts name
asked_gone ts name i legal some none = ap (topic_found name) none ∙ ap (λ o. topic_found name (option_and_then (λ j. topic_at j ts) o)) some ∙ rw legal refl

pub asked_known : (ts : List (ℕ × TopicState)) (name : List ℕ) (i : ℕ) (t : TopicState) → is_legal name ≡ true → Some i ≡ named name ts → Some t ≡ topic_at i ts → topic_described (pos 0) name (length t.partitions) ≡ topic_asked ts name
asked_known ts name i t legal some there = ap (topic_found name) there ∙ ap (λ o. topic_found name (option_and_then (λ j. topic_at j ts) o)) some ∙ rw legal refl

-- ---- the whole reply, by its version

abbrev pub reply_with : Node → List MetadataTopic → MetadataReply
reply_with node ts = record { brokers = broker node ∷ []; controller_id = pos 0; topics = ts }

topics_old : (ts : List MetadataTopic) → topics_in (pos 0) ts ≡ (array metadata_topic_v0).written (map topic_v0 ts)
unfolding sized items
topics_old ts =
    ap (λ n. (count w32).written n ++ flat_map (topic_as true false false) ts) (sym (length-map ts topic_v0))
    ∙ ap (λ l. (count w32).written (length (map topic_v0 ts)) ++ l) (sym (flat_map-map metadata_topic_v0.written topic_v0 ts))

topics_offline : (ts : List MetadataTopic) → topics_in (pos 5) ts ≡ (array metadata_topic_v5).written (map topic_v5 ts)
unfolding sized items
topics_offline ts =
    ap (λ n. (count w32).written n ++ flat_map (topic_as false false true) ts) (sym (length-map ts topic_v5))
    ∙ ap (λ l. (count w32).written (length (map topic_v5 ts)) ++ l) (sym (flat_map-map metadata_topic_v5.written topic_v5 ts))

topics_epochs : (ts : List MetadataTopic) → topics_in (pos 7) ts ≡ (array metadata_topic_v7).written (map topic_v5 ts)
unfolding sized items
topics_epochs ts =
    ap (λ n. (count w32).written n ++ flat_map (topic_as false true false) ts) (sym (length-map ts topic_v5))
    ∙ ap (λ l. (count w32).written (length (map topic_v5 ts)) ++ l) (sym (flat_map-map metadata_topic_v7.written topic_v5 ts))

topics_new : (version : ℤ) (ts : List MetadataTopic) → int_eq version (pos 0) ≡ false → int_eq version (pos 5) ≡ false → int_eq version (pos 7) ≡ false → topics_in version ts ≡ (array metadata_topic).written ts
unfolding sized items
topics_new version ts not0 not5 not7 =
    ap (λ b. (count w32).written (length ts) ++ flat_map (topic_as b (has_epochs version) (has_offline version)) ts) not0
    ∙ ap (λ b. (count w32).written (length ts) ++ flat_map (topic_as false b (has_offline version)) ts) not7 ∙ ap (λ b. (count w32).written (length ts) ++ flat_map (topic_as false false b) ts) not5

-- what was written, and the topics behind it
behind : (old new front topics : List ℕ) → new ≡ old ++ front → new ++ topics ≡ old ++ (front ++ topics)
behind old new front topics wrote = ap (λ s. s ++ topics) wrote ∙ append_assoc old front topics

pub front_v0 : (node : Node) (ts : List MetadataTopic) (old new : List ℕ) → new ≡ old ++ (array metadata_broker_v0).written (broker_v0 (broker node) ∷ [])
    → new ++ topics_in (pos 0) ts ≡ old ++ metadata_in (pos 0) (reply_with node ts)
unfolding metadata_reply_v0
front_v0 node ts old new wrote =
    let brokers = (array metadata_broker_v0).written (broker_v0 (broker node) ∷ []) in
    behind old new brokers (topics_in (pos 0) ts) wrote ∙ ap (λ x. old ++ (brokers ++ x)) (topics_old ts)

pub front_v1 : (node : Node) (ts : List MetadataTopic) (version : ℤ) (old s1 new : List ℕ) → int_eq version (pos 0) ≡ false → int_eq version (pos 2) ≡ false → int_eq version (pos 3) ≡ false → int_eq version (pos 4) ≡ false → int_eq version (pos 5) ≡ false → int_eq version (pos 7) ≡ false
    → s1 ≡ old ++ (array metadata_broker).written (broker node ∷ []) → new ≡ s1 ++ int32.written (pos 0)
    → new ++ topics_in version ts ≡ old ++ metadata_in version (reply_with node ts)
unfolding metadata_reply
front_v1 node ts version old s1 new not0 not2 not3 not4 not5 not7 first last =
    let brokers = (array metadata_broker).written (broker node ∷ []) in
    let self = int32.written (pos 0) in
    let topics = topics_in version ts in
    behind old new (brokers ++ self) topics (written_both old s1 new brokers self first last) ∙ ap (λ x. old ++ x) (append_assoc brokers self topics)
    ∙ ap (λ x. old ++ (brokers ++ (self ++ x))) (topics_new version ts not0 not5 not7)
    ∙ sym (ap (λ x. old ++ x) (rw (not0, not2, not3, not4, not5, not7) refl))

clustered : (brokers cluster self topics : List ℕ) → (brokers ++ (cluster ++ self)) ++ topics ≡ brokers ++ (cluster ++ (self ++ topics))
clustered brokers cluster self topics = append_assoc brokers (cluster ++ self) topics ∙ ap (λ x. brokers ++ x) (append_assoc cluster self topics)

pub front_v2 : (node : Node) (ts : List MetadataTopic) (old new : List ℕ) → new ≡ old ++ ((array metadata_broker).written (broker node ∷ []) ++ (nullable_string.written (Some node.host) ++ int32.written (pos 0)))
    → new ++ topics_in (pos 2) ts ≡ old ++ metadata_in (pos 2) (reply_with node ts)
unfolding metadata_reply_v2
front_v2 node ts old new wrote =
    let brokers = (array metadata_broker).written (broker node ∷ []) in
    let cluster = nullable_string.written (Some node.host) in
    let self = int32.written (pos 0) in
    let topics = topics_in (pos 2) ts in
    behind old new (brokers ++ (cluster ++ self)) topics wrote ∙ ap (λ x. old ++ x) (clustered brokers cluster self topics)
    ∙ ap (λ x. old ++ (brokers ++ (cluster ++ (self ++ x)))) (topics_new (pos 2) ts refl refl refl)

-- a throttle time and the cluster, and the topics behind it
front_v3 : (node : Node) (topics old s1 new : List ℕ) → s1 ≡ old ++ int32.written (pos 0)
    → new ≡ s1 ++ ((array metadata_broker).written (broker node ∷ []) ++ (nullable_string.written (Some node.host) ++ int32.written (pos 0)))
    → new ++ topics ≡ old ++ (int32.written (pos 0) ++ ((array metadata_broker).written (broker node ∷ []) ++ (nullable_string.written (Some node.host) ++ (int32.written (pos 0) ++ topics))))
front_v3 node topics old s1 new first wrote =
    let brokers = (array metadata_broker).written (broker node ∷ []) in
    let cluster = nullable_string.written (Some node.host) in
    let self = int32.written (pos 0) in
    behind old new (self ++ (brokers ++ (cluster ++ self))) topics (written_both old s1 new self (brokers ++ (cluster ++ self)) first wrote)
    ∙ ap (λ x. old ++ x) (append_assoc self (brokers ++ (cluster ++ self)) topics ∙ ap (λ x. self ++ x) (clustered brokers cluster self topics))

-- versions 3 to 5 and 7
pub front_later : (node : Node) (ts : List MetadataTopic) (version : ℤ) (old s1 new : List ℕ) → (version ≡ pos 3) ⊎ ((version ≡ pos 4) ⊎ ((version ≡ pos 5) ⊎ (version ≡ pos 7))) → s1 ≡ old ++ int32.written (pos 0)
    → new ≡ s1 ++ ((array metadata_broker).written (broker node ∷ []) ++ (nullable_string.written (Some node.host) ++ int32.written (pos 0)))
    → new ++ topics_in version ts ≡ old ++ metadata_in version (reply_with node ts)
unfolding metadata_reply_v3
front_later node ts version old s1 new which first wrote =
    let all = front_v3 node ((array metadata_topic).written ts) old s1 new first wrote in
    let offline = front_v3 node ((array metadata_topic_v5).written (map topic_v5 ts)) old s1 new first wrote in
    let epochs = front_v3 node ((array metadata_topic_v7).written (map topic_v5 ts)) old s1 new first wrote in
    ⊎_elim
    (λ is. subst (λ v. new ++ topics_in v ts ≡ old ++ metadata_in v (reply_with node ts)) (sym is) (ap (λ x. new ++ x) (topics_new (pos 3) ts refl refl refl) ∙ all))
    (⊎_elim
    (λ is. subst (λ v. new ++ topics_in v ts ≡ old ++ metadata_in v (reply_with node ts)) (sym is) (ap (λ x. new ++ x) (topics_new (pos 4) ts refl refl refl) ∙ all))
    (⊎_elim
    (λ is. subst (λ v. new ++ topics_in v ts ≡ old ++ metadata_in v (reply_with node ts)) (sym is) (ap (λ x. new ++ x) (topics_offline ts) ∙ offline))
    (λ is. subst (λ v. new ++ topics_in v ts ≡ old ++ metadata_in v (reply_with node ts)) (sym is) (ap (λ x. new ++ x) (topics_epochs ts) ∙ epochs))))
    which

-- the topics behind what stands before them, until there are more than so many bytes
pub topics_until_all : (most : ℕ) (version : ℤ) (out : List ℕ) (ts : List MetadataTopic) → AreUntil most (out ++ topics_in version ts) (topics_until most version out ts)
topics_until_all most version out ts =
    let number = (count w32).written (length ts) in
    are_until most ((out ++ number) ++ flat_map (topic_in version) ts) (out ++ topics_in version ts) (topics_until most version out ts) (topics_until most version out ts)
    (append_assoc out number (flat_map (topic_in version) ts)) refl (until_all most (topic_in version) (out ++ number) ts)

pub metadata_until : (most : ℕ) (w : World) (node : Node) (version : ℤ) (r : MetadataRequest) (asked : Option (List (List ℕ))) (old s1 s2 : List ℕ) → r.topics ≡ asked
    → s1 ++ topics_in version (topics_asked w.known.topics asked) ≡ old ++ metadata_in version (reply_with node (topics_asked w.known.topics asked))
    → s2 ≡ topics_until most version s1 (topics_asked w.known.topics asked) → IsMetadataUntil most version (metadata_of w node r) old s2
metadata_until most w node version r asked old s1 s2 is front made =
    subst (λ o. IsMetadataUntil most version (reply_with node (topics_asked w.known.topics o)) old s2) (sym is) (s1, front, made)

pub metadata_until_all : (most : ℕ) (version : ℤ) (r : MetadataReply) (old new : List ℕ) → IsMetadataUntil most version r old new → AreUntil most (old ++ metadata_in version r) new
metadata_until_all most version r old new until =
    are_until most (until.0 ++ topics_in version r.topics) (old ++ metadata_in version r) (topics_until most version until.0 r.topics) new until.1 until.2
    (topics_until_all most version until.0 r.topics)
