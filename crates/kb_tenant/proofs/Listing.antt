-- What an entry of ListOffsets is answered, whatever memory and the store refuse.
use Rattle.std.proofs.Common.{◌≡◌, ◌∙◌, ◌⊎◌, ◌++◌, ◌+◌, ◌<◌, ◌≤◌, [], ◌∷◌, inl, inr, ⊎_elim, ℕ, List, Option, ap, refl, subst, sym, w32, length, take, get_or}
use Rattle.std.specs.List.{AllZip, flat_map}
use Rattle.std.specs.Prelude.{Bool}
use Rattle.std.proofs.lemmas.List.{take_all, take_more}
use Rattle.std.proofs.lemmas.Slice.Zip.{AllZip-long}
use Rattle.kb_wire.specs.Codec.{array, count, string}
use Rattle.kb_api_data.specs.declared.list_offsets.ListOffsetsPartition.{ListOffsetsPartition}
use Rattle.kb_api_data.specs.declared.list_offsets.ListOffsetsPartitionReply.{ListOffsetsPartitionReply}
use Rattle.kb_api_data.specs.declared.list_offsets.ListOffsetsReply.{ListOffsetsReply}
use Rattle.kb_api_data.specs.declared.list_offsets.ListOffsetsRequest.{ListOffsetsRequest}
use Rattle.kb_api_data.specs.declared.list_offsets.ListOffsetsTopic.{ListOffsetsTopic}
use Rattle.kb_api_data.specs.declared.list_offsets.ListOffsetsTopicReply.{ListOffsetsTopicReply}
use Rattle.kb_topics.specs.Known.{named}
use Rattle.kb_tenant_state.specs.Scene.{Scene, WhereHonest}
use Rattle.kb_tenant_state.specs.Parts.{Seen}
use Rattle.kb_tenant_state.specs.Steps.{IsStep}
use Rattle.kb_tenant_state.specs.World.{World}
use Rattle.kb_tenant.specs.Told.{HasFailed, IsListingTold, IsListingTopicTold}
use Rattle.kb_tenant.proofs.Acknowledging.{honest_then, written_more}
use Rattle.kb_tenant.proofs.Fetched.{failed_later, failed_since}
use Rattle.kb_tenant.specs.ListOffsets.{partition_reply, topic_reply, listing_reply}
use Rattle.kb_tenant.proofs.Fitting.{array_written, written_both}
use Rattle.kb_tenant.proofs.Offsets.{listing_spelled, topic_spelled}

-- ---- one more

zip_push : {A B : Type 0} (R : A → B → Type 0) (xs : List A) (ys : List B) (x : A) (y : B) → AllZip R xs ys → R x y
    → AllZip R (xs ++ x ∷ []) (ys ++ y ∷ [])
zip_push R [] [] x y h one = (one, tt)
zip_push R [] (b ∷ ys) x y h one = absurd h
zip_push R (a ∷ xs) [] x y h one = absurd h
zip_push R (a ∷ xs) (b ∷ ys) x y h one = (h.0, zip_push R xs ys x y h.1 one)

zip_so : {A B : Type 0} (R Q : A → B → Type 0) → ((x : A) (y : B) → R x y → Q x y) → (xs : List A) (ys : List B) → AllZip R xs ys
    → AllZip Q xs ys
zip_so R Q so [] [] h = tt
zip_so R Q so [] (b ∷ ys) h = absurd h
zip_so R Q so (a ∷ xs) [] h = absurd h
zip_so R Q so (a ∷ xs) (b ∷ ys) h = (so a b h.0, zip_so R Q so xs ys h.1)

pub listing_so : (topic : Option ℕ) (P Q : Type 0) → (P → Q) → (w : World) (e : ListOffsetsPartition) (x : ListOffsetsPartitionReply)
    → IsListingTold P w topic e x → IsListingTold Q w topic e x
listing_so topic P Q f w e x =
    ⊎_elim (λ done. inl done) (λ want. inr (⊎_elim (λ store. inl (store.0, f store.1)) (λ memory. inr memory) want))

pub listing_topic_so : (P Q : Type 0) → (P → Q) → (w : World) (t : ListOffsetsTopic) (x : ListOffsetsTopicReply)
    → IsListingTopicTold P w t x → IsListingTopicTold Q w t x
listing_topic_so P Q f w t x told =
    let topic = named t.name w.known.topics in
    (told.0, zip_so (IsListingTold P w topic) (IsListingTold Q w topic) (λ e y. listing_so topic P Q f w e y) t.partitions x.partitions told.1)

-- one more is answered behind others, in a world that stays
pub listed_next : {E A : Type 0} (write : A → List ℕ) (R : Type 0 → World → E → A → Type 0)
    → ((P Q : Type 0) → (P → Q) → (w : World) (e : E) (x : A) → R P w e x → R Q w e x)
    → (a b d : Scene Seen) (out old new : List ℕ) (es : List E) (i : ℕ) (e : E) → i < length es → e ≡ get_or es i e
    → IsStep a b → IsStep b d → (b.disk.honest → a.agrees → b.state.world ≡ a.state.world)
    → WhereHonest a b ((xs : List A) × ((old ≡ out ++ flat_map write xs) × AllZip (R (HasFailed a b) a.state.world) (take i es) xs))
    → WhereHonest b d ((x : A) × ((new ≡ old ++ write x) × R (HasFailed b d) b.state.world e x))
    → WhereHonest a d ((xs : List A) × ((new ≡ out ++ flat_map write xs) × AllZip (R (HasFailed a d) a.state.world) (take (i + 1) es) xs))
listed_next write R so a b d out old new es i e lt is first second stays before behind honest agree =
    let w = a.state.world in
    let both = honest_then a b d _ _ first second before behind honest agree in
    let earlier = both.0 in
    let later = both.1 in
    let here = subst (λ v. R (HasFailed b d) v e later.0) (stays (second.frame.others.honest honest) agree) later.1.1 in
    let longer : take i es ++ e ∷ [] ≡ take (i + 1) es = ap (λ x. take i es ++ x ∷ []) is ∙ sym (take_more es i e lt) in (
      earlier.0 ++ later.0 ∷ [],
      (
        written_more write out old new earlier.0 later.0 earlier.1.0 later.1.0,
        subst (λ xs. AllZip (R (HasFailed a d) w) xs (earlier.0 ++ later.0 ∷ [])) longer
            (zip_push (R (HasFailed a d) w) (take i es) earlier.0 e later.0
            (zip_so (R (HasFailed a b) w) (R (HasFailed a d) w) (λ f y. so (HasFailed a b) (HasFailed a d) (failed_later a b d second) w f y)
            (take i es) earlier.0 earlier.1.1)
            (so (HasFailed b d) (HasFailed a d) (failed_since a b d first) w e later.0 here)),
      ),
    )

pub listed_over : {E A : Type 0} (R : E → A → Type 0) (es : List E) (xs : List A) (i : ℕ) → length es ≤ i → AllZip R (take i es) xs → AllZip R es xs
listed_over R es xs i le h = subst (λ l. AllZip R l xs) (take_all i es le) h

-- ---- a topic, and the whole

-- a topic's name, the count of its entries and what they were answered
pub topic_listing : (epochs : Bool) (failed : Type 0) (w : World) (t : ListOffsetsTopic) (name : List ℕ) (n : ℕ) (instance : Option ℕ)
    (entries : List ListOffsetsPartition) (s0 s1 s2 s3 : List ℕ)
    → name ≡ t.name → n ≡ length t.partitions → instance ≡ named t.name w.known.topics → entries ≡ t.partitions
    → s1 ≡ s0 ++ string.written name → s2 ≡ s1 ++ (count w32).written n
    → (replies : List ListOffsetsPartitionReply)
    × ((s3 ≡ s2 ++ flat_map (partition_reply epochs).written replies) × AllZip (IsListingTold failed w instance) entries replies)
    → (reply : ListOffsetsTopicReply) × ((s3 ≡ s0 ++ (topic_reply epochs).written reply) × IsListingTopicTold failed w t reply)
topic_listing epochs failed w t name n instance entries s0 s1 s2 s3 same len at list first second told =
    let here = named t.name w.known.topics in
    let replies : List ListOffsetsPartitionReply = told.0 in
    let all = flat_map (partition_reply epochs).written replies in
    let answered : AllZip (IsListingTold failed w here) t.partitions replies =
    subst (λ es. AllZip (IsListingTold failed w here) es replies) list
    (subst (λ i. AllZip (IsListingTold failed w i) entries replies) at told.1.1) in
    let many : n ≡ length replies = len ∙ sym (AllZip-long (IsListingTold failed w here) t.partitions replies answered) in
    let tail : s3 ≡ s1 ++ ((count w32).written n ++ all) = written_both s1 s2 s3 ((count w32).written n) all second told.1.0 in
    let array_is = array_written (partition_reply epochs) replies n many in (
      record { name = t.name; partitions = replies },
      (
        written_both s0 s1 s3 (string.written t.name) ((array (partition_reply epochs)).written replies)
            (first ∙ ap (λ m. s0 ++ string.written m) same) (tail ∙ ap (λ x. s1 ++ x) array_is)
            ∙ ap (λ x. s0 ++ x) (sym (topic_spelled epochs (record { name = t.name; partitions = replies }))),
        (refl, answered),
      ),
    )

-- the count of the topics and what they were answered
pub all_listing : (epochs : Bool) (failed : Type 0) (w : World) (q : ListOffsetsRequest) (n : ℕ) (s0 s1 s2 : List ℕ) → n ≡ length q.topics
    → s1 ≡ s0 ++ (count w32).written n
    → (replies : List ListOffsetsTopicReply)
    × ((s2 ≡ s1 ++ flat_map (topic_reply epochs).written replies) × AllZip (IsListingTopicTold failed w) q.topics replies)
    → (reply : ListOffsetsReply)
    × ((s2 ≡ s0 ++ (listing_reply epochs).written reply) × AllZip (IsListingTopicTold failed w) q.topics reply.topics)
all_listing epochs failed w q n s0 s1 s2 len first told =
    let replies : List ListOffsetsTopicReply = told.0 in
    let many : n ≡ length replies = len ∙ sym (AllZip-long (IsListingTopicTold failed w) q.topics replies told.1.1) in (
      record { topics = replies },
      (
        written_both s0 s1 s2 ((count w32).written n) (flat_map (topic_reply epochs).written replies) first told.1.0
            ∙ ap (λ x. s0 ++ x) (array_written (topic_reply epochs) replies n many ∙ sym (listing_spelled epochs (record { topics = replies }))),
        told.1.1,
      ),
    )
