-- What an entry of Fetch is answered, by what the call for it answered, whatever memory and the store refuse.
use Rattle.std.proofs.Common.{◌≡◌, ◌⊎◌, ◌∙◌, ◌++◌, ◌∷◌, ◌+◌, ◌<◌, [], arith, inl, inr, ⊎_elim, ℕ, ℤ, Bool, true, false, List, Option, Some, ap, refl, subst, sym, w32, length, take, get_or, append_assoc}
use Rattle.std.specs.Prelude.{pos, option_map, Err}
use Rattle.std.specs.List.{flat_map}
use Rattle.kb_wire.specs.Codec.{count, int32, string}
use Rattle.kb_api_data.specs.declared.fetch.FetchPartition.{FetchPartition}
use Rattle.kb_api_data.specs.declared.fetch.FetchRequest.{FetchRequest}
use Rattle.kb_api_data.specs.declared.fetch.FetchTopic.{FetchTopic}
use Rattle.kb_api_data.specs.declared.fetch_records_v5.FetchPartitionFrontV5.{FetchPartitionFrontV5}
use Rattle.kb_api_data.specs.declared.fetch_v5.FetchPartitionReplyV5.{FetchPartitionReplyV5}
use Rattle.kb_api_data.specs.declared.fetch_v5.FetchReplyV5.{FetchReplyV5}
use Rattle.kb_api_data.specs.declared.fetch_v5.FetchTopicReplyV5.{FetchTopicReplyV5}
use Rattle.kb_topics.specs.Known.{named}
use Rattle.kb_tenant_state.specs.Scene.{Scene, WhereHonest}
use Rattle.kb_tenant_state.specs.declared.fault.PartitionFault.{PartitionFault}
use Rattle.kb_tenant_state.specs.declared.fault.PartitionFault.TheVariants as partition
use Rattle.kb_tenant_state.specs.Calls.{IsGiven}
use Rattle.kb_tenant_state.specs.Parts.{Seen}
use Rattle.kb_tenant_state.specs.Steps.{IsStep}
use Rattle.kb_tenant_state.specs.Told.{IsDone, IsRefused, IsWant}
use Rattle.kb_tenant_state.specs.World.{World}
use Rattle.kb_tenant_state.specs.declared.topic_partition.TopicPartition.{TopicPartition}
use Rattle.kb_tenant.specs.Counted.{limits_of, answered_at, begun, fetched_at, has_enough, refused, AreFetchesTold, IsFetchTold, IsFetchTopicTold, IsReadOr, IsUnread}
use Rattle.kb_tenant.specs.Fetch.{bounds_of, deadline_of, fetched_as, front_of, has_starts, session_front}
use Rattle.kb_tenant.specs.Fetch.{partition_written, places_of, reply_written, topic_written}
use Rattle.kb_tenant.specs.FetchWait.{FetchWait}
use Rattle.kb_tenant.specs.Replies.{begun as reply_begun, IsAnswer, Replies}
use Rattle.kb_tenant.specs.Told.{HasFailed, IsFetchMade, IsFetchReady, IsFetchReplied}
use Rattle.kb_tenant.specs.Told.{IsLeftWaiting, IsRepliedOrWaits, IsUnready, TellsFetch}
use Rattle.kb_tenant.specs.Turns.{AreServed}
use Rattle.kb_tenant.specs.declared.answer.Answer.{Answer}
use Rattle.kb_tenant.specs.declared.answer.Answer.TheVariants as answers
use Rattle.kb_tenant.specs.declared.fetch.given.Given.{Given}
use Rattle.kb_tenant.specs.declared.fetch.waiting.Fetching.TheVariants as fetching
use Rattle.kb_tenant.proofs.Acknowledging.{failed_in, honest_then, served_length, served_next, served_so, written_more}
use Rattle.kb_tenant.proofs.Counting.{all_told}
use Rattle.kb_tenant.proofs.DeletedRecords.{behind}
use Rattle.kb_tenant.proofs.Fetching.{by_refusal, cut_back, reply_spelled, topic_spelled}
use Rattle.kb_tenant.proofs.Ready.{told_ready}

-- ---- one entry

-- the want of a fault, as what is answered tells it
unread : (a b : Scene Seen) → IsStep a b → b.disk.honest → a.agrees
    → (g h : Given) (e : FetchPartition) (x : FetchPartitionReplyV5) (f : PartitionFault)
    → (h, x) ≡ refused g e.partition f → IsWant a b f → IsUnread (HasFailed a b) g e h x
unread a b step honest agree g h e x partition.Unknown is want = absurd want
unread a b step honest agree g h e x partition.Range is want = absurd want
unread a b step honest agree g h e x partition.Full is want = absurd want
unread a b step honest agree g h e x partition.Store is want =
    inl (
      is,
      failed_in a.disk.failures b.disk.failures b.next a.disk.failures b.disk.failures a.next (omega arith) (omega arith)
          step.frame.others.later (want honest agree),
    )
unread a b step honest agree g h e x partition.Memory is want = inr is

-- what comes to what is defined
pub defined_told : (failed : Type 0) (starts : Bool) (defined : Given × FetchPartitionReplyV5) (g h : Given) (e : FetchPartition)
    (old new : List ℕ) → (h ≡ defined.0) × (new ≡ old ++ partition_written starts defined.1)
    → (reply : FetchPartitionReplyV5) × ((new ≡ old ++ partition_written starts reply) × IsReadOr failed defined g e h reply)
defined_told failed starts defined g h e old new is = (defined.1, (is.1, inl (ap (λ x. (x, defined.1)) is.0)))

-- a partition whose fetch is refused, by the definition or for a want
pub refusal_told : (a b : Scene Seen) (starts : Bool) (g new : Given) (e : FetchPartition) (place : TopicPartition) (head : FetchPartitionFrontV5)
    (f : PartitionFault) (start front was put cut bytes : List ℕ) (n : ℕ) → IsStep a b
    → Some head ≡ option_map (front_of e.partition) (bounds_of a.state.world place) → n ≡ length start → was ≡ start ++ front → put ≡ was
    → cut ≡ take n put
    → IsDone a b (IsGiven (fetched_at a.state.world g e place) was (Err f) put) ⊎ IsRefused a b (IsWant a b f)
    → new ≡ (refused g e.partition f).0 → bytes ≡ cut ++ partition_written starts (refused g e.partition f).1
    → WhereHonest a b ((reply : FetchPartitionReplyV5) × ((bytes ≡ start ++ partition_written starts reply)
    × IsReadOr (HasFailed a b) (answered_at a.state.world g e (Some place)) g e new reply))
refusal_told a b starts g new e place head f start front was put cut bytes n step is len there kept back told one two honest agree =
    let x : FetchPartitionReplyV5 = (refused g e.partition f).1 in
    let same : (new, x) ≡ refused g e.partition f = ap (λ h. (h, x)) one in
    let own = by_refusal g e.partition head (bounds_of a.state.world place) (fetched_at a.state.world g e place) f was put is in (
      x,
      (
        two ∙ ap (λ s. s ++ partition_written starts x) (back ∙ cut_back start front put n (kept ∙ there) len),
        ⊎_elim (λ done. inl (same ∙ own (done.met honest agree)))
            (λ wanted. inr (unread a b step honest agree g new e x f same wanted.want))
            told,
      ),
    )

-- ---- a step more

-- where the store failed in a while it failed in a longer one
pub failed_later : (a b d : Scene Seen) → IsStep b d → HasFailed a b → HasFailed a d
failed_later a b d step =
    failed_in a.disk.failures d.disk.failures d.next a.disk.failures b.disk.failures b.next (omega arith) step.frame.failures
    step.frame.others.later

pub failed_since : (a b d : Scene Seen) → IsStep a b → HasFailed b d → HasFailed a d
failed_since a b d step =
    failed_in a.disk.failures d.disk.failures d.next b.disk.failures d.disk.failures d.next step.frame.failures (omega arith) (omega arith)

-- so an entry is told so
pub fetch_so : (topic : Option ℕ) (P Q : Type 0) → (P → Q) → (w : World) (g : Given) (e : FetchPartition) (h : Given)
    (x : FetchPartitionReplyV5) → IsFetchTold P w topic g e h x → IsFetchTold Q w topic g e h x
fetch_so topic P Q f w g e h x =
    ⊎_elim (λ done. inl done) (λ unread. inr (⊎_elim (λ store. inl (store.0, f store.1)) (λ memory. inr memory) unread))

-- and a topic
pub fetch_topic_so : (P Q : Type 0) → (P → Q) → (w : World) (g : Given) (t : FetchTopic) (h : Given) (x : FetchTopicReplyV5)
    → IsFetchTopicTold P w g t h x → IsFetchTopicTold Q w g t h x
fetch_topic_so P Q f w g t h x told =
    let topic = named t.topic w.known.topics in (
      told.0,
      served_so (IsFetchTold P w topic) (IsFetchTold Q w topic) (λ k e l y. fetch_so topic P Q f w k e l y) g h t.partitions x.partitions
          told.1,
    )

-- one more is answered behind others, in a world that stays
pub answered_next : {E A : Type 0} (write : A → List ℕ) (R : Type 0 → World → Given → E → Given → A → Type 0)
    → ((P Q : Type 0) → (P → Q) → (w : World) (g : Given) (e : E) (h : Given) (x : A) → R P w g e h x → R Q w g e h x)
    → (a b d : Scene Seen) (out old new : List ℕ) (start g h : Given) (es : List E) (i : ℕ) (e : E) → i < length es → e ≡ get_or es i e
    → IsStep a b → IsStep b d → (b.disk.honest → a.agrees → b.state.world ≡ a.state.world)
    → WhereHonest a b ((xs : List A)
    × ((old ≡ out ++ flat_map write xs) × AreServed (R (HasFailed a b) a.state.world) start (take i es) g xs))
    → WhereHonest b d ((x : A) × ((new ≡ old ++ write x) × R (HasFailed b d) b.state.world g e h x))
    → WhereHonest a d ((xs : List A)
    × ((new ≡ out ++ flat_map write xs) × AreServed (R (HasFailed a d) a.state.world) start (take (i + 1) es) h xs))
answered_next write R so a b d out old new start g h es i e lt is first second stays before behind honest agree =
    let w = a.state.world in
    let both = honest_then a b d _ _ first second before behind honest agree in
    let earlier = both.0 in
    let later = both.1 in
    let here = subst (λ v. R (HasFailed b d) v g e h later.0) (stays (second.frame.others.honest honest) agree) later.1.1 in (
      earlier.0 ++ later.0 ∷ [],
      (
        written_more write out old new earlier.0 later.0 earlier.1.0 later.1.0,
        served_next (R (HasFailed a d) w) start g h es i e earlier.0 later.0 lt is
            (served_so (R (HasFailed a b) w) (R (HasFailed a d) w)
            (λ k f l y. so (HasFailed a b) (HasFailed a d) (failed_later a b d second) w k f l y) start g (take i es) earlier.0 earlier.1.1)
            (so (HasFailed b d) (HasFailed a d) (failed_since a b d first) w g e h later.0 here),
      ),
    )

-- ---- a topic, and the whole

-- a topic's name, the count of its entries and what they were answered
pub topic_fetched : (failed : Type 0) (starts : Bool) (w : World) (g h : Given) (t : FetchTopic) (name : List ℕ) (n : ℕ) (topic : Option ℕ)
    (entries : List FetchPartition) (s0 s1 s2 s3 : List ℕ)
    → name ≡ t.topic → n ≡ length t.partitions → topic ≡ named name w.known.topics → entries ≡ t.partitions
    → s1 ≡ s0 ++ string.written name → s2 ≡ s1 ++ (count w32).written n
    → (replies : List FetchPartitionReplyV5)
    × ((s3 ≡ s2 ++ flat_map (partition_written starts) replies) × AreServed (IsFetchTold failed w topic) g entries h replies)
    → (reply : FetchTopicReplyV5) × ((s3 ≡ s0 ++ topic_written starts reply) × IsFetchTopicTold failed w g t h reply)
topic_fetched failed starts w g h t name n topic entries s0 s1 s2 s3 same len at list first second told =
    let instance = named t.topic w.known.topics in
    let replies : List FetchPartitionReplyV5 = told.0 in
    let reply : FetchTopicReplyV5 = record { topic = t.topic; partitions = replies } in
    let served : AreServed (IsFetchTold failed w instance) g t.partitions h replies =
    subst (λ es. AreServed (IsFetchTold failed w instance) g es h replies) list
    (subst (λ i. AreServed (IsFetchTold failed w i) g entries h replies) (at ∙ ap (λ x. named x w.known.topics) same) told.1.1) in
    let many : n ≡ length replies = len ∙ sym (served_length (IsFetchTold failed w instance) g h t.partitions replies served) in
    let bytes = told.1.0 ∙ behind (partition_written starts) s0 (string.written t.topic) s1 s2 n replies
    (first ∙ ap (λ x. s0 ++ string.written x) same) second many
    ∙ ap (λ l. s0 ++ l) (sym (topic_spelled starts reply)) in
    (reply, (bytes, (refl, served)))

-- the throttle time, the count of the topics and what they were answered
pub all_fetched : (failed : Type 0) (starts : Bool) (w : World) (q : FetchRequest) (g h : Given) (n : ℕ) (topics : List FetchTopic)
    (s0 s1 s2 s3 : List ℕ)
    → g ≡ begun q → n ≡ length q.topics → topics ≡ q.topics → s1 ≡ s0 ++ int32.written (pos 0) → s2 ≡ s1 ++ (count w32).written n
    → (replies : List FetchTopicReplyV5)
    × ((s3 ≡ s2 ++ flat_map (topic_written starts) replies) × AreServed (IsFetchTopicTold failed w) g topics h replies)
    → (reply : FetchReplyV5) × ((s3 ≡ s0 ++ reply_written starts reply) × AreFetchesTold failed w q h reply)
all_fetched failed starts w q g h n topics s0 s1 s2 s3 start len list first second told =
    let replies : List FetchTopicReplyV5 = told.0 in
    let reply : FetchReplyV5 = record { throttle_time_ms = pos 0; topics = replies } in
    let served : AreServed (IsFetchTopicTold failed w) (begun q) q.topics h replies =
    subst (λ ts. AreServed (IsFetchTopicTold failed w) (begun q) ts h replies) list
    (subst (λ k. AreServed (IsFetchTopicTold failed w) k topics h replies) start told.1.1) in
    let many : n ≡ length replies = len ∙ sym (served_length (IsFetchTopicTold failed w) (begun q) h q.topics replies served) in
    let bytes = told.1.0 ∙ behind (topic_written starts) s0 (int32.written (pos 0)) s1 s2 n replies first second many
    ∙ ap (λ l. s0 ++ l) (sym (reply_spelled starts reply)) in
    (reply, (bytes, (refl, served)))

-- ---- a look

-- what the limits that are left tell of the fetch, and what is written where it is ready
pub fetched_ready : (failed : Type 0) (starts : Bool) (w : World) (clock : ℕ) (q : FetchRequest) (left : Given) (deadline : ℕ) (ready is : Bool)
    (old mid new : List ℕ) → ready ≡ has_enough left clock deadline → ready ≡ is → (is ≡ true → new ≡ mid)
    → (reply : FetchReplyV5) × ((mid ≡ old ++ reply_written starts reply) × AreFetchesTold failed w q left reply)
    → (reply : FetchReplyV5)
    × (IsFetchReady failed w clock deadline q is reply × (is ≡ true → new ≡ old ++ reply_written starts reply))
fetched_ready failed starts w clock q left deadline ready is old mid new enough so written told = (
  told.0,
  (
    (
      limits_of left,
      (
        all_told failed w q left told.0 told.1.1,
        sym (told_ready failed w clock q left told.0 deadline told.1.1) ∙ sym enough ∙ so,
      ),
    ),
    λ over. written over ∙ told.1.0,
  ),
)

-- the answer to a look that wrote its reply behind what was begun
pub look_replied : (failed Unready : Type 0) (id version code : ℤ) (starts : Bool) (w : World) (clock deadline : ℕ) (asked q : FetchRequest) (old new : List ℕ)
    (done : Bool) (answer : Answer) → starts ≡ has_starts version → old ≡ reply_begun id ++ session_front version code → done ≡ true → asked ≡ q
    → (reply : FetchReplyV5)
    × (IsFetchReady failed w clock deadline asked done reply × (done ≡ true → new ≡ old ++ reply_written starts reply))
    → ((id : ℤ) (body : List ℕ) → new ≡ reply_begun id ++ body → IsAnswer id (Replies body) answer)
    → IsRepliedOrWaits id (TellsFetch failed version code w clock deadline q) Unready answer
look_replied failed Unready id version code starts w clock deadline asked q old new done answer same from over one told made =
    by answer (made id body (told.1.1 over ∙ ap (λ s. s ++ reply_written starts reply) from
    ∙ append_assoc (reply_begun id) (session_front version code) (reply_written starts reply)
    ∙ ap (λ b. reply_begun id ++ (session_front version code ++ reply_written b reply)) same))
  where
    reply : FetchReplyV5
    reply = told.0

    body : List ℕ
    body = fetched_as version code reply

    ready : IsFetchReady failed w clock deadline q true reply
    ready = subst (λ r. IsFetchReady failed w clock deadline r true reply) one
        (subst (λ b. IsFetchReady failed w clock deadline asked b reply) over told.1.0)

    by : (x : Answer) → IsAnswer id (Replies body) x → IsRepliedOrWaits id (TellsFetch failed version code w clock deadline q) Unready x
    by (answers.Reply bytes) h = (body, (h.1, (reply, (refl, ready))))
    by (answers.Wait until kept keys) h = absurd h
    by answers.NoReply h = absurd h
    by answers.Shut h = tt

-- a look at one that still waits
pub look_unready : (failed : Type 0) (w : World) (clock deadline : ℕ) (asked q : FetchRequest) (done : Bool) (Also : FetchReplyV5 → Type 0)
    → done ≡ false → asked ≡ q → (reply : FetchReplyV5) × (IsFetchReady failed w clock deadline asked done reply × Also reply)
    → IsUnready failed w clock deadline q
look_unready failed w clock deadline asked q done Also not one told = (
  told.0,
  subst (λ r. IsFetchReady failed w clock deadline r false told.0) one
      (subst (λ b. IsFetchReady failed w clock deadline asked b told.0) not told.1.0),
)

-- ---- a fetch

-- one that wrote its reply
pub made_reply : (failed : Type 0) (starts : Bool) (w : World) (clock : ℕ) (q : FetchRequest) (d : ℕ) (old new : List ℕ) (done : Bool)
    → done ≡ true → d ≡ deadline_of clock q
    → (reply : FetchReplyV5) × (IsFetchReady failed w clock d q done reply × (done ≡ true → new ≡ old ++ reply_written starts reply))
    → IsFetchMade failed starts w clock q old fetching.Reply new
made_reply failed starts w clock q d old new done over until told =
    (told.0, (subst (λ n. IsFetchReady failed w clock n q true told.0) until (subst (λ b. IsFetchReady failed w clock d q b told.0) over told.1.0), told.1.1 over))

-- one that waits
pub made_wait : (failed : Type 0) (w v : World) (clock : ℕ) (q : FetchRequest) (d : ℕ) (places : List TopicPartition) (done : Bool)
    (Also : FetchReplyV5 → Type 0) → done ≡ false → d ≡ deadline_of clock q → places ≡ places_of v q → v ≡ w
    → (reply : FetchReplyV5) × (IsFetchReady failed w clock d q done reply × Also reply) → IsLeftWaiting failed w clock q d places
made_wait failed w v clock q d places done Also not until there stays told = (
  subst (λ n. IsUnready failed w clock n q) until (look_unready failed w clock d q q done Also not refl told),
  (until, there ∙ ap (λ u. places_of u q) stays),
)

-- its reply behind what was begun
pub fetch_replied : (failed : Type 0) (id version code : ℤ) (fetch : FetchWait) (starts : Bool) (w : World) (clock : ℕ) (asked q : FetchRequest) (old new : List ℕ)
    (answer : Answer) → starts ≡ has_starts version → old ≡ reply_begun id ++ session_front version code → asked ≡ q
    → IsFetchMade failed starts w clock asked old fetching.Reply new
    → ((id : ℤ) (body : List ℕ) → new ≡ reply_begun id ++ body → IsAnswer id (Replies body) answer)
    → IsFetchReplied failed id version code fetch w clock q answer
fetch_replied failed id version code fetch starts w clock asked q old new answer same from one told made =
    by answer (look_replied failed ⊥ id version code starts w clock (deadline_of clock q) q q old new true answer same from refl refl
    (ready.0, (ready.1.0, λ over. ready.1.1)) made)
  where
    ready : IsFetchMade failed starts w clock q old fetching.Reply new
    ready = subst (λ r. IsFetchMade failed starts w clock r old fetching.Reply new) one told

    by : (x : Answer) → IsRepliedOrWaits id (TellsFetch failed version code w clock (deadline_of clock q) q) ⊥ x → IsFetchReplied failed id version code fetch w clock q x
    by (answers.Reply bytes) h = h
    by (answers.Wait until kept keys) h = absurd h
    by answers.NoReply h = absurd h
    by answers.Shut h = tt
