-- What a fetch surely misses, by what its partitions give at most.
use Rattle.std.proofs.Common.{◌≡◌, ◌∙◌, ap, inl, refl, sym, subst, ℕ, ℤ, ◌+◌, ◌-◌, ◌<◌, ◌≤◌, Bool, true, false, List, [], ◌∷◌, ◌++◌}
use Rattle.std.proofs.Common.{length, min, take, get_or, int_lt, arith, ◌^◌}
use Rattle.std.specs.Prelude.{pos, not, nat_le, option_map, Option, Some, None, Result, Ok, Err, ◌==◌, ◌||◌, if◌then◌else◌}
use Rattle.std.specs.List.{AllByRecursion}
use Rattle.std.proofs.lemmas.Bool.Decides.{nat_tests}
use Rattle.std.proofs.lemmas.List.{take_all}
use Rattle.kb_store.specs.Disk.{Files}
use Rattle.kb_batch.specs.Batch.{natural, count_of}
use Rattle.kb_batch.specs.BatchLaws.{batch_small}
use Rattle.kb_log.specs.Log.{fetched as fetched_of, first_base, IsRun}
use Rattle.kb_log.specs.OnShelf.{Log, IsLawfulLog}
use Rattle.kb_api_data.specs.declared.fetch.FetchPartition.{FetchPartition}
use Rattle.kb_api_data.specs.declared.fetch.FetchRequest.{FetchRequest}
use Rattle.kb_api_data.specs.declared.fetch.FetchTopic.{FetchTopic}
use Rattle.kb_api_data.specs.declared.fetch_v5.FetchReplyV5.{FetchReplyV5}
use Rattle.kb_topics.specs.Known.{named}
use Rattle.kb_tenant_state.specs.Logs.{LogState, log_at}
use Rattle.kb_tenant_state.specs.Partitions.{Agree, Entries, log_state, logs_of, partition_at}
use Rattle.kb_tenant_state.specs.declared.fault.PartitionFault.{PartitionFault}
use Rattle.kb_tenant_state.specs.declared.fault.PartitionFault.TheVariants as partition
use Rattle.kb_tenant_state.specs.declared.partition.Partition.{Partition}
use Rattle.kb_tenant_state.proofs.Placed.{placed}
use Rattle.kb_tenant_state.specs.Calls.{fetched_from, GivesAtMost, HasAtMost}
use Rattle.kb_tenant_state.specs.Parts.{entries, world_of, Agrees}
use Rattle.kb_tenant_state.specs.declared.parts.Parts.{Parts}
use Rattle.kb_tenant_state.specs.World.{World, log_in, place_in}
use Rattle.kb_tenant_state.specs.declared.topic_partition.TopicPartition.{TopicPartition}
use Rattle.kb_tenant.specs.Counted.{answered_at, answered_by, answered_topic, begun, fetch_answered, fetched, has_enough, limit_of, Misses}
use Rattle.kb_tenant.specs.Fetch as fetch
use Rattle.kb_tenant.specs.Fetch.{fetch_answer, is_ready, look_written, reply_written}
use Rattle.kb_tenant.specs.Told.{AreFetchesTold, IsFetchReady, IsFetchTold, IsFetchTopicTold}
use Rattle.kb_tenant.specs.Turns.{in_turn, AreServed}
use Rattle.kb_tenant.specs.declared.fetch.given.Given.{Given}
use Rattle.kb_tenant.proofs.Counting.{fetched_same}
use Rattle.kb_tenant.proofs.Ready.{asked_at, ready_is}
use Rattle.kb_tenant.proofs.Spelled.{given_within, IsSized}
use Rattle.kb_tenant.proofs.Waiting.{one_longer}

-- ---- how much is given

run_sized : (at : ℕ) (bs : List (List ℕ)) (end : ℕ) → IsRun at bs end → AllByRecursion IsSized bs
run_sized at [] end run = tt
run_sized at (b ∷ bs) end run = (batch_small b run.0, run_sized (at + count_of b) bs end run.2)

-- the batches of a log that agrees with its files are ones that were accepted
logs_sized : {L : Type 0} (log : L → Log) → ((x : L) → IsLawfulLog (log x)) → (es : Entries L) (files : Files) → Agree log es files
    → (i p : ℕ) (l : LogState) → log_at i p (logs_of log es files) ≡ Some l → AllByRecursion IsSized l.batches
logs_sized {L} log lawful es files agree i p l at = by (partition_at i p es) refl
  where
    state : Partition L → LogState
    state x = log_state (log x.log) files

    by : (o : Option (Partition L)) → partition_at i p es ≡ o → AllByRecursion IsSized l.batches
    by None is = absurd (let bad : Some l ≡ None = sym at ∙ placed log es files i p ∙ ap (option_map state) is in cc)
    by (Some x) is =
        let there : Some l ≡ Some (state x) = sym at ∙ placed log es files i p ∙ ap (option_map state) is in
        let same : l ≡ state x = cc in
        let own = log x.log in
        let run = (lawful x.log).run files (agree.each i p x is) in
        subst (λ (k : LogState). AllByRecursion IsSized k.batches) (sym same)
        (run_sized (first_base own.end (own.batches files)) (own.batches files) own.end run)

-- it is within what there is, and within what is allowed
given_bounded : (offset : ℤ) (limit allowed n : ℕ) (first : Bool) (o : Option LogState)
    → ((l : LogState) → o ≡ Some l → AllByRecursion IsSized l.batches) → limit ≤ allowed → 1048588 ≤ allowed
    → HasAtMost (fetched_from offset limit first o) n → HasAtMost (fetched_from offset limit first o) (min n allowed)
given_bounded offset limit allowed n first None sized low batch most = absurd most
given_bounded offset limit allowed n first (Some l) sized low batch most =
    by (int_lt offset (pos l.start) || int_lt (pos l.end) offset) most
  where
    records : List ℕ
    records = fetched_of (natural offset) limit first l.batches

    by : (out : Bool) → HasAtMost (if out then Err partition.Range else Ok records) n
        → HasAtMost (if out then Err partition.Range else Ok records) (min n allowed)
    by true most = absurd most
    by false most =
        let within = given_within (natural offset) limit first l.batches (sized l refl) in
        omega (arith, within, most, low, batch)

-- ---- one entry

-- what is missing after records
given_misses : (n m : ℕ) (g : Given) (p : ℤ) (bounds : ℤ × ℤ) (r : Result (List ℕ) PartitionFault) → HasAtMost r n → n < m → Misses m g
    → Misses (m - n) (answered_by g p (Some bounds) r).0
given_misses n m g p bounds (Ok records) most lt misses =
    record { some = omega (arith, lt); missing = omega (arith, most, misses.missing); right = misses.right }
given_misses n m g p bounds (Err f) most lt misses = absurd most

log_misses : (n m : ℕ) (g : Given) (e : FetchPartition) (o : Option LogState)
    → HasAtMost (fetched_from e.fetch_offset (limit_of g e) g.first o) n → n < m → Misses m g
    → Misses (m - n) (answered_by g e.partition (option_map (λ (l : LogState). (pos l.start, pos l.end)) o)
    (fetched_from e.fetch_offset (limit_of g e) g.first o)).0
log_misses n m g e None most lt misses = absurd most
log_misses n m g e (Some l) most lt misses =
    given_misses n m g e.partition (pos l.start, pos l.end) (fetched_from e.fetch_offset (limit_of g e) g.first (Some l)) most lt misses

-- a partition that gives at most so many bytes leaves the others missing
pub entry_misses : {L : Type 0} (log : L → Log) → ((x : L) → IsLawfulLog (log x)) → (parts : Parts L) (files : Files)
    → Agrees log parts files → (topic : Option ℕ) (g : Given) (e : FetchPartition) (place : TopicPartition) (n allowed most m : ℕ)
    → Some place ≡ place_in topic e.partition → GivesAtMost (world_of log parts files) place e.fetch_offset n
    → natural e.partition_max_bytes < 2 ^ 64 → natural e.partition_max_bytes ≤ allowed → 1048588 ≤ allowed → most ≡ min n allowed
    → most < m → Misses m g
    → Misses (m - most) (fetch_answered (world_of log parts files) topic g e).0
entry_misses log lawful parts files agree topic g e place n allowed most m there gives small low batch is lt misses =
    let w = world_of log parts files in
    let es = entries parts in
    let kept = log_in w place in
    let sized = λ (l : LogState) (at : kept ≡ Some l). logs_sized log lawful es files agree.logs place.instance place.number l at in
    let limit : ℕ = limit_of g e in
    let within : limit ≤ allowed = omega (arith, low) in
    let bounded = given_bounded e.fetch_offset limit allowed n g.first kept sized within batch (gives limit g.first (omega (arith, small))) in
    let fewer : min n allowed < m = subst (λ k. k < m) is lt in
    subst (λ k. Misses (m - k) (fetch_answered w topic g e).0) (sym is)
    (subst (λ o. Misses (m - min n allowed) (answered_at w g e o).0) there (log_misses (min n allowed) m g e kept bounded fewer misses))

-- ---- one entry after another

-- the last state, with one entry more
turn_more : {S E A : Type 0} (f : S → E → S × A) (s : S) (es : List E) (e : E) → (in_turn f s (es ++ e ∷ [])).0 ≡ (f (in_turn f s es).0 e).0
turn_more f s [] e = refl
turn_more f s (x ∷ es) e = turn_more f (f s x).0 es e

pub misses_more : {E A : Type 0} (f : Given → E → Given × A) (g : Given) (es : List E) (i : ℕ) (e : E) (n : ℕ) → i < length es
    → e ≡ get_or es i e → Misses n (f (in_turn f g (take i es)).0 e).0 → Misses n (in_turn f g (take (i + 1) es)).0
misses_more f g es i e n lt is misses =
    subst (λ xs. Misses n (in_turn f g xs).0) (sym (one_longer es i e lt is)) (subst (Misses n) (sym (turn_more f g (take i es) e)) misses)

-- ---- whether something is asked

entry_asked : (w : World) (topic : Option ℕ) (g : Given) (e : FetchPartition) → (fetch_answered w topic g e).0.is_asked ≡ true
entry_asked w topic g e = asked_at w g e (place_in topic e.partition)

turns_asked : {E A : Type 0} (f : Given → E → Given × A) → ((g : Given) (e : E) → (f g e).0.is_asked ≡ true) → (g : Given) (es : List E)
    → g.is_asked ≡ true → (in_turn f g es).0.is_asked ≡ true
turns_asked f each g [] asked = asked
turns_asked f each g (e ∷ es) asked = turns_asked f each (f g e).0 es (each g e)

some_asked : {E A : Type 0} (f : Given → E → Given × A) → ((g : Given) (e : E) → (f g e).0.is_asked ≡ true) → (g : Given) (es : List E)
    → 0 < length es → (in_turn f g es).0.is_asked ≡ true
some_asked f each g [] lt = absurd (omega (arith, lt))
some_asked f each g (e ∷ es) lt = turns_asked f each (f g e).0 es (each g e)

-- behind one more topic
topic_asked : (w : World) (g : Given) (t : FetchTopic) (asked some : Bool) → (asked ≡ true → g.is_asked ≡ true)
    → (some ≡ true → 0 < length t.partitions) → (asked || some) ≡ true → (answered_topic w g t).0.is_asked ≡ true
topic_asked w g t true some before here is =
    let topic = named t.topic w.known.topics in
    turns_asked (fetch_answered w topic) (entry_asked w topic) g t.partitions (before refl)
topic_asked w g t false true before here is =
    let topic = named t.topic w.known.topics in
    some_asked (fetch_answered w topic) (entry_asked w topic) g t.partitions (here refl)
topic_asked w g t false false before here is = absurd cc

some_there : (n : ℕ) (empty : Bool) → empty ≡ (n == 0) → not empty ≡ true → 0 < n
some_there n true none full = absurd cc
some_there n false none full = grind (arith, nat_tests, none)

asked_more : {E A : Type 0} (f : Given → E → Given × A) (g : Given) (es : List E) (i : ℕ) (e : E) → i < length es → e ≡ get_or es i e
    → (f (in_turn f g (take i es)).0 e).0.is_asked ≡ true → (in_turn f g (take (i + 1) es)).0.is_asked ≡ true
asked_more f g es i e lt is asked =
    subst (λ xs. (in_turn f g xs).0.is_asked ≡ true) (sym (one_longer es i e lt is))
    (ap (λ h. h.is_asked) (turn_more f g (take i es) e) ∙ asked)

-- ---- one topic after another

-- What is known of a fetch behind some topics, of which so many bytes are missing.
abbrev pub Behind : World → FetchRequest → List FetchTopic → ℕ → Bool → Type 0
Behind w r ts n asked =
    let given = (in_turn (answered_topic w) (begun r) ts).0 in
    record { misses : Misses n given; asked : asked ≡ true → given.is_asked ≡ true }

pub topic_more : (w : World) (r : FetchRequest) (ts : List FetchTopic) (i : ℕ) (t : FetchTopic) (name : List ℕ) (topic : Option ℕ)
    (entries : List FetchPartition) (m n : ℕ) (asked empty : Bool) → ts ≡ r.topics → i < length ts → t ≡ get_or ts i t → name ≡ t.topic
    → topic ≡ named name w.known.topics → entries ≡ t.partitions → empty ≡ (length entries == 0)
    → ((g : Given) → Misses m g → Misses n (in_turn (fetch_answered w topic) g entries).0)
    → Behind w r (take i r.topics) m asked → Behind w r (take (i + 1) r.topics) n (asked || not empty)
topic_more w r ts i t name topic entries m n asked empty list lt is same at all none more before =
    let f = answered_topic w in
    let given : Given = (in_turn f (begun r) (take i r.topics)).0 in
    let instance = named t.topic w.known.topics in
    let there : i < length r.topics = subst (λ l. i < length l) list lt in
    let item : t ≡ get_or r.topics i t = subst (λ l. t ≡ get_or l i t) list is in
    let here : Misses n (f given t).0 =
    subst (λ es. Misses n (in_turn (fetch_answered w instance) given es).0) all
    (subst (λ o. Misses n (in_turn (fetch_answered w o) given entries).0) (at ∙ ap (λ x. named x w.known.topics) same)
    (more given before.misses)) in
    let some : not empty ≡ true → 0 < length t.partitions =
    λ full. some_there (length t.partitions) empty (none ∙ ap (λ es. length es == 0) all) full in
    record {
      misses = misses_more f (begun r) r.topics i t n there item here;
      asked = λ one. asked_more f (begun r) r.topics i t there item (topic_asked w given t asked (not empty) before.asked some one);
    }

pub topics_over : (w : World) (r : FetchRequest) (ts : List FetchTopic) (i n : ℕ) (asked : Bool) → ts ≡ r.topics → length ts ≤ i
    → Behind w r (take i r.topics) n asked → Behind w r r.topics n asked
topics_over w r ts i n asked list le before =
    subst (λ xs. Behind w r xs n asked) (take_all i r.topics (subst (λ l. length l ≤ i) list le)) before

-- ---- the whole

not_enough : (n clock deadline : ℕ) (g : Given) → Misses n g → g.is_asked ≡ true → clock < deadline → has_enough g clock deadline ≡ false
not_enough n clock deadline g misses asked early =
    let some : 0 < g.missing = omega (arith, misses.some, misses.missing) in
    let wanting : (g.missing == 0) ≡ false = grind (arith, nat_tests, some) in
    let before : nat_le deadline clock ≡ false = grind (arith, nat_tests, early) in
    ap (λ b. not b || g.is_wrong || (g.missing == 0) || nat_le deadline clock) asked
    ∙ ap (λ b. b || (g.missing == 0) || nat_le deadline clock) misses.right
    ∙ ap (λ b. b || nat_le deadline clock) wanting ∙ before

none_if : (b : Bool) (reply : FetchReplyV5) → b ≡ false → (if b then Some reply else None) ≡ None
none_if true reply is = absurd cc
none_if false reply is = refl

-- it has no answer
unanswered : (w : World) (clock : ℕ) (r : FetchRequest) (deadline n : ℕ) → Behind w r r.topics n true → clock < deadline
    → fetch_answer w clock r deadline ≡ None
unanswered w clock r deadline n behind early =
    let reply : FetchReplyV5 = (fetched w r).1 in
    ap (λ x. if is_ready clock r x deadline then Some x else None) (ap (λ x. x.1) (fetched_same w r))
    ∙ none_if (is_ready clock r reply deadline) reply
    (sym (ready_is w clock r deadline) ∙ not_enough n clock deadline (fetched w r).0 behind.misses (behind.asked refl) early)

pub unanswered_if : (w : World) (clock : ℕ) (r : FetchRequest) (deadline n : ℕ) (asked : Bool) → asked ≡ true
    → clock < deadline → Behind w r r.topics n asked → fetch_answer w clock r deadline ≡ None
unanswered_if w clock r deadline n asked is early behind = unanswered w clock r deadline n (subst (Behind w r r.topics n) is behind) early

-- ---- what is told of it

defined_served : {S E A : Type 0} (R : S → E → S → A → Type 0) (f : S → E → S × A) → ((s : S) (e : E) → R s e (f s e).0 (f s e).1)
    → (s : S) (es : List E) → AreServed R s es (in_turn f s es).0 (in_turn f s es).1
defined_served R f each s [] = refl
defined_served R f each s (e ∷ es) = ((f s e).0, (each s e, defined_served R f each (f s e).0 es))

defined_topic : (failed : Type 0) (w : World) (l : fetch.Limits) (t : FetchTopic)
    → IsFetchTopicTold failed w l t (fetch.answered_topic w l t).0 (fetch.answered_topic w l t).1
defined_topic failed w l t =
    let topic = named t.topic w.known.topics in
    (refl, defined_served (IsFetchTold failed w topic) (fetch.fetch_answered w topic) (λ m e. inl refl) l t.partitions)

defined_told : (failed : Type 0) (w : World) (r : FetchRequest) → AreFetchesTold failed w r (fetch.fetched w r).0 (fetch.fetched w r).1
defined_told failed w r =
    (refl, defined_served (IsFetchTopicTold failed w) (fetch.answered_topic w) (defined_topic failed w) (fetch.begun r) r.topics)

unready : (b : Bool) (reply : FetchReplyV5) → (if b then Some reply else None) ≡ None → b ≡ false
unready true reply is = absurd cc
unready false reply is = refl

-- A look at one that has no answer writes nothing.
pub unanswered_looked : (starts : Bool) (w : World) (clock : ℕ) (r : FetchRequest) (deadline : ℕ) (old : List ℕ) → fetch_answer w clock r deadline ≡ None
    → (false, old) ≡ look_written starts old (fetch_answer w clock r deadline)
unanswered_looked starts w clock r deadline old none = ap (look_written starts old) (sym none)

pub unanswered_told : (failed : Type 0) (starts : Bool) (w : World) (clock : ℕ) (r : FetchRequest) (deadline : ℕ) (old : List ℕ)
    → fetch_answer w clock r deadline ≡ None
    → (reply : FetchReplyV5) × (IsFetchReady failed w clock deadline r false reply × (false ≡ true → old ≡ old ++ reply_written starts reply))
unanswered_told failed starts w clock r deadline old none =
    let reply : FetchReplyV5 = (fetch.fetched w r).1 in (
      reply,
      (
        ((fetch.fetched w r).0, (defined_told failed w r, unready (is_ready clock r reply deadline) reply none)),
        λ over. absurd cc,
      ),
    )
