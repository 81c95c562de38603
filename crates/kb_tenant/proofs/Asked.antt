-- A fetch that waits finds each partition that it asks for, and its reply depends on nothing else but the clock.
use Rattle.std.proofs.Common.{◌≡◌, ◌∙◌, ◌<◌, ℕ, suc, Bool, true, false, List, [], ◌∷◌, ◌++◌, Option, Some, None, refl, sym, subst, ap, arith}
use Rattle.std.specs.Prelude.{ℤ, pos, negsuc, nat_le, not, option_map, ◌||◌, if◌then◌else◌}
use Rattle.std.specs.List.{AllByRecursion, Contains, cons_option, flat_map, list_any}
use Rattle.std.proofs.lemmas.List.Elements.{Contains-append_left, Contains-append_right}
use Rattle.std.proofs.lemmas.Bool.Decides.{nat_tests}
use Rattle.kb_batch.specs.Batch.{natural}
use Rattle.kb_api_data.specs.declared.fetch.FetchPartition.{FetchPartition}
use Rattle.kb_api_data.specs.declared.fetch.FetchTopic.{FetchTopic}
use Rattle.kb_api_data.specs.declared.fetch.FetchRequest.{FetchRequest}
use Rattle.kb_api_data.specs.declared.fetch_v5.FetchPartitionReplyV5.{FetchPartitionReplyV5}
use Rattle.kb_api_data.specs.declared.fetch_v5.FetchTopicReplyV5.{FetchTopicReplyV5}
use Rattle.kb_api_data.specs.declared.fetch_v5.FetchReplyV5.{FetchReplyV5}
use Rattle.kb_topics.specs.Known.{named}
use Rattle.kb_tenant_state.specs.Logs.{LogState}
use Rattle.kb_tenant_state.specs.Calls.{fetched_from}
use Rattle.kb_tenant_state.specs.World.{World, log_in, place_in}
use Rattle.kb_tenant_state.specs.declared.topic_partition.TopicPartition.{TopicPartition}
use Rattle.kb_tenant.specs.Fetch.{Limits, fetch_answered, answered_at, answered_by, answered_topic, begun, bytes_of, fetch_answer, fetched, is_error, is_ready, limit_of, places_in, places_of, some_partition}
use Rattle.kb_tenant.specs.Turns.{in_turn}
use Rattle.kb_tenant.specs.Waiting.{StillWaits}

-- ---- lists

each_then : {A : Type 0} (P Q : A → Type 0) (xs : List A) → ((x : A) → P x → Q x) → AllByRecursion P xs → AllByRecursion Q xs
each_then P Q [] f all = tt
each_then P Q (x ∷ xs) f all = (f x all.0, each_then P Q xs f all.1)

pub here_first : {A : Type 0} (x : A) (xs : List A) → Contains (x ∷ xs) x
here_first x xs = (0, omega arith, refl)

then_later : {A : Type 0} (x y : A) (xs : List A) → Contains xs y → Contains (x ∷ xs) y
then_later x y xs c = (suc c.0, omega (arith, c.1), c.2)

-- ---- entries in turn

neither : (a b : Bool) → (a || b) ≡ false → (a ≡ false) × (b ≡ false)
neither true b e = absurd cc
neither false b e = (refl, e)

-- where no answer passes a test, that to each entry does not, whatever was given before
none_passes : {S E A : Type 0} (f : S → E → S × A) (test : A → Bool) (es : List E) (s : S) → list_any test (in_turn f s es).1 ≡ false → AllByRecursion (λ e. (t : S) × (test (f t e).1 ≡ false)) es
none_passes f test [] s none = tt
none_passes f test (e ∷ es) s none =
    let both = neither (test (f s e).1) (list_any test (in_turn f (f s e).0 es).1) none in
    ((s, both.0), none_passes f test es (f s e).0 both.1)

-- two ways to serve that agree on each entry
turn_same : {S E A : Type 0} (f g : S → E → S × A) (es : List E) → AllByRecursion (λ e. (s : S) → f s e ≡ g s e) es → (s : S) → in_turn f s es ≡ in_turn g s es
turn_same f g [] all s = refl
turn_same {S} {E} {A} f g (e ∷ es) all s =
    ap (λ (x : S × A). (let rest = in_turn f x.0 es in let both : S × List A = (rest.0, x.1 ∷ rest.1) in both)) (all.0 s)
    ∙ ap (λ (r : S × List A). (let both : S × List A = (r.0, (g s e).1 ∷ r.1) in both)) (turn_same f g es all.1 (g s e).0)

-- ---- one partition

-- a log that stands at a place under a topic's name
pub record IsHeld (w : World) (name : List ℕ) (place : TopicPartition) (log : LogState) : Type 0 where
  pub topic : named name w.known.topics ≡ Some place.instance
  pub there : log_in w place ≡ Some log

-- an entry of a fetch, and the log that it asks for
pub record Finds (w : World) (name : List ℕ) (e : FetchPartition) : Type 0 where
  pub place : TopicPartition
  pub log : LogState
  pub number : e.partition ≡ pos place.number
  pub held : IsHeld w name place log

is_place : (o : Option ℕ) (p : ℤ) (place : TopicPartition) → place_in o p ≡ Some place → (o ≡ Some place.instance) × (p ≡ pos place.number)
is_place None p place e = absurd cc
is_place (Some i) (negsuc p) place e = absurd cc
is_place (Some i) (pos p) place e =
    let same : (let made : TopicPartition = record { instance = i; number = p } in made) ≡ place = cc in
    (ap (λ (x : TopicPartition). Some x.instance) same, ap (λ (x : TopicPartition). pos x.number) same)

place_is : (w : World) (name : List ℕ) (e : FetchPartition) (place : TopicPartition) → named name w.known.topics ≡ Some place.instance → e.partition ≡ pos place.number → place_in (named name w.known.topics) e.partition ≡ Some place
place_is w name e place topic number = ap (λ o. place_in o e.partition) topic ∙ ap (place_in (Some place.instance)) number

-- what is answered of a log, if there is one
abbrev answered_of : Limits → FetchPartition → Option LogState → Limits × FetchPartitionReplyV5
answered_of g e o = answered_by g e.partition (option_map (λ (l : LogState). (pos l.start, pos l.end)) o) (fetched_from e.fetch_offset (limit_of g e) g.first o)

-- an entry whose answer is no error
log_found : (w : World) (name : List ℕ) (g : Limits) (e : FetchPartition) (place : TopicPartition) → place_in (named name w.known.topics) e.partition ≡ Some place
    → (o : Option LogState) → log_in w place ≡ o → is_error (answered_of g e o).1.error_code ≡ false → Finds w name e
log_found w name g e place at None there good = absurd cc
log_found w name g e place at (Some l) there good =
    let is = is_place (named name w.known.topics) e.partition place at in
    record { place = place; log = l; number = is.1; held = record { topic = is.0; there = there } }

place_found : (w : World) (name : List ℕ) (g : Limits) (e : FetchPartition) (o : Option TopicPartition) → place_in (named name w.known.topics) e.partition ≡ o → is_error (answered_at w g e o).1.error_code ≡ false → Finds w name e
place_found w name g e None at good = absurd cc
place_found w name g e (Some place) at good = log_found w name g e place at (log_in w place) refl good

-- ---- two worlds that hold the same where a fetch asks

module _ (w v : World) (asked : TopicPartition → Type 0) (keeps : (name : List ℕ) (place : TopicPartition) (log : LogState) → asked place → IsHeld w name place log → IsHeld v name place log) where
  -- an entry that is answered alike, and asks for the same place
  record IsAlike (name : List ℕ) (e : FetchPartition) : Type 0 where
    pub answer : (g : Limits) → fetch_answered v (named name v.known.topics) g e ≡ fetch_answered w (named name w.known.topics) g e
    pub place : place_in (named name v.known.topics) e.partition ≡ place_in (named name w.known.topics) e.partition

  alike : (name : List ℕ) (e : FetchPartition) (f : Finds w name e) → asked f.place → IsAlike name e
  alike name e f asks =
      let later = keeps name f.place f.log asks f.held in
      let before = place_is w name e f.place f.held.topic f.number in
      let after = place_is v name e f.place later.topic f.number in
      record {
        answer = λ g. ap (answered_at v g e) after ∙ ap (answered_of g e) (later.there ∙ sym f.held.there) ∙ sym (ap (answered_at w g e) before);
        place = after ∙ sym before;
      }

  -- the entries of a topic
  entries_alike : (name : List ℕ) (es : List FetchPartition) → AllByRecursion (λ e. Finds w name e) es → ((place : TopicPartition) → Contains (places_in (named name w.known.topics) es) place → asked place) → AllByRecursion (IsAlike name) es
  entries_alike name [] all asks = tt
  entries_alike name (e ∷ es) all asks =
      let rest : List TopicPartition = places_in (named name w.known.topics) es in
      let first = place_is w name e all.0.place all.0.held.topic all.0.number in (
        alike name e all.0 (asks all.0.place (subst (λ (o : Option TopicPartition). Contains (cons_option o rest) all.0.place) (sym first) (here_first all.0.place rest))),
        entries_alike name es all.1 (λ place c. asks place (subst (λ (o : Option TopicPartition). Contains (cons_option o rest) place) (sym first) (then_later all.0.place place rest c))),
      )

  -- the topics of a request
  abbrev places_for : FetchTopic → List TopicPartition
  places_for t = places_in (named t.topic w.known.topics) t.partitions

  topics_alike : (ts : List FetchTopic) → AllByRecursion (λ t. AllByRecursion (λ e. Finds w t.topic e) t.partitions) ts → ((place : TopicPartition) → Contains (flat_map places_for ts) place → asked place)
      → AllByRecursion (λ t. AllByRecursion (IsAlike t.topic) t.partitions) ts
  topics_alike [] all asks = tt
  topics_alike (t ∷ ts) all asks = (
    entries_alike t.topic t.partitions all.0 (λ place c. asks place (Contains-append_left (places_for t) (flat_map places_for ts) place c)),
    topics_alike ts all.1 (λ place c. asks place (Contains-append_right (places_for t) (flat_map places_for ts) place c)),
  )

  topic_answer : (t : FetchTopic) → AllByRecursion (IsAlike t.topic) t.partitions → (g : Limits) → answered_topic v g t ≡ answered_topic w g t
  topic_answer t all g =
      let turns = turn_same (fetch_answered v (named t.topic v.known.topics)) (fetch_answered w (named t.topic w.known.topics)) t.partitions
      (each_then (IsAlike t.topic) (λ e. (s : Limits) → fetch_answered v (named t.topic v.known.topics) s e ≡ fetch_answered w (named t.topic w.known.topics) s e) t.partitions (λ e a. a.answer) all) g in
      ap (λ (r : Limits × List FetchPartitionReplyV5). (let both : Limits × FetchTopicReplyV5 = (r.0, record { topic = t.topic; partitions = r.1 }) in both)) turns

  fetched_alike : (r : FetchRequest) → AllByRecursion (λ t. AllByRecursion (IsAlike t.topic) t.partitions) r.topics → fetched v r ≡ fetched w r
  fetched_alike r all =
      let turns = turn_same (answered_topic v) (answered_topic w) r.topics
      (each_then (λ t. AllByRecursion (IsAlike t.topic) t.partitions) (λ t. (g : Limits) → answered_topic v g t ≡ answered_topic w g t) r.topics topic_answer all) (begun r) in
      ap (λ (f : Limits × List FetchTopicReplyV5). (let both : Limits × FetchReplyV5 = (f.0, record { throttle_time_ms = pos 0; topics = f.1 }) in both)) turns

  topic_places : (name : List ℕ) (es : List FetchPartition) → AllByRecursion (IsAlike name) es → places_in (named name v.known.topics) es ≡ places_in (named name w.known.topics) es
  topic_places name [] all = refl
  topic_places name (e ∷ es) all =
      ap (λ o. cons_option o (places_in (named name v.known.topics) es)) all.0.place
      ∙ ap (cons_option (place_in (named name w.known.topics) e.partition)) (topic_places name es all.1)

  places_alike : (ts : List FetchTopic) → AllByRecursion (λ t. AllByRecursion (IsAlike t.topic) t.partitions) ts
      → flat_map (λ t. places_in (named t.topic v.known.topics) t.partitions) ts ≡ flat_map places_for ts
  places_alike [] all = refl
  places_alike (t ∷ ts) all =
      ap (λ ps. ps ++ flat_map (λ t. places_in (named t.topic v.known.topics) t.partitions) ts) (topic_places t.topic t.partitions all.0)
      ∙ ap (λ ps. places_for t ++ ps) (places_alike ts all.1)

-- ---- a fetch that waits

no_answer : (b : Bool) (reply : FetchReplyV5) → (if b then Some reply else None) ≡ None → b ≡ false
no_answer true reply e = absurd cc
no_answer false reply e = refl

-- no partition is refused
second_false : (a b c d : Bool) → (a || b || c || d) ≡ false → b ≡ false
second_false true b c d e = absurd cc
second_false false true c d e = absurd cc
second_false false false c d e = refl

last_false : (a b c d : Bool) → (a || b || c || d) ≡ false → d ≡ false
last_false true b c d e = absurd cc
last_false false true c d e = absurd cc
last_false false false true d e = absurd cc
last_false false false false d e = e

last_changed : (a b c d x : Bool) → (a || b || c || d) ≡ false → x ≡ false → (a || b || c || x) ≡ false
last_changed true b c d x e f = absurd cc
last_changed false true c d x e f = absurd cc
last_changed false false true d x e f = absurd cc
last_changed false false false d x e f = f

module _ (w : World) (clock : ℕ) (r : FetchRequest) (deadline : ℕ) (waits : fetch_answer w clock r deadline ≡ None) where
  abbrev reply : FetchReplyV5
  reply = (fetched w r).1

  -- the tests that are made of its reply
  abbrev nothing_asked : Bool
  nothing_asked = not (some_partition (λ p. true) reply)

  abbrev some_error : Bool
  some_error = some_partition (λ p. is_error p.error_code) reply

  abbrev has_bytes : Bool
  has_bytes = nat_le (natural r.min_bytes) (bytes_of reply)

  unready : is_ready clock r reply deadline ≡ false
  unready = no_answer (is_ready clock r reply deadline) reply waits

  pub all_found : AllByRecursion (λ t. AllByRecursion (λ e. Finds w t.topic e) t.partitions) r.topics
  all_found =
      let is_bad = λ (p : FetchPartitionReplyV5). is_error p.error_code in
      let good : list_any (λ (t : FetchTopicReplyV5). list_any is_bad t.partitions) reply.topics ≡ false = second_false nothing_asked some_error has_bytes (nat_le deadline clock) unready in
      each_then (λ t. (g : Limits) × (list_any is_bad (answered_topic w g t).1.partitions ≡ false)) (λ t. AllByRecursion (λ e. Finds w t.topic e) t.partitions) r.topics
      (λ t one. each_then (λ e. (g : Limits) × (is_error (fetch_answered w (named t.topic w.known.topics) g e).1.error_code ≡ false)) (λ e. Finds w t.topic e) t.partitions
      (λ e it. place_found w t.topic it.0 e (place_in (named t.topic w.known.topics) e.partition) refl it.1)
      (none_passes (fetch_answered w (named t.topic w.known.topics)) is_bad t.partitions one.0 one.1))
      (none_passes (answered_topic w) (λ (t : FetchTopicReplyV5). list_any is_bad t.partitions) r.topics (begun r) good)

  in_time : nat_le deadline clock ≡ false
  in_time = last_false nothing_asked some_error has_bytes (nat_le deadline clock) unready

  -- its deadline is still to come
  pub before_end : clock < deadline
  before_end = let early = in_time in grind (arith, nat_tests)

  -- the same reply at a time before a deadline
  still_unready : (v : World) (now later : ℕ) → fetched v r ≡ fetched w r → nat_le later now ≡ false → fetch_answer v now r later ≡ None
  still_unready v now later same early =
      ap (λ (f : Limits × FetchReplyV5). (if is_ready now r f.1 later then Some f.1 else None)) same
      ∙ ap (λ b. (if b then Some reply else None)) (last_changed nothing_asked some_error has_bytes (nat_le deadline clock) (nat_le later now) unready early)

  -- It waits on in each world that holds what it asks for.
  pub waits_on : (v : World) (asked : TopicPartition → Type 0) → ((name : List ℕ) (place : TopicPartition) (log : LogState) → asked place → IsHeld w name place log → IsHeld v name place log)
      → ((place : TopicPartition) → Contains (places_of w r) place → asked place) → StillWaits w v clock r deadline
  waits_on v asked keeps asks =
      let all = topics_alike w v asked keeps r.topics all_found asks in (
        still_unready v clock deadline (fetched_alike w v asked keeps r all) in_time,
        places_alike w v asked keeps r.topics all,
      )

  -- and at each other time before whatever deadline it then has
  pub waits_until : (now later : ℕ) → now < later → fetch_answer w now r later ≡ None
  waits_until now later early = still_unready w now later refl (grind (arith, nat_tests))
