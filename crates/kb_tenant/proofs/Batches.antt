-- What a fetch gives is whole batches of the partition's list, from the one that holds the asked offset.
use Rattle.std.proofs.Common.{◌≡◌, ◌∙◌, ◌≤ℤ◌, ◌<ℤ◌, ◌<◌, ◌-◌, ◌++◌, ◌||◌, ℕ, ℤ, pos, negsuc, Bool, true, false, List, [], ◌∷◌, Option, Some, None, Ok, Err, length, refl, sym, subst, ap, arith, append-nil}
use Rattle.std.specs.Prelude.{nat_le, int_lt, option_map, if◌then◌else◌}
use Rattle.std.specs.List.{concat}
use Rattle.std.proofs.lemmas.Bool.Decides.{nat_tests}
use Rattle.kb_wire.specs.declared.api_key.TheConstants.{FETCH}
use Rattle.kb_wire.specs.declared.fault.WireFault.TheVariants as faults
use Rattle.kb_batch.specs.Batch.{natural}
use Rattle.kb_log.specs.Log.{base_of, next_of, holds, from_holding, fitting, fetched as fetched_of}
use Rattle.kb_api_data.specs.declared.fetch.FetchPartition.{FetchPartition}
use Rattle.kb_api_data.specs.declared.fetch.FetchTopic.{FetchTopic}
use Rattle.kb_api_data.specs.declared.fetch.FetchRequest.{FetchRequest}
use Rattle.kb_api_data.specs.declared.fetch_v5.FetchReplyV5.{FetchReplyV5}
use Rattle.kb_topics.specs.Known.{named}
use Rattle.kb_tenant_state.specs.Logs.{LogState}
use Rattle.kb_tenant_state.specs.declared.fault.PartitionFault.TheVariants as ranges
use Rattle.kb_tenant_state.specs.Calls.{fetched_from}
use Rattle.kb_tenant_state.specs.World.{World, log_in, place_in}
use Rattle.kb_tenant_state.specs.declared.topic_partition.TopicPartition.{TopicPartition}
use Rattle.kb_tenant.specs.Batches.{BeginAt, GivesBatches, EachAnswered, IsPartitionAnswered, IsTopicAnswered, HasSmallLogs, HoldsBatches, SpellsBehind}
use Rattle.kb_tenant.specs.Entries.{fetch_entries, within as within_limit}
use Rattle.kb_tenant.specs.Fetch.{Limits, fetch_answered, answered_at, answered_by, answered_topic, asked_code, asked_fetch, begun, bounded, fetch_answer, fetched, fetched_as, has_session, has_starts, is_ready, limit_of, deadline_of, fetched_in}
use Rattle.kb_tenant.specs.Limits.{is_past}
use Rattle.kb_tenant.specs.Replies.{Replies, Silent}
use Rattle.kb_tenant.specs.Serve.{plainly_served, looked, looked_at, of_fetch, if_read, fetch_reaction}
use Rattle.kb_tenant.specs.Turns.{in_turn}
use Rattle.kb_tenant.specs.declared.node.Node.{Node}
use Rattle.kb_tenant.proofs.Spelled.{reply_spelled}

-- ---- one list

-- what fits is whole batches in front
record Fits (limit : ℕ) (first : Bool) (bs : List (List ℕ)) : Type 0 where
  these : List (List ℕ)
  rest : List (List ℕ)
  split : bs ≡ these ++ rest
  joined : fitting limit first bs ≡ concat these

fits : (limit : ℕ) (first : Bool) (bs : List (List ℕ)) → Fits limit first bs
fits limit first [] = record { these = []; rest = []; split = refl; joined = refl }
fits limit first (b ∷ bs) = by (nat_le (length b) limit) refl first (fits (limit - length b) false bs)
  where
    by : (t : Bool) → nat_le (length b) limit ≡ t → (f : Bool) → Fits (limit - length b) false bs → Fits limit f (b ∷ bs)
    by true e f more = record { these = b ∷ more.these; rest = more.rest; split = ap (λ xs. b ∷ xs) more.split; joined = ap (λ t. if t then b ++ fitting (limit - length b) false bs else (if f then b else [])) e ∙ ap (λ xs. b ++ xs) more.joined }
    by false e true more = record { these = b ∷ []; rest = bs; split = refl; joined = ap (λ t. if t then b ++ fitting (limit - length b) false bs else b) e ∙ sym (append-nil b) }
    by false e false more = record { these = []; rest = b ∷ bs; split = refl; joined = ap (λ t. if t then b ++ fitting (limit - length b) false bs else []) e }

-- the batches from the one that holds an offset on are the last ones of the list
record Holding (offset : ℕ) (bs : List (List ℕ)) : Type 0 where
  skipped : List (List ℕ)
  split : bs ≡ skipped ++ from_holding offset bs
  begins : BeginAt (pos offset) (from_holding offset bs)

within : (offset : ℕ) (b : List ℕ) → holds offset b ≡ true → (pos (base_of b) ≤ℤ pos offset) × (pos offset <ℤ pos (next_of b))
within offset b e = (grind (arith, nat_tests, e), grind (arith, nat_tests, e))

holding : (offset : ℕ) (bs : List (List ℕ)) → Holding offset bs
holding offset [] = record { skipped = []; split = refl; begins = tt }
holding offset (b ∷ bs) = by (holds offset b) refl (holding offset bs)
  where
    by : (t : Bool) → holds offset b ≡ t → Holding offset bs → Holding offset (b ∷ bs)
    by true e more =
        let is : from_holding offset (b ∷ bs) ≡ b ∷ bs = ap (λ t. if t then b ∷ bs else from_holding offset bs) e in
        record { skipped = []; split = sym is; begins = subst (BeginAt (pos offset)) (sym is) (within offset b e) }
    by false e more =
        let is : from_holding offset (b ∷ bs) ≡ from_holding offset bs = ap (λ t. if t then b ∷ bs else from_holding offset bs) e in
        record { skipped = b ∷ more.skipped; split = ap (λ xs. b ∷ xs) more.split ∙ ap (λ xs. b ∷ more.skipped ++ xs) (sym is); begins = subst (BeginAt (pos offset)) (sym is) more.begins }

-- what begins with a batch of the offset still does where only some in front are taken
begins-front : (offset : ℤ) (xs ys : List (List ℕ)) → BeginAt offset (xs ++ ys) → BeginAt offset xs
begins-front offset [] ys h = tt
begins-front offset (x ∷ xs) ys h = h

-- ---- one partition

gives : (w : World) (topic : Option ℕ) (asked : FetchPartition) (place : TopicPartition) (l : LogState) (n limit : ℕ) (first : Bool) → place_in topic asked.partition ≡ Some place → log_in w place ≡ Some l → asked.fetch_offset ≡ pos n
    → GivesBatches w topic asked (pos l.start) (Some (fetched_of n limit first l.batches))
gives w topic asked place l n limit first there kept natural-offset =
    let from = holding n l.batches in
    let taken = fits limit first (from_holding n l.batches) in
    record {
      place = place;
      log = l;
      batches = taken.these;
      there = there;
      kept = kept;
      starts = refl;
      consecutive = record { before = from.skipped; after = taken.rest; split = from.split ∙ ap (λ xs. from.skipped ++ xs) taken.split };
      begins = begins-front asked.fetch_offset taken.these taken.rest (subst (λ xs. BeginAt asked.fetch_offset xs) taken.split (subst (λ z. BeginAt z (from_holding n l.batches)) (sym natural-offset) from.begins));
      whole = ap Some taken.joined;
    }

no-error : (w : World) (topic : Option ℕ) (asked : FetchPartition) (start : ℤ) (records : Option (List ℕ)) (n : ℕ) → 0 < n → pos n ≡ pos 0 → GivesBatches w topic asked start records
no-error w topic asked start records n up e = absurd (grind (arith, up, e))

module _ (w : World) (topic : Option ℕ) (g : Limits) (asked : FetchPartition) where
  by-offset : (place : TopicPartition) (l : LogState) → place_in topic asked.partition ≡ Some place → log_in w place ≡ Some l → (o : ℤ) → asked.fetch_offset ≡ o → (out : Bool) → (int_lt o (pos l.start) || int_lt (pos l.end) o) ≡ out
      → IsPartitionAnswered w topic asked (answered_by g asked.partition (Some (pos l.start, pos l.end)) (if out then Err ranges.Range else Ok (fetched_of (natural o) (limit_of g asked) g.first l.batches))).1
  by-offset place l there kept o is true e = (refl, λ h. no-error w topic asked _ _ 1 (omega arith) h)
  by-offset place l there kept (pos n) is false e = (refl, λ h. gives w topic asked place l n (limit_of g asked) g.first there kept is)
  by-offset place l there kept (negsuc n) is false e = absurd (cc)

  by-log : (place : TopicPartition) → place_in topic asked.partition ≡ Some place → (o : Option LogState) → log_in w place ≡ o
      → IsPartitionAnswered w topic asked (answered_by g asked.partition (option_map (λ (l : LogState). (pos l.start, pos l.end)) o) (fetched_from asked.fetch_offset (limit_of g asked) g.first o)).1
  by-log place there None kept = (refl, λ h. no-error w topic asked _ _ 3 (omega arith) h)
  by-log place there (Some l) kept = by-offset place l there kept asked.fetch_offset refl (int_lt asked.fetch_offset (pos l.start) || int_lt (pos l.end) asked.fetch_offset) refl

  by-place : (o : Option TopicPartition) → place_in topic asked.partition ≡ o → IsPartitionAnswered w topic asked (answered_at w g asked o).1
  by-place None there = (refl, λ h. no-error w topic asked _ _ 3 (omega arith) h)
  by-place (Some place) there = by-log place there (log_in w place) refl

  partition-answered : IsPartitionAnswered w topic asked (fetch_answered w topic g asked).1
  partition-answered = by-place (place_in topic asked.partition) refl

-- ---- all of them

each : {S E A : Type 0} (f : S → E → S × A) (P : E → A → Type 0) → ((s : S) (e : E) → P e (f s e).1) → (s : S) (es : List E) → EachAnswered P es (in_turn f s es).1
each f P one s [] = tt
each f P one s (e ∷ es) = (one s e, each f P one (f s e).0 es)

topic-answered : (w : World) (g : Limits) (asked : FetchTopic) → IsTopicAnswered w asked (answered_topic w g asked).1
topic-answered w g asked =
    let topic = named asked.topic w.known.topics in
    (refl, each (fetch_answered w topic) (IsPartitionAnswered w topic) (λ s e. partition-answered w topic s e) g asked.partitions)

all-answered : (w : World) (r : FetchRequest) → EachAnswered (IsTopicAnswered w) r.topics (fetched w r).1.topics
all-answered w r = each (answered_topic w) (IsTopicAnswered w) (λ s t. topic-answered w s t) (begun r) r.topics

-- a fetch that has an answer has that one
answer-is : (w : World) (clock : ℕ) (r : FetchRequest) (deadline : ℕ) (reply : FetchReplyV5) → fetch_answer w clock r deadline ≡ Some reply → reply ≡ (fetched w r).1
answer-is w clock r deadline reply e = by (is_ready clock r (fetched w r).1 deadline) refl
  where
    same : {x y : FetchReplyV5} → Some x ≡ Some y → x ≡ y
    same h = cc

    none : {P : Type 0} {x : FetchReplyV5} → None ≡ Some x → P
    none h = absurd (cc)

    by : (t : Bool) → is_ready clock r (fetched w r).1 deadline ≡ t → reply ≡ (fetched w r).1
    by true ready = sym (same (sym (ap (λ t. if t then Some (fetched w r).1 else None) ready) ∙ e))
    by false ready = none (sym (ap (λ t. if t then Some (fetched w r).1 else None) ready) ∙ e)

-- what is written of a fetch's reply
abbrev Spelled : (version code : ℤ) → World → FetchRequest → Type 0
Spelled version code w r = SpellsBehind (has_session version) (has_starts version) (fetched_as version code (fetched w r).1) (fetched w r).1

written-holds : (version code : ℤ) (w : World) (clock : ℕ) (r : FetchRequest) (deadline : ℕ) (reply : FetchReplyV5) (bytes : List ℕ) → Spelled version code w r → fetch_answer w clock r deadline ≡ Some reply → bytes ≡ fetched_as version code reply → HoldsBatches version w r bytes
written-holds version code w clock r deadline reply bytes spelled e is = record {
  reply = (fetched w r).1;
  spelled = subst (λ s. SpellsBehind (has_session version) (has_starts version) s (fetched w r).1) (sym (is ∙ ap (λ (x : FetchReplyV5). fetched_as version code x) (answer-is w clock r deadline reply e))) spelled;
  answered = all-answered w r;
}

-- what holds the batches of a request within a limit holds those of the request
as-asked : (version : ℤ) (w : World) (limit : Option ℕ) (r : FetchRequest) (bytes : List ℕ) → HoldsBatches version w (bounded limit r) bytes → HoldsBatches version w r bytes
as-asked version w limit r bytes h = record { reply = h.reply; spelled = h.spelled; answered = h.answered }

-- ---- at once, and after a wait

reaction-holds : (version : ℤ) (body : List ℕ) (limit : Option ℕ) (w : World) (clock : ℕ) (r : FetchRequest) (bytes : List ℕ) (answer : Option FetchReplyV5) → Spelled version (asked_code version body) w r → fetch_answer w clock r (deadline_of clock r) ≡ answer → fetch_reaction version body limit w clock r answer ≡ Replies bytes → HoldsBatches version w r bytes
reaction-holds version body limit w clock r bytes None spelled e is = absurd (cc)
reaction-holds version body limit w clock r bytes (Some reply) spelled e is = written-holds version (asked_code version body) w clock r (deadline_of clock r) reply bytes spelled e (sym (replied-is is))
  where
    replied-is : {x y : List ℕ} → Replies x ≡ Replies y → x ≡ y
    replied-is h = cc

pub served-holds : (node : Node) (w : World) (clock n : ℕ) (version : ℤ) (body bytes : List ℕ) (r : FetchRequest) → HasSmallLogs w → asked_fetch version body ≡ Ok r → (plainly_served node w clock n FETCH version body).reaction ≡ Replies bytes → HoldsBatches version w r bytes
unfolding plainly_served
served-holds node w clock n version body bytes r small read replies =
    by (is_past node.limits.request_entries (fetch_entries r)) (sym (ap (λ x. (if_read w (within_limit node.limits.request_entries fetch_entries x) (of_fetch version body node.limits.fetch_bytes w clock)).reaction) read) ∙ replies)
  where
    by : (b : Bool) → (if_read w (if b then Err faults.Bad else Ok r) (of_fetch version body node.limits.fetch_bytes w clock)).reaction ≡ Replies bytes → HoldsBatches version w r bytes
    by true is = absurd cc
    by false is = let q = bounded node.limits.fetch_bytes r in
        as-asked version w node.limits.fetch_bytes r bytes
        (reaction-holds version body node.limits.fetch_bytes w clock q bytes (fetch_answer w clock q (deadline_of clock q)) (reply_spelled w version (asked_code version body) node.limits.fetch_bytes body r small read) refl is)

look-holds : (version : ℤ) (w : World) (clock deadline : ℕ) (r : FetchRequest) (bytes : List ℕ) (answer : Option FetchReplyV5) → Spelled version (pos 0) w r → fetch_answer w clock r deadline ≡ answer → (elim answer [ Some reply ↦ Replies (fetched_in version reply) | None ↦ Silent ]) ≡ Replies bytes → HoldsBatches version w r bytes
look-holds version w clock deadline r bytes None spelled e is = absurd (cc)
look-holds version w clock deadline r bytes (Some reply) spelled e is = written-holds version (pos 0) w clock r deadline reply bytes spelled e (sym (replied-is is))
  where
    replied-is : {x y : List ℕ} → Replies x ≡ Replies y → x ≡ y
    replied-is h = cc

pub looked-holds : (w : World) (clock deadline : ℕ) (version : ℤ) (limit : Option ℕ) (body bytes : List ℕ) (r : FetchRequest) → HasSmallLogs w → asked_fetch version body ≡ Ok r → looked w clock deadline version limit body ≡ Replies bytes → HoldsBatches version w r bytes
unfolding looked
looked-holds w clock deadline version limit body bytes r small read replies =
    let q = bounded limit r in
    as-asked version w limit r bytes
    (look-holds version w clock deadline q bytes (fetch_answer w clock q deadline) (reply_spelled w version (pos 0) limit body r small read) refl (sym (ap (looked_at w clock deadline version limit) read) ∙ replies))
