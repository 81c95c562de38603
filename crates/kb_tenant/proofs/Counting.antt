-- What is counted of a fetch on the way is what it is answered.
use Rattle.std.proofs.Common.{◌≡◌, ◌∙◌, [], ◌∷◌, ap, inl, inr, refl, sym, ⊎_elim, ℕ, ℤ, List, Option, Some, None}
use Rattle.std.specs.Prelude.{pos, Result, Ok, Err}
use Rattle.kb_api_data.specs.declared.fetch.FetchPartition.{FetchPartition}
use Rattle.kb_api_data.specs.declared.fetch.FetchRequest.{FetchRequest}
use Rattle.kb_api_data.specs.declared.fetch.FetchTopic.{FetchTopic}
use Rattle.kb_api_data.specs.declared.fetch_v5.FetchPartitionReplyV5.{FetchPartitionReplyV5}
use Rattle.kb_api_data.specs.declared.fetch_v5.FetchReplyV5.{FetchReplyV5}
use Rattle.kb_api_data.specs.declared.fetch_v5.FetchTopicReplyV5.{FetchTopicReplyV5}
use Rattle.kb_topics.specs.Known.{named}
use Rattle.kb_tenant_state.specs.declared.fault.PartitionFault.{PartitionFault}
use Rattle.kb_tenant_state.specs.World.{World, place_in}
use Rattle.kb_tenant_state.specs.declared.topic_partition.TopicPartition.{TopicPartition}
use Rattle.kb_tenant.specs.Counted.{limits_of, answered_at, answered_by, answered_topic, begun, fetch_answered, fetched, fetched_at}
use Rattle.kb_tenant.specs.Counted.{AreFetchesTold, IsFetchTold, IsFetchTopicTold}
use Rattle.kb_tenant.specs.Fetch as fetch
use Rattle.kb_tenant.specs.Fetch.{Limits, bounds_of}
use Rattle.kb_tenant.specs.Told as told
use Rattle.kb_tenant.specs.Turns.{in_turn, AreServed}
use Rattle.kb_tenant.specs.declared.fetch.given.Given.{Given}

-- ---- what is answered

by_same : (g : Given) (p : ℤ) (o : Option (ℤ × ℤ)) (r : Result (List ℕ) PartitionFault)
    → fetch.answered_by (limits_of g) p o r ≡ (limits_of (answered_by g p o r).0, (answered_by g p o r).1)
by_same g p None r = refl
by_same g p (Some bounds) (Err f) = refl
by_same g p (Some bounds) (Ok records) = refl

at_same : (w : World) (g : Given) (e : FetchPartition) (o : Option TopicPartition)
    → fetch.answered_at w (limits_of g) e o ≡ (limits_of (answered_at w g e o).0, (answered_at w g e o).1)
at_same w g e None = refl
at_same w g e (Some place) = by_same g e.partition (bounds_of w place) (fetched_at w g e place)

-- what is kept of a state goes with it from turn to turn
turns_same : {S T E A : Type 0} (kept : S → T) (f : S → E → S × A) (h : T → E → T × A)
    → ((s : S) (e : E) → h (kept s) e ≡ (kept (f s e).0, (f s e).1)) → (s : S) (es : List E)
    → in_turn h (kept s) es ≡ (kept (in_turn f s es).0, (in_turn f s es).1)
turns_same kept f h same s [] = refl
turns_same {S} {T} {E} {A} kept f h same s (e ∷ es) =
    ap (λ (x : T × A). (let rest = in_turn h x.0 es in let both : T × List A = (rest.0, x.1 ∷ rest.1) in both)) (same s e)
    ∙ ap (λ (y : T × List A). (let both : T × List A = (y.0, (f s e).1 ∷ y.1) in both)) (turns_same kept f h same (f s e).0 es)

topic_same : (w : World) (g : Given) (t : FetchTopic)
    → fetch.answered_topic w (limits_of g) t ≡ (limits_of (answered_topic w g t).0, (answered_topic w g t).1)
topic_same w g t =
    let topic = named t.topic w.known.topics in
    ap (λ (r : Limits × List FetchPartitionReplyV5).
    (let both : Limits × FetchTopicReplyV5 = (r.0, record { topic = t.topic; partitions = r.1 }) in both))
    (turns_same limits_of (fetch_answered w topic) (fetch.fetch_answered w topic) (λ s e. at_same w s e (place_in topic e.partition)) g t.partitions)

pub fetched_same : (w : World) (r : FetchRequest) → fetch.fetched w r ≡ (limits_of (fetched w r).0, (fetched w r).1)
fetched_same w r =
    ap (λ (f : Limits × List FetchTopicReplyV5).
    (let both : Limits × FetchReplyV5 = (f.0, record { throttle_time_ms = pos 0; topics = f.1 }) in both))
    (turns_same limits_of (answered_topic w) (fetch.answered_topic w) (topic_same w) (begun r) r.topics)

-- ---- where something is refused

-- what is told of each turn of a state is told of what is kept of it
served_kept : {S T E A : Type 0} (kept : S → T) (R : S → E → S → A → Type 0) (Q : T → E → T → A → Type 0)
    → ((s : S) (e : E) (t : S) (a : A) → R s e t a → Q (kept s) e (kept t) a) → (s t : S) (es : List E) (answers : List A)
    → AreServed R s es t answers → AreServed Q (kept s) es (kept t) answers
served_kept kept R Q so s t [] [] h = ap kept h
served_kept kept R Q so s t [] (a ∷ answers) h = absurd h
served_kept kept R Q so s t (e ∷ es) [] h = absurd h
served_kept kept R Q so s t (e ∷ es) (a ∷ answers) h = (kept h.0, (so s e h.0 a h.1.0, served_kept kept R Q so h.0 t es answers h.1.1))

-- an answer and what is left behind it
kept_of : (x y : Given × FetchPartitionReplyV5) → x ≡ y → ◌≡◌ {A = Limits × FetchPartitionReplyV5} (limits_of x.0, x.1) (limits_of y.0, y.1)
kept_of x y is = ap (λ (r : Given × FetchPartitionReplyV5). (let both : Limits × FetchPartitionReplyV5 = (limits_of r.0, r.1) in both)) is

entry_told : (failed : Type 0) (w : World) (topic : Option ℕ) (g : Given) (e : FetchPartition) (h : Given) (x : FetchPartitionReplyV5)
    → IsFetchTold failed w topic g e h x → told.IsFetchTold failed w topic (limits_of g) e (limits_of h) x
entry_told failed w topic g e h x =
    ⊎_elim (λ done. inl (kept_of (h, x) (fetch_answered w topic g e) done ∙ sym (at_same w g e (place_in topic e.partition))))
    (λ want. inr (⊎_elim (λ store. inl (kept_of (h, x) _ store.0, store.1)) (λ memory. inr (kept_of (h, x) _ memory)) want))

topic_told : (failed : Type 0) (w : World) (g : Given) (t : FetchTopic) (h : Given) (x : FetchTopicReplyV5)
    → IsFetchTopicTold failed w g t h x → told.IsFetchTopicTold failed w (limits_of g) t (limits_of h) x
topic_told failed w g t h x so =
    let topic = named t.topic w.known.topics in (
      so.0,
      served_kept limits_of (IsFetchTold failed w topic) (told.IsFetchTold failed w topic) (entry_told failed w topic) g h t.partitions
          x.partitions so.1,
    )

pub all_told : (failed : Type 0) (w : World) (q : FetchRequest) (left : Given) (x : FetchReplyV5) → AreFetchesTold failed w q left x
    → told.AreFetchesTold failed w q (limits_of left) x
all_told failed w q left x so = (
  so.0,
  served_kept limits_of (IsFetchTopicTold failed w) (told.IsFetchTopicTold failed w) (topic_told failed w) (begun q) left q.topics
      x.topics so.1,
)
