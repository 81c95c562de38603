-- The partitions that a fetch waits for, and what became of it.
use Rattle.std.proofs.Common.{◌≡◌, ◌∙◌, sym, ap, refl, subst, ℕ, ◌+◌, ◌<◌, ◌≤◌, List, [], ◌∷◌, ◌++◌, length, take, get_or, append_assoc, Bool, true, false}
use Rattle.std.specs.Prelude.{Option, Some, None}
use Rattle.std.specs.declared.vec.Vec.{Vec}
use Rattle.std.specs.declared.alloc.Global.{Global}
use Rattle.std.specs.List.{filter_map, flat_map}
use Rattle.std.proofs.lemmas.List.{take_more, take_all, append-nil}
use Rattle.std.proofs.lemmas.List.Elements.{filter_map-append}
use Rattle.std.proofs.lemmas.Grind.{flat_map-append}
use Rattle.kb_api_data.specs.declared.fetch.FetchPartition.{FetchPartition}
use Rattle.kb_api_data.specs.declared.fetch.FetchTopic.{FetchTopic}
use Rattle.kb_api_data.specs.declared.fetch.FetchRequest.{FetchRequest}
use Rattle.kb_api_data.specs.declared.fetch_v5.FetchReplyV5.{FetchReplyV5}
use Rattle.kb_topics.specs.Known.{named}
use Rattle.kb_tenant.specs.Fetch.{places_in, places_of, look_written, IsServed, deadline_of}
use Rattle.kb_tenant_state.specs.World.{World, place_in}
use Rattle.kb_tenant.specs.declared.fetch.waiting.Fetching.TheVariants as fetching
use Rattle.kb_tenant_state.specs.declared.topic_partition.TopicPartition.{TopicPartition}

-- one item more
pub one_longer : {A : Type 0} (xs : List A) (i : ℕ) (x : A) → i < length xs → x ≡ get_or xs i x → take (i + 1) xs ≡ take i xs ++ x ∷ []
one_longer xs i x lt is = take_more xs i x lt ∙ ap (λ y. take i xs ++ y ∷ []) (sym is)

one_kept : {X Y : Type 0} (h : X → Option Y) (x : X) (y : Y) → Some y ≡ h x → filter_map h (x ∷ []) ≡ y ∷ []
one_kept h x y is = rw (sym is) refl

one_dropped : {X Y : Type 0} (h : X → Option Y) (x : X) → None ≡ h x → filter_map h (x ∷ []) ≡ []
one_dropped h x is = rw (sym is) refl

-- an entry more, whose place is known
pub place_added : (topic : Option ℕ) (es : List FetchPartition) (i : ℕ) (e : FetchPartition) (place : TopicPartition) (old here new : List TopicPartition) → i < length es → e ≡ get_or es i e → Some place ≡ place_in topic e.partition
    → here ≡ old ++ places_in topic (take i es) → new ≡ here ++ place ∷ [] → new ≡ old ++ places_in topic (take (i + 1) es)
place_added topic es i e place old here new lt is there before more =
    let h = λ (x : FetchPartition). place_in topic x.partition in
    more ∙ ap (λ l. l ++ place ∷ []) before ∙ append_assoc old (places_in topic (take i es)) (place ∷ [])
    ∙ ap (λ l. old ++ (places_in topic (take i es) ++ l)) (sym (one_kept h e place there))
    ∙ ap (λ l. old ++ l) (sym (filter_map-append h (take i es) (e ∷ [])))
    ∙ ap (λ l. old ++ places_in topic l) (sym (one_longer es i e lt is))

-- an entry more, that has none
pub none_added : (topic : Option ℕ) (es : List FetchPartition) (i : ℕ) (e : FetchPartition) (old here : List TopicPartition) → i < length es → e ≡ get_or es i e → None ≡ place_in topic e.partition
    → here ≡ old ++ places_in topic (take i es) → here ≡ old ++ places_in topic (take (i + 1) es)
none_added topic es i e old here lt is there before =
    let h = λ (x : FetchPartition). place_in topic x.partition in
    before ∙ ap (λ l. old ++ l) (sym (append-nil (places_in topic (take i es))))
    ∙ ap (λ l. old ++ (places_in topic (take i es) ++ l)) (sym (one_dropped h e there))
    ∙ ap (λ l. old ++ l) (sym (filter_map-append h (take i es) (e ∷ [])))
    ∙ ap (λ l. old ++ places_in topic l) (sym (one_longer es i e lt is))

-- ---- the topics

pub topic_added : (w : World) (r : FetchRequest) (ts : List FetchTopic) (i : ℕ) (t : FetchTopic) (topic : Option ℕ) (name : List ℕ) (entries : List FetchPartition) (here new : List TopicPartition) → ts ≡ r.topics → i < length ts → t ≡ get_or ts i t
    → name ≡ t.topic → topic ≡ named name w.known.topics → entries ≡ t.partitions
    → here ≡ places_of w (record r { topics = take i r.topics }) → new ≡ here ++ places_in topic entries → new ≡ places_of w (record r { topics = take (i + 1) r.topics })
topic_added w r ts i t topic name entries here new list lt is same at all before more =
    let f = λ (x : FetchTopic). places_in (named x.topic w.known.topics) x.partitions in
    let mine : places_in topic entries ≡ f t = ap (λ o. places_in o entries) (at ∙ ap (λ x. named x w.known.topics) same) ∙ ap (places_in (named t.topic w.known.topics)) all in
    let longer : take (i + 1) r.topics ≡ take i r.topics ++ t ∷ [] = subst (λ l. take (i + 1) l ≡ take i l ++ t ∷ []) list (one_longer ts i t lt is) in
    more ∙ ap (λ l. l ++ places_in topic entries) before ∙ ap (λ l. flat_map f (take i r.topics) ++ l) (mine ∙ sym (append-nil (f t)))
    ∙ sym (flat_map-append f (take i r.topics) (t ∷ []))
    ∙ ap (λ l. flat_map f l) (sym longer)

pub topics_done : (w : World) (r : FetchRequest) (ts : List FetchTopic) (i : ℕ) (here : List TopicPartition) → ts ≡ r.topics → length ts ≤ i → here ≡ places_of w (record r { topics = take i r.topics }) → here ≡ places_of w r
topics_done w r ts i here list le before =
    before ∙ ap (λ l. places_of w (record r { topics = l })) (take_all i r.topics (subst (λ l. length l ≤ i) list le))

-- ---- what became of it

pub reply_served : (starts : Bool) (w : World) (clock : ℕ) (r : FetchRequest) (d : ℕ) (f : ℕ → Option FetchReplyV5) (old new : List ℕ) (done : Bool) → done ≡ true → d ≡ deadline_of clock r → (done, new) ≡ look_written starts old (f d) → IsServed starts w clock r (f (deadline_of clock r)) old fetching.Reply new
reply_served starts w clock r d f old new done is same told = by_cases (f (deadline_of clock r)) (told ∙ ap (λ n. look_written starts old (f n)) same)
  where
    by_cases : (o : Option FetchReplyV5) → (done, new) ≡ look_written starts old o → IsServed starts w clock r o old fetching.Reply new
    by_cases (Some reply) told = ap (λ x. x.1) told
    by_cases None told = let e : true ≡ false = sym is ∙ ap (λ x. x.0) told in absurd cc

pub wait_served : (starts : Bool) (w v : World) (clock : ℕ) (r : FetchRequest) (d : ℕ) (f : ℕ → Option FetchReplyV5) (old new : List ℕ) (done : Bool) (keys : Vec TopicPartition Global) → done ≡ false → d ≡ deadline_of clock r → (done, new) ≡ look_written starts old (f d) → keys.items ≡ places_of v r → v ≡ w
    → IsServed starts w clock r (f (deadline_of clock r)) old (fetching.Wait d keys) new
wait_served starts w v clock r d f old new done keys is same told there stays = by_cases (f (deadline_of clock r)) (told ∙ ap (λ n. look_written starts old (f n)) same)
  where
    by_cases : (o : Option FetchReplyV5) → (done, new) ≡ look_written starts old o → IsServed starts w clock r o old (fetching.Wait d keys) new
    by_cases (Some reply) told = let e : false ≡ true = sym is ∙ ap (λ x. x.0) told in absurd cc
    by_cases None told = (same, there ∙ ap (λ u. places_of u r) stays, ap (λ x. x.1) told)
