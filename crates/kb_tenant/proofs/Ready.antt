-- What a fetch was given, as its reply tells it.
use Rattle.std.proofs.Common.{◌≡◌, ◌∙◌, sym, ap, refl, subst, ⊎_elim, ℕ, ◌+◌, ◌-◌, List, [], ◌∷◌, ◌++◌, length, take, Bool, true, false, arith}
use Rattle.std.specs.Prelude.{ℤ, Option, Some, None, Result, Ok, Err, nat_le, not, ◌==◌, ◌||◌, if◌then◌else◌}
use Rattle.std.specs.List.{sum_by}
use Rattle.std.specs.List.{list_any}
use Rattle.std.proofs.lemmas.List.Sums.{sum_by-cons}
use Rattle.std.proofs.lemmas.Bool.Decides.{nat_tests}
use Rattle.kb_batch.specs.Batch.{natural}
use Rattle.kb_api_data.specs.declared.fetch.FetchPartition.{FetchPartition}
use Rattle.kb_api_data.specs.declared.fetch.FetchTopic.{FetchTopic}
use Rattle.kb_api_data.specs.declared.fetch.FetchRequest.{FetchRequest}
use Rattle.kb_api_data.specs.declared.fetch_v5.FetchPartitionReplyV5.{FetchPartitionReplyV5}
use Rattle.kb_api_data.specs.declared.fetch_v5.FetchTopicReplyV5.{FetchTopicReplyV5}
use Rattle.kb_api_data.specs.declared.fetch_v5.FetchReplyV5.{FetchReplyV5}
use Rattle.kb_topics.specs.Known.{named}
use Rattle.kb_tenant_state.specs.declared.fault.PartitionFault.{PartitionFault}
use Rattle.kb_tenant_state.specs.declared.fault.PartitionFault.TheVariants as partition
use Rattle.kb_tenant.specs.Counted.{fetch_answered, answered_at, answered_by, answered_topic, fetched, fetched_at, refused, begun, has_enough}
use Rattle.kb_tenant.specs.Fetch.{bounds_of, is_ready, records_size, is_error, look_written, fetch_answer, reply_written}
use Rattle.kb_tenant.specs.Counted.{AreFetchesTold, IsFetchTold, IsFetchTopicTold}
use Rattle.kb_tenant.proofs.Counting.{fetched_same}
use Rattle.kb_tenant.proofs.Fetching.{cut_back}
use Rattle.kb_tenant.specs.Turns.{in_turn, AreServed}
use Rattle.kb_tenant_state.specs.World.{World, place_in}
use Rattle.kb_tenant.specs.declared.fetch.given.Given.{Given}
use Rattle.kb_tenant_state.specs.declared.topic_partition.TopicPartition.{TopicPartition}

-- what an answer adds to what was given before
record Tells {A : Type 0} (size : A → ℕ) (bad some : A → Bool) (g h : Given) (a : A) : Type 0 where
  pub missing : h.missing ≡ g.missing - size a
  pub wrong : h.is_wrong ≡ (g.is_wrong || bad a)
  pub asked : h.is_asked ≡ (g.is_asked || some a)

or_true : (b : Bool) → true ≡ (b || true)
or_true true = refl
or_true false = refl

or_false : (b : Bool) → b ≡ (b || false)
or_false true = refl
or_false false = refl

or_or : (a b c : Bool) → ((a || b) || c) ≡ (a || (b || c))
or_or true b c = refl
or_or false b c = refl

less_twice : (m a b s : ℕ) → s ≡ a + b → (m - a) - b ≡ m - s
less_twice m a b s is = omega (arith, is)

in_turn_tells : {E A : Type 0} (size : A → ℕ) (bad some : A → Bool) (f : Given → E → Given × A) → ((g : Given) (e : E) → Tells size bad some g (f g e).0 (f g e).1) → (g : Given) (es : List E)
    → Tells (sum_by size) (list_any bad) (list_any some) g (in_turn f g es).0 (in_turn f g es).1
in_turn_tells size bad some f each g [] = record { missing = omega arith; wrong = or_false g.is_wrong; asked = or_false g.is_asked }
in_turn_tells {A = A} size bad some f each g (e ∷ es) =
    let a : A = (f g e).1 in
    let first = each g e in
    let h : Given = (f g e).0 in
    let others : List A = (in_turn f h es).1 in
    let later = in_turn_tells size bad some f each h es in
    record {
      missing = later.missing ∙ ap (λ n. n - sum_by size others) first.missing ∙ less_twice g.missing (size a) (sum_by size others) (sum_by size (a ∷ others)) (sum_by-cons size a others);
      wrong = later.wrong ∙ ap (λ b. b || list_any bad others) first.wrong ∙ or_or g.is_wrong (bad a) (list_any bad others);
      asked = later.asked ∙ ap (λ b. b || list_any some others) first.asked ∙ or_or g.is_asked (some a) (list_any some others);
    }

-- ---- one partition

abbrev is_refusal : FetchPartitionReplyV5 → Bool
is_refusal p = is_error p.error_code

abbrev Partition : Given → Given × FetchPartitionReplyV5 → Type 0
Partition g r = Tells records_size is_refusal (λ p. true) g r.0 r.1

refusal_bad : (p : ℤ) (f : PartitionFault) (g : Given) → is_refusal (refused g p f).1 ≡ true
refusal_bad p partition.Unknown g = refl
refusal_bad p partition.Range g = refl
refusal_bad p partition.Full g = refl
refusal_bad p partition.Store g = refl
refusal_bad p partition.Memory g = refl

refused_tells : (g : Given) (p : ℤ) (f : PartitionFault) → Partition g (refused g p f)
refused_tells g p f = record {
  missing = omega arith;
  wrong = or_true g.is_wrong ∙ ap (λ b. g.is_wrong || b) (sym (refusal_bad p f g));
  asked = or_true g.is_asked;
}

by_tells : (g : Given) (p : ℤ) (o : Option (ℤ × ℤ)) (r : Result (List ℕ) PartitionFault) → Partition g (answered_by g p o r)
by_tells g p None r = refused_tells g p partition.Unknown
by_tells g p (Some bounds) (Err f) = refused_tells g p f
by_tells g p (Some bounds) (Ok records) = record { missing = refl; wrong = or_false g.is_wrong; asked = or_true g.is_asked }

at_tells : (w : World) (g : Given) (e : FetchPartition) (o : Option TopicPartition) → Partition g (answered_at w g e o)
at_tells w g e None = refused_tells g e.partition partition.Unknown
at_tells w g e (Some place) = by_tells g e.partition (bounds_of w place) (fetched_at w g e place)

pub asked_at : (w : World) (g : Given) (e : FetchPartition) (o : Option TopicPartition) → (answered_at w g e o).0.is_asked ≡ true
asked_at w g e o = (at_tells w g e o).asked ∙ sym (or_true g.is_asked)

-- ---- the whole

topic_tells : (w : World) (g : Given) (t : FetchTopic)
    → Tells (λ (a : FetchTopicReplyV5). sum_by records_size a.partitions) (λ a. list_any is_refusal a.partitions) (λ a. list_any (λ p. true) a.partitions) g (answered_topic w g t).0 (answered_topic w g t).1
topic_tells w g t =
    let all = in_turn_tells records_size is_refusal (λ p. true) (fetch_answered w (named t.topic w.known.topics)) (λ h e. at_tells w h e (place_in (named t.topic w.known.topics) e.partition)) g t.partitions in
    record { missing = all.missing; wrong = all.wrong; asked = all.asked }

none_missing : (n s : ℕ) → ((n - s) == 0) ≡ nat_le n s
none_missing n s = grind (arith, nat_tests)

-- what was counted on the way says whether the reply waits no longer
pub ready_is : (w : World) (clock : ℕ) (r : FetchRequest) (deadline : ℕ) → has_enough (fetched w r).0 clock deadline ≡ is_ready clock r (fetched w r).1 deadline
ready_is w clock r deadline =
    let all = in_turn_tells (λ (a : FetchTopicReplyV5). sum_by records_size a.partitions) (λ a. list_any is_refusal a.partitions) (λ a. list_any (λ p. true) a.partitions) (answered_topic w) (topic_tells w) (begun r) r.topics in
    let g = (fetched w r).0 in
    ap (λ b. not b || g.is_wrong || (g.missing == 0) || nat_le deadline clock) all.asked
    ∙ ap (λ b. not (list_any (λ a. list_any (λ p. true) a.partitions) (fetched w r).1.topics) || b || (g.missing == 0) || nat_le deadline clock) all.wrong
    ∙ ap (λ b. not (list_any (λ a. list_any (λ p. true) a.partitions) (fetched w r).1.topics) || list_any (λ a. list_any is_refusal a.partitions) (fetched w r).1.topics || b || nat_le deadline clock)
    (ap (λ n. n == 0) all.missing ∙ none_missing (natural r.min_bytes) (sum_by (λ (a : FetchTopicReplyV5). sum_by records_size a.partitions) (fetched w r).1.topics))

-- the same where something is refused
served_tells : {E A : Type 0} (size : A → ℕ) (bad some : A → Bool) (R : Given → E → Given → A → Type 0)
    → ((g : Given) (e : E) (h : Given) (a : A) → R g e h a → Tells size bad some g h a) → (g h : Given) (es : List E) (answers : List A)
    → AreServed R g es h answers → Tells (sum_by size) (list_any bad) (list_any some) g h answers
served_tells size bad some R each g h [] [] is = record {
  missing = ap (λ k. k.missing) is ∙ omega arith;
  wrong = ap (λ k. k.is_wrong) is ∙ or_false g.is_wrong;
  asked = ap (λ k. k.is_asked) is ∙ or_false g.is_asked;
}
served_tells size bad some R each g h [] (a ∷ answers) is = absurd is
served_tells size bad some R each g h (e ∷ es) [] is = absurd is
served_tells size bad some R each g h (e ∷ es) (a ∷ answers) is =
    let mid : Given = is.0 in
    let first = each g e mid a is.1.0 in
    let later = served_tells size bad some R each mid h es answers is.1.1 in
    record {
      missing = later.missing ∙ ap (λ n. n - sum_by size answers) first.missing
          ∙ less_twice g.missing (size a) (sum_by size answers) (sum_by size (a ∷ answers)) (sum_by-cons size a answers);
      wrong = later.wrong ∙ ap (λ b. b || list_any bad answers) first.wrong ∙ or_or g.is_wrong (bad a) (list_any bad answers);
      asked = later.asked ∙ ap (λ b. b || list_any some answers) first.asked ∙ or_or g.is_asked (some a) (list_any some answers);
    }

told_tells : (failed : Type 0) (w : World) (topic : Option ℕ) (g : Given) (e : FetchPartition) (h : Given) (x : FetchPartitionReplyV5)
    → IsFetchTold failed w topic g e h x → Tells records_size is_refusal (λ p. true) g h x
told_tells failed w topic g e h x =
    ⊎_elim (λ done. subst (Partition g) (sym done) (at_tells w g e (place_in topic e.partition)))
    (⊎_elim (λ store. subst (Partition g) (sym store.0) (refused_tells g e.partition partition.Store))
    (λ memory. subst (Partition g) (sym memory) (refused_tells g e.partition partition.Memory)))

topic_told_tells : (failed : Type 0) (w : World) (g : Given) (t : FetchTopic) (h : Given) (x : FetchTopicReplyV5)
    → IsFetchTopicTold failed w g t h x
    → Tells (λ (a : FetchTopicReplyV5). sum_by records_size a.partitions) (λ a. list_any is_refusal a.partitions) (λ a. list_any (λ p. true) a.partitions) g h x
topic_told_tells failed w g t h x so =
    let topic = named t.topic w.known.topics in
    let all = served_tells records_size is_refusal (λ p. true) (IsFetchTold failed w topic) (told_tells failed w topic) g h t.partitions
    x.partitions so.1 in
    record { missing = all.missing; wrong = all.wrong; asked = all.asked }

pub told_ready : (failed : Type 0) (w : World) (clock : ℕ) (q : FetchRequest) (g : Given) (x : FetchReplyV5) (deadline : ℕ) → AreFetchesTold failed w q g x
    → has_enough g clock deadline ≡ is_ready clock q x deadline
told_ready failed w clock q g x deadline so =
    let all = served_tells (λ (a : FetchTopicReplyV5). sum_by records_size a.partitions) (λ a. list_any is_refusal a.partitions)
    (λ a. list_any (λ p. true) a.partitions) (IsFetchTopicTold failed w) (topic_told_tells failed w) (begun q) g q.topics x.topics so.1 in
    ap (λ b. not b || g.is_wrong || (g.missing == 0) || nat_le deadline clock) all.asked
    ∙ ap (λ b. not (list_any (λ a. list_any (λ p. true) a.partitions) x.topics) || b || (g.missing == 0) || nat_le deadline clock) all.wrong
    ∙ ap (λ b. not (list_any (λ a. list_any (λ p. true) a.partitions) x.topics) || list_any (λ a. list_any is_refusal a.partitions) x.topics || b || nat_le deadline clock)
    (ap (λ n. n == 0) all.missing ∙ none_missing (natural q.min_bytes) (sum_by (λ (a : FetchTopicReplyV5). sum_by records_size a.partitions) x.topics))

-- ---- what a look answers

-- the reply is the definition's
reply_same : (starts : Bool) (w : World) (clock : ℕ) (r : FetchRequest) (deadline : ℕ) (old : List ℕ)
    → look_written starts old (if is_ready clock r (fetched w r).1 deadline then Some (fetched w r).1 else None)
    ≡ look_written starts old (fetch_answer w clock r deadline)
reply_same starts w clock r deadline old =
    ap (λ (x : FetchReplyV5). look_written starts old (if is_ready clock r x deadline then Some x else None)) (sym (ap (λ x. x.1) (fetched_same w r)))

done_is : (w : World) (clock : ℕ) (r : FetchRequest) (given : Given) (deadline : ℕ) (ready : Bool) → ready ≡ has_enough given clock deadline → given ≡ (fetched w r).0 → is_ready clock r (fetched w r).1 deadline ≡ ready
done_is w clock r given deadline ready is same = sym (ready_is w clock r deadline) ∙ sym (ap (λ g. has_enough g clock deadline) same) ∙ sym is

when_done : (starts : Bool) (old : List ℕ) (reply : FetchReplyV5) (b : Bool) → b ≡ true → (true, old ++ reply_written starts reply) ≡ look_written starts old (if b then Some reply else None)
when_done starts old reply true is = refl
when_done starts old reply false is = absurd cc

when_not : (starts : Bool) (old : List ℕ) (reply : FetchReplyV5) (b : Bool) → b ≡ false → (false, old) ≡ look_written starts old (if b then Some reply else None)
when_not starts old reply true is = absurd cc
when_not starts old reply false is = refl

pub looked_done : (starts : Bool) (w : World) (clock : ℕ) (r : FetchRequest) (given : Given) (deadline : ℕ) (ready : Bool) (old new : List ℕ) → ready ≡ has_enough given clock deadline → ready ≡ true
    → (given ≡ (fetched w r).0) × (new ≡ old ++ reply_written starts (fetched w r).1) → (true, new) ≡ look_written starts old (fetch_answer w clock r deadline)
looked_done starts w clock r given deadline ready old new is over told =
    ap (λ s. (true, s)) told.1 ∙ when_done starts old (fetched w r).1 (is_ready clock r (fetched w r).1 deadline) (done_is w clock r given deadline ready is told.0 ∙ over)
    ∙ reply_same starts w clock r deadline old

pub looked_not : (starts : Bool) (w : World) (clock : ℕ) (r : FetchRequest) (given : Given) (deadline : ℕ) (ready : Bool) (old mid new : List ℕ) (n : ℕ) → ready ≡ has_enough given clock deadline → ready ≡ false
    → (given ≡ (fetched w r).0) × (mid ≡ old ++ reply_written starts (fetched w r).1) → n ≡ length old → new ≡ take n mid → (false, new) ≡ look_written starts old (fetch_answer w clock r deadline)
looked_not starts w clock r given deadline ready old mid new n is early told len back =
    ap (λ s. (false, s)) (back ∙ cut_back old (reply_written starts (fetched w r).1) mid n told.1 len) ∙ when_not starts old (fetched w r).1 (is_ready clock r (fetched w r).1 deadline) (done_is w clock r given deadline ready is told.0 ∙ early)
    ∙ reply_same starts w clock r deadline old
