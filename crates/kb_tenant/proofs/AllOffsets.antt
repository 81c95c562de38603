-- All that a group committed: what is counted, and what is written, one after another.
use Rattle.std.proofs.Common.{◌≡◌, ◌∙◌, sym, ap, refl, ℕ, ◌+◌, List, [], ◌∷◌, ◌++◌, ◌≤◌, length, map, arith, w32}
use Rattle.std.specs.Prelude.{ℤ, pos, Bool, Option}
use Rattle.std.specs.List.{flat_map, range_with_len}
use Rattle.std.proofs.lemmas.Grind.{flat_map-append}
use Rattle.std.proofs.lemmas.List.{append-nil, length-append}
use Rattle.std.proofs.lemmas.List.Folds.{flat_map-map}
use Rattle.std.proofs.lemmas.List.FromFn.{map-range_with_len_more}
use Rattle.kb_wire.specs.Codec.{array, count, string}
use Rattle.kb_api_group.specs.declared.offset_fetch.OffsetFetchPartitionReply.{OffsetFetchPartitionReply}
use Rattle.kb_api_group.specs.declared.offset_fetch.OffsetFetchTopicReply.{OffsetFetchTopicReply}
use Rattle.kb_topics.specs.Known.{CommittedOffset, TopicState}
use Rattle.kb_tenant_state.specs.Calls.{committed}
use Rattle.kb_tenant_state.specs.World.{World}
use Rattle.kb_tenant.specs.DeleteTopics.{place_at}
use Rattle.kb_tenant.specs.OffsetFetch.{partition_reply, told_at, told_if, told_in, topic_if, topic_reply, topic_told}
use Rattle.kb_tenant.specs.Replies.{written_until}
use Rattle.kb_tenant.proofs.Fitting.{array_written, written_both}
use Rattle.kb_tenant.proofs.OffsetsKept.{topic_spelled}
use Rattle.kb_tenant.proofs.Until.{until_first}

-- what is told of the first numbers, and of one more
more : {A : Type 0} (f : ℕ → List A) (n : ℕ) → flat_map f (range_with_len 0 (n + 1)) ≡ flat_map f (range_with_len 0 n) ++ f n
more {A} f n =
    let all = λ (xs : List A). xs in
    sym (flat_map-map all f (range_with_len 0 (n + 1)))
    ∙ ap (flat_map all) (map-range_with_len_more f 0 n n (omega arith))
    ∙ flat_map-append all (map f (range_with_len 0 n)) (f n ∷ [])
    ∙ ap (λ x. flat_map all (map f (range_with_len 0 n)) ++ x) (append-nil (f n))
    ∙ ap (λ x. x ++ f n) (flat_map-map all f (range_with_len 0 n))

-- ---- a partition

pub counted_more : (w : World) (group : List ℕ) (instance n k count : ℕ) (o : Option CommittedOffset) → o ≡ committed w (place_at instance n) group → k ≡ length (told_if (pos n) o)
    → count ≡ length (told_in w group instance n) → count + k ≡ length (told_in w group instance (n + 1))
counted_more w group instance n k count o is one before =
    let here = told_at w group instance n in
    let so_far = told_in w group instance n in
    let all : length (told_in w group instance (n + 1)) ≡ length so_far + length here = ap length (more (told_at w group instance) n) ∙ length-append so_far here in
    ap (λ x. x + k) before ∙ ap (λ x. length so_far + x) (one ∙ ap (λ (x : Option CommittedOffset). length (told_if (pos n) x)) is) ∙ sym all

pub in_more : (epochs : Bool) (w : World) (group : List ℕ) (instance n : ℕ) (z : ℤ) (o : Option CommittedOffset) (old s t : List ℕ) → z ≡ pos n → o ≡ committed w (place_at instance n) group
    → s ≡ old ++ flat_map (partition_reply epochs).written (told_in w group instance n) → t ≡ s ++ flat_map (partition_reply epochs).written (told_if z o)
    → t ≡ old ++ flat_map (partition_reply epochs).written (told_in w group instance (n + 1))
in_more epochs w group instance n z o old s t z_is o_is a b =
    let write = (partition_reply epochs).written in
    let so_far = told_in w group instance n in
    let here : told_if z o ≡ told_at w group instance n = ap (λ y. told_if y o) z_is ∙ ap (told_if (pos n)) o_is in
    written_both old s t (flat_map write so_far) (flat_map write (told_if z o)) a b
    ∙ ap (λ x. old ++ x) (ap (λ l. flat_map write so_far ++ flat_map write l) here ∙ sym (flat_map-append write so_far (told_at w group instance n))
    ∙ ap (flat_map write) (sym (more (told_at w group instance) n)))

-- ---- a topic

pub topic_none : (name : List ℕ) (xs : List OffsetFetchPartitionReply) → length xs ≡ 0 → topic_if name xs ≡ []
topic_none name [] is = refl
topic_none name (x ∷ xs) is = absurd (omega (arith, is))

pub topic_some : (name : List ℕ) (xs : List OffsetFetchPartitionReply) → (length xs ≡ 0 → ⊥) → topic_if name xs ≡ record { name = name; partitions = xs } ∷ []
topic_some name [] some = absurd (some refl)
topic_some name (x ∷ xs) some = refl

pub topic_written : (epochs : Bool) (name : List ℕ) (xs : List OffsetFetchPartitionReply) (n : ℕ) (old s1 s2 s3 : List ℕ) → n ≡ length xs → (n ≡ 0 → ⊥)
    → s1 ≡ old ++ string.written name → s2 ≡ s1 ++ (count w32).written n → s3 ≡ s2 ++ flat_map (partition_reply epochs).written xs
    → s3 ≡ old ++ flat_map (topic_reply epochs).written (topic_if name xs)
topic_written epochs name xs n old s1 s2 s3 n_is some p q r =
    let array_is = array_written (partition_reply epochs) xs n n_is in
    let all = flat_map (partition_reply epochs).written xs in
    let parts = (array (partition_reply epochs)).written xs in
    let tail : s3 ≡ s1 ++ parts = written_both s1 s2 s3 ((count w32).written n) all q r ∙ ap (λ x. s1 ++ x) array_is in
    let one = topic_some name xs (λ none. some (n_is ∙ none)) in
    written_both old s1 s3 (string.written name) parts p tail
    ∙ ap (λ x. old ++ x) (sym (ap (flat_map (topic_reply epochs).written) one ∙ append-nil ((topic_reply epochs).written (record { name = name; partitions = xs }))
    ∙ topic_spelled epochs (record { name = name; partitions = xs })))

pub topic_counted_none : (name : List ℕ) (xs : List OffsetFetchPartitionReply) → length xs ≡ 0 → 0 ≡ length (topic_if name xs)
topic_counted_none name xs none = sym (ap length (topic_none name xs none))

pub topic_counted_some : (name : List ℕ) (xs : List OffsetFetchPartitionReply) → (length xs ≡ 0 → ⊥) → 1 ≡ length (topic_if name xs)
topic_counted_some name xs some = sym (ap length (topic_some name xs some))

-- ---- the topics

-- what was counted and is to come, after one topic more
pub topics_counted : (w : World) (group : List ℕ) (e : ℕ × TopicState) (rest : List (ℕ × TopicState)) (k count total : ℕ) → k ≡ length (topic_told w group e)
    → count + length (flat_map (topic_told w group) (e ∷ rest)) ≡ total → count + k + length (flat_map (topic_told w group) rest) ≡ total
topics_counted w group e rest k count total one before =
    let here = topic_told w group e in
    let others = flat_map (topic_told w group) rest in
    let both : length (here ++ others) ≡ length here + length others = length-append here others in
    let regrouped : count + k + length others ≡ count + (k + length others) = omega arith in
    regrouped ∙ ap (λ x. count + (x + length others)) one ∙ ap (λ x. count + x) (sym both) ∙ before

-- A topic is told in one entry, or in none.
told_first : (epochs : Bool) (most : ℕ) (name : List ℕ) (xs : List OffsetFetchPartitionReply) (others : List OffsetFetchTopicReply) (s t : List ℕ) → length s ≤ most
    → t ≡ s ++ flat_map (topic_reply epochs).written (topic_if name xs)
    → written_until most (topic_reply epochs).written t others ≡ written_until most (topic_reply epochs).written s (topic_if name xs ++ others)
told_first epochs most name [] others s t few wrote = ap (λ x. written_until most (topic_reply epochs).written x others) (wrote ∙ append-nil s)
told_first epochs most name (p ∷ ps) others s t few wrote =
    let write = (topic_reply epochs).written in
    let one : OffsetFetchTopicReply = record { name = name; partitions = p ∷ ps } in
    ap (λ x. written_until most write x others) (wrote ∙ ap (λ x. s ++ x) (append-nil (write one))) ∙ sym (until_first most write s one others few)

pub topics_more : (epochs : Bool) (most : ℕ) (w : World) (group : List ℕ) (e : ℕ × TopicState) (rest : List (ℕ × TopicState)) (s t : List ℕ) → length s ≤ most
    → t ≡ s ++ flat_map (topic_reply epochs).written (topic_told w group e)
    → written_until most (topic_reply epochs).written t (flat_map (topic_told w group) rest) ≡ written_until most (topic_reply epochs).written s (flat_map (topic_told w group) (e ∷ rest))
topics_more epochs most w group e rest s t few wrote =
    told_first epochs most e.1.name (told_in w group e.0 (length e.1.partitions)) (flat_map (topic_told w group) rest) s t few wrote
