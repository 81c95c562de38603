-- Topics without what a group committed: they stand under the same instances, with the same names and as many partitions.
use Rattle.std.proofs.Common.{◌≡◌, ◌∙◌, ◌≤◌, ℕ, Bool, true, false, cond, List, [], ◌∷◌, length, map, Option, Some, None, refl, sym, ap, subst, arith}
use Rattle.std.specs.Prelude.{pos, ◌==◌, slice_get}
use Rattle.std.specs.Option.{option_map}
use Rattle.std.specs.Ordering.{nat_cmp}
use Rattle.std.specs.Cmp.Lexicographic.{slice_cmp}
use Rattle.std.specs.List.{AllByRecursion}
use Rattle.std.specs.List.Sorted.{IsStrictlySortedBy}
use Rattle.std.specs.Map.{keys_of, lookup}
use Rattle.std.specs.BTreeMap.{BTreeMap, get_by_text, is_at}
use Rattle.std.specs.Str.{bytes_eq}
use Rattle.std.specs.declared.string.String.{String}
use Rattle.std.proofs.lemmas.List.{length-map}
use Rattle.std.proofs.lemmas.Map.Made.{keys_of-map_values, lookup-map_values}
use Rattle.kb_topics.specs.Known.{Known, PartitionState, TopicState, named, topic_at, without_commit, without_commits, without_group}
use Rattle.kb_topics.specs.Linked.{IsLinked}
use Rattle.kb_topics.specs.WellFormed.{AreNamedApart, AreTopics, IsPartition, IsTopic, IsWellFormed}
use Rattle.kb_topics.proofs.Sorted.{both_left, sorted_left}

-- these topics without what it committed
abbrev pub less : List ℕ → List (ℕ × TopicState) → List (ℕ × TopicState)
less group ts = map (λ e. (e.0, without_commits group e.1)) ts

pub at_less : (group : List ℕ) (i : ℕ) (ts : List (ℕ × TopicState)) → topic_at i (less group ts) ≡ option_map (without_commits group) (topic_at i ts)
at_less group i ts = lookup-map_values (without_commits group) (is_at (nat_cmp i)) ts

pub keys_less : (group : List ℕ) (ts : List (ℕ × TopicState)) → keys_of (less group ts) ≡ keys_of ts
keys_less group ts = keys_of-map_values (without_commits group) ts

pub named_less : (group q : List ℕ) (ts : List (ℕ × TopicState)) → named q (less group ts) ≡ named q ts
named_less group q [] = refl
named_less group q (e ∷ ts) = ap (λ o. cond (bytes_eq q e.1.name) (Some e.0) o) (named_less group q ts)

-- a topic of the rest is one of before
pub was_there : (group : List ℕ) (o : Option TopicState) (t : TopicState) → option_map (without_commits group) o ≡ Some t → (u : TopicState) × (o ≡ Some u) × (t ≡ without_commits group u)
was_there group None t e = absurd cc
was_there group (Some u) t e = (u, refl, (let same : without_commits group u ≡ t = cc in sym same))

-- ---- well formed

without_is : (group : List ℕ) (p : PartitionState) → IsPartition p → IsPartition (without_commit group p)
without_is group p is = record {
  start = is.start;
  ordered = sorted_left (slice_cmp nat_cmp) p.commits (is_at (slice_cmp nat_cmp group)) is.ordered;
  commits = both_left _ _ p.commits (is_at (slice_cmp nat_cmp group)) is.commits;
}

all_without : (group : List ℕ) (ps : List PartitionState) → AllByRecursion IsPartition ps → AllByRecursion IsPartition (map (without_commit group) ps)
all_without group [] all = tt
all_without group (p ∷ ps) all = (without_is group p all.0, all_without group ps all.1)

topic_less : (group : List ℕ) (t : TopicState) → IsTopic t → IsTopic (without_commits group t)
topic_less group t is =
    let same = length-map t.partitions (without_commit group) in
    let low = is.some in
    let high = is.few in
    record {
      name = is.name;
      retention_ms = is.retention_ms;
      retention_bytes = is.retention_bytes;
      some = omega (arith, same, low);
      few = omega (arith, same, high);
      partitions = all_without group t.partitions is.partitions;
    }

topics_less : (group : List ℕ) (n : ℕ) (ts : List (ℕ × TopicState)) → AreTopics n ts → AreTopics n (less group ts)
topics_less group n [] all = tt
topics_less group n (e ∷ ts) all = ((all.0.0, topic_less group e.1 all.0.1), topics_less group n ts all.1)

pub apart_less : (group : List ℕ) (ts : List (ℕ × TopicState)) → AreNamedApart ts → AreNamedApart (less group ts)
apart_less group [] apart = tt
apart_less group (e ∷ ts) apart = (named_less group e.1.name ts ∙ apart.0, apart_less group ts apart.1)

pub well_formed_less : (k : Known) (group : List ℕ) → IsWellFormed k → IsWellFormed (without_group k group)
well_formed_less k group is =
    let one : ℕ × TopicState → ℕ × TopicState = λ e. (e.0, without_commits group e.1) in
    let same = length-map k.topics one in
    let few = is.few in
    record {
      few = omega (arith, same, few);
      ordered = subst (λ ks. IsStrictlySortedBy nat_cmp ks) (sym (keys_less group k.topics)) is.ordered;
      topics = topics_less group k.creates k.topics is.topics;
      apart = apart_less group k.topics is.apart;
      creates = is.creates;
      issues = is.issues;
    }

-- ---- linked

pub linked_less : {Y : Type 0} (names : BTreeMap (String Y) ℕ) (ts us : List (ℕ × TopicState)) (creates : ℕ) (group : List ℕ) → us ≡ less group ts → IsLinked names ts creates → IsLinked names us creates
linked_less names ts us creates group same is = subst (λ x. IsLinked names x creates) (sym same) (record {
  ordered = subst (λ ks. IsStrictlySortedBy nat_cmp ks) (sym (keys_less group ts)) is.ordered;
  below = λ i t at. let was = was_there group (topic_at i ts) t (sym (at_less group i ts) ∙ at) in is.below i was.0 was.1;
  forth = λ i t at.
      let was = was_there group (topic_at i ts) t (sym (at_less group i ts) ∙ at) in
      ap (λ (x : TopicState). get_by_text names x.name) was.2 ∙ is.forth i was.0 was.1;
  back = λ q i at.
      let found = is.back q i at in
      (without_commits group found.0, at_less group i ts ∙ ap (option_map (without_commits group)) found.1, found.2);
})
