-- The bytes of the texts of committed offsets, after a commit, and after a topic or a group was deleted.
use Rattle.std.proofs.Common.{◌≡◌, ◌≢◌, ◌∙◌, ◌⊎◌, inl, inr, eqb, ◌≤◌, ◌<◌, ◌+◌, ◌-◌, ◌^◌, ℕ, true, false, cond, List, [], ◌∷◌, length, map, Option, Some, refl, sym, ap, arith}
use Rattle.std.specs.Prelude.{sum_by}
use Rattle.std.specs.declared.cmp.Ordering.{Ordering}
use Rattle.std.specs.declared.cmp.Ordering.TheVariants.{Less, Equal, Greater}
use Rattle.std.specs.Ordering.{nat_cmp, is_eq, match_ordering}
use Rattle.std.specs.Cmp.Lexicographic.{slice_cmp}
use Rattle.std.specs.FinMap.{slice_cmp-IsAntisymmetric, nat_cmp-IsAntisymmetric}
use Rattle.std.specs.Map.{lookup, remove_entry}
use Rattle.std.specs.Option.{option_and_then}
use Rattle.std.specs.BTreeMap.{insert_entry, is_at}
use Rattle.std.proofs.lemmas.Bool.Decides.{eqb_tells}
use Rattle.std.proofs.lemmas.List.Sums.{sum_by-cons}
use Rattle.kb_topics.specs.Known.{Known, CommittedOffset, PartitionState, TopicState, committed_at, topic_at, with_commit, without_commit, without_commits, without_group, without_topic}
use Rattle.kb_tenant_state.specs.Calls.{known_at, with_committed}
use Rattle.kb_tenant_state.specs.Stored.{commits_to, text_of, text_size, texts_at, texts_by, texts_in, texts_of, texts_to, up_to_end}
use Rattle.kb_tenant_state.specs.declared.topic_partition.TopicPartition.{TopicPartition}
use Rattle.kb_tenant_state.proofs.Sums.{moved_sum, moved_there, part_in_sum, total_cons, total_removed}

-- ---- what a group has committed to one partition

-- the texts of some commits
abbrev pub texts_among : List (List ℕ × CommittedOffset) → ℕ
texts_among cs = sum_by text_size cs

-- what a group has among them
abbrev pub had_among : List ℕ → List (List ℕ × CommittedOffset) → Option CommittedOffset
had_among group cs = lookup (is_at (slice_cmp nat_cmp group)) cs

among_cons : (e : List ℕ × CommittedOffset) (cs : List (List ℕ × CommittedOffset)) → texts_among (e ∷ cs) ≡ text_size e + texts_among cs
among_cons e cs = sum_by-cons text_size e cs

-- a group that is found has the id that it was found by
long_as : (group other : List ℕ) → slice_cmp nat_cmp group other ≡ Equal → length other ≡ length group
long_as group other e = sym (ap (λ (g : List ℕ). length g) (slice_cmp-IsAntisymmetric nat_cmp-IsAntisymmetric group other e))

-- a commit stands in place of what the group had, or makes the commits more by one
pub record IsPut (group : List ℕ) (c : CommittedOffset) (old new : List (List ℕ × CommittedOffset)) : Type 0 where
  pub replaced : length new - length old ≡ 0 → (texts_among new + text_of group (had_among group old) ≡ texts_among old + text_size (group, c)) × (text_of group (had_among group old) ≤ texts_among old)
  pub added : 0 < length new - length old → texts_among new ≡ texts_among old + text_size (group, c)
  pub longer : length old ≤ length new

put_text : (group : List ℕ) (c : CommittedOffset) (cs : List (List ℕ × CommittedOffset)) → IsPut group c cs (insert_entry (slice_cmp nat_cmp) cs group c)
put_text group c [] = record { replaced = λ e. absurd (omega (arith, e)); added = λ lt. omega (arith, among_cons (group, c) []); longer = omega arith }
put_text group c (e ∷ cs) = by (slice_cmp nat_cmp group e.0) refl (put_text group c cs)
  where
    rest : List (List ℕ × CommittedOffset)
    rest = insert_entry (slice_cmp nat_cmp) cs group c

    found : Ordering → Option CommittedOffset
    found o = cond (is_eq o) (Some e.1) (had_among group cs)

    by : (o : Ordering) → slice_cmp nat_cmp group e.0 ≡ o → IsPut group c cs rest
        → IsPut group c (e ∷ cs) (match_ordering {X = List (List ℕ × CommittedOffset)} o ((group, c) ∷ e ∷ cs) ((e.0, c) ∷ cs) (e ∷ rest))
    by Less s behind = record {
      replaced = λ same. absurd (omega (arith, same));
      added = λ lt. among_cons (group, c) (e ∷ cs) ∙ omega arith;
      longer = omega arith;
    }
    by Equal s behind =
        let has : had_among group (e ∷ cs) ≡ Some e.1 = ap found s in
        let text : text_of group (had_among group (e ∷ cs)) ≡ text_size (group, e.1) = ap (text_of group) has in
        let long = long_as group e.0 s in
        record {
          replaced = λ same. (omega (arith, text, long, among_cons (e.0, c) cs, among_cons e cs), omega (arith, text, long, among_cons e cs));
          added = λ lt. absurd (omega (arith, lt));
          longer = omega arith;
        }
    by Greater s behind =
        let has : had_among group (e ∷ cs) ≡ had_among group cs = ap found s in
        let text : text_of group (had_among group (e ∷ cs)) ≡ text_of group (had_among group cs) = ap (text_of group) has in
        record {
          replaced = λ same. let was = behind.replaced (omega (arith, same)) in
              (omega (arith, was.0, text, among_cons e rest, among_cons e cs), omega (arith, was.1, text, among_cons e cs));
          added = λ lt. omega (arith, behind.added (omega (arith, lt)), among_cons e rest, among_cons e cs);
          longer = omega (arith, behind.longer);
        }

-- without what a group had
gone_text : (group : List ℕ) (cs : List (List ℕ × CommittedOffset)) → texts_among (remove_entry (is_at (slice_cmp nat_cmp group)) cs) + text_of group (had_among group cs) ≡ texts_among cs
gone_text group [] = refl
gone_text group (e ∷ cs) = by (slice_cmp nat_cmp group e.0) refl (gone_text group cs)
  where
    rest : List (List ℕ × CommittedOffset)
    rest = remove_entry (is_at (slice_cmp nat_cmp group)) cs

    by : (o : Ordering) → slice_cmp nat_cmp group e.0 ≡ o → texts_among rest + text_of group (had_among group cs) ≡ texts_among cs
        → texts_among (cond {A = List (List ℕ × CommittedOffset)} (is_eq o) cs (e ∷ rest)) + text_of group (cond (is_eq o) (Some e.1) (had_among group cs)) ≡ texts_among (e ∷ cs)
    by Less s behind = omega (arith, behind, among_cons e rest, among_cons e cs)
    by Equal s behind = omega (arith, long_as group e.0 s, among_cons e cs)
    by Greater s behind = omega (arith, behind, among_cons e rest, among_cons e cs)

-- ---- the sum that is kept

-- Of what there was so much went, and so much came. The sum that was kept tells the new one, where it was not at its end; there it was
-- taken again.
moved_to : (was all gone come new now : ℕ) → was ≡ up_to_end all → new + gone ≡ all + come → gone ≤ all → (was ≢ 2 ^ 64 - 1 → now ≡ up_to_end (was - gone + come)) → (was ≡ 2 ^ 64 - 1 → now ≡ up_to_end new) → now ≡ up_to_end new
moved_to was all gone come new now count sum le moved again = by (eqb_tells was (2 ^ 64 - 1))
  where
    by : ((eqb was (2 ^ 64 - 1) ≡ true) × (was ≡ 2 ^ 64 - 1)) ⊎ ((eqb was (2 ^ 64 - 1) ≡ false) × (was ≢ 2 ^ 64 - 1)) → now ≡ up_to_end new
    by (inl e) = again e.1
    by (inr ne) = omega (arith, moved ne.1, count, sum, le, ne.1)

-- the same where all that went was summed up to the end, and nothing came
taken_to : (was all gone new now g : ℕ) → was ≡ up_to_end all → new + gone ≡ all → g ≡ up_to_end gone → (was ≢ 2 ^ 64 - 1 → now ≡ up_to_end (was - g + 0)) → (was ≡ 2 ^ 64 - 1 → now ≡ up_to_end new) → now ≡ up_to_end new
taken_to was all gone new now g count sum ended moved again = by (eqb_tells was (2 ^ 64 - 1))
  where
    by : ((eqb was (2 ^ 64 - 1) ≡ true) × (was ≡ 2 ^ 64 - 1)) ⊎ ((eqb was (2 ^ 64 - 1) ≡ false) × (was ≢ 2 ^ 64 - 1)) → now ≡ up_to_end new
    by (inl e) = again e.1
    by (inr ne) = omega (arith, moved ne.1, count, sum, ended, ne.1)

-- ---- a commit

module _ (k new : Known) (place : TopicPartition) (group : List ℕ) (c : CommittedOffset) (q : PartitionState) (at : known_at k place ≡ Some q) (is : new ≡ with_committed k place group c (Some q)) where
  abbrev part : PartitionState
  part = with_commit q group c

  put : IsPut group c q.commits part.commits
  put = put_text group c q.commits

  -- the sum is moved by what went and what came
  pub commit_texts : (was had before after more gone now : ℕ) → was ≡ up_to_end (texts_in k) → had ≡ text_of group (option_and_then (committed_at group) (known_at k place))
      → before ≡ commits_to (known_at k place) → after ≡ commits_to (known_at new place) → more ≡ after - before → (more ≡ 0 → gone ≡ had) → (0 < more → gone ≡ 0)
      → (was ≢ 2 ^ 64 - 1 → now ≡ up_to_end (was - gone + text_size (group, c))) → (was ≡ 2 ^ 64 - 1 → now ≡ up_to_end (texts_in new)) → now ≡ up_to_end (texts_in new)
  commit_texts was had before after more gone now count h b a m same added moved again =
      moved_to was (texts_in k) gone (text_size (group, c)) (texts_in new) now count (by (eqb_tells more 0)).0 (by (eqb_tells more 0)).1 moved again
    where
      sum : texts_in new + texts_among q.commits ≡ texts_in k + texts_among part.commits
      sum = ap (λ (j : Known). texts_in j + texts_among q.commits) is ∙ moved_sum (λ (x : PartitionState). texts_among x.commits) k place.instance place.number q part at

      within : texts_among q.commits ≤ texts_in k
      within = part_in_sum (λ (x : PartitionState). texts_among x.commits) k place.instance place.number q part at

      text : had ≡ text_of group (had_among group q.commits)
      text = h ∙ ap (λ o. text_of group (option_and_then (committed_at group) o)) at

      more_is : more ≡ length part.commits - length q.commits
      more_is =
          let first : before ≡ length q.commits = b ∙ ap commits_to at in
          let last : after ≡ length part.commits = a ∙ ap (λ (j : Known). commits_to (known_at j place)) is ∙ ap commits_to (moved_there k place.instance place.number q part at) in
          omega (arith, m, first, last)

      by : ((eqb more 0 ≡ true) × (more ≡ 0)) ⊎ ((eqb more 0 ≡ false) × (more ≢ 0)) → (texts_in new + gone ≡ texts_in k + text_size (group, c)) × (gone ≤ texts_in k)
      by (inl e) =
          let had_all = put.replaced (sym more_is ∙ e.1) in
          (omega (arith, sum, had_all.0, text, same e.1), omega (arith, within, had_all.1, text, same e.1))
      by (inr ne) = let lt : 0 < more = omega (arith, ne.1) in (omega (arith, sum, put.added (omega (arith, more_is, lt)), added lt), omega (arith, added lt))

-- ---- a deletion

-- a topic's texts go with it
topic_less : (k : Known) (i : ℕ) → texts_in (without_topic k i) + texts_at (topic_at i k.topics) ≡ texts_in k
topic_less k i = total_removed (λ (t : TopicState). texts_to t.partitions) texts_at refl (λ t. refl) (is_at (nat_cmp i)) k.topics

pub topic_taken : (k new : Known) (i was now g : ℕ) → new ≡ without_topic k i → was ≡ up_to_end (texts_in k) → g ≡ up_to_end (texts_at (topic_at i k.topics))
    → (was ≢ 2 ^ 64 - 1 → now ≡ up_to_end (was - g + 0)) → (was ≡ 2 ^ 64 - 1 → now ≡ up_to_end (texts_in new)) → now ≡ up_to_end (texts_in new)
topic_taken k new i was now g is count gone moved again =
    let gone_all = texts_at (topic_at i k.topics) in
    taken_to was (texts_in k) gone_all (texts_in new) now g count (ap (λ (j : Known). texts_in j + gone_all) is ∙ topic_less k i) gone moved again

parts_less : (group : List ℕ) (ps : List PartitionState) → texts_to (map (without_commit group) ps) + texts_of group ps ≡ texts_to ps
parts_less group [] = refl
parts_less group (p ∷ ps) =
    let texts : PartitionState → ℕ = λ (x : PartitionState). sum_by text_size x.commits in
    let had : PartitionState → ℕ = λ (x : PartitionState). text_of group (committed_at group x) in
    omega (arith, parts_less group ps, gone_text group p.commits, sum_by-cons texts (without_commit group p) (map (without_commit group) ps), sum_by-cons texts p ps, sum_by-cons had p ps)

topics_less : (group : List ℕ) (ts : List (ℕ × TopicState)) → sum_by (λ (t : ℕ × TopicState). texts_to t.1.partitions) (map (λ e. (e.0, without_commits group e.1)) ts)
    + sum_by (λ (t : ℕ × TopicState). texts_of group t.1.partitions) ts ≡ sum_by (λ (t : ℕ × TopicState). texts_to t.1.partitions) ts
topics_less group [] = refl
topics_less group (e ∷ ts) =
    let rest : List (ℕ × TopicState) = map (λ e. (e.0, without_commits group e.1)) ts in
    let texts : TopicState → ℕ = λ (t : TopicState). texts_to t.partitions in
    omega (arith, topics_less group ts, parts_less group e.1.partitions, total_cons texts (e.0, without_commits group e.1) rest, total_cons texts e ts, total_cons (λ (t : TopicState). texts_of group t.partitions) e ts)

-- a group's texts go with it
group_less : (k : Known) (group : List ℕ) → texts_in (without_group k group) + texts_by group k ≡ texts_in k
group_less k group = topics_less group k.topics

pub group_taken : (k new : Known) (group : List ℕ) (was now g : ℕ) → new ≡ without_group k group → was ≡ up_to_end (texts_in k) → g ≡ up_to_end (texts_by group k)
    → (was ≢ 2 ^ 64 - 1 → now ≡ up_to_end (was - g + 0)) → (was ≡ 2 ^ 64 - 1 → now ≡ up_to_end (texts_in new)) → now ≡ up_to_end (texts_in new)
group_taken k new group was now g is count gone moved again =
    taken_to was (texts_in k) (texts_by group k) (texts_in new) now g count (ap (λ (j : Known). texts_in j + texts_by group k) is ∙ group_less k group) gone moved again
