-- What a call that deletes all that a group committed makes of the catalog.
use Rattle.std.proofs.Common.{◌≡◌, ◌∙◌, ℕ, zero, suc, Bool, true, false, cond, List, [], ◌∷◌, map, Option, Some, None, refl, sym, ap}
use Rattle.std.proofs.lemmas.List.{length-map}
use Rattle.std.specs.Prelude.{slice_get}
use Rattle.std.specs.Option.{option_map, option_and_then}
use Rattle.kb_topics.specs.declared.command.Command.TheVariants.{DeleteGroup}
use Rattle.kb_topics.specs.Known.{Known, PartitionState, TopicState, has_committed, step, topic_at, without_commit, without_commits, without_group}
use Rattle.kb_topics.proofs.Groups.{at_less, less, was_there}
use Rattle.kb_tenant_state.specs.Parts.{start_said}
use Rattle.kb_tenant_state.specs.Tied.{counted, partition_count}
use Rattle.kb_tenant_state.proofs.Starts.{SameStarts}
use Rattle.kb_tenant_state.proofs.StillKept.{WereThere}

-- It is the definition's.
pub group_deleted : (old new : Known) (group : List ℕ) → step old (DeleteGroup group) ≡ Some new → new ≡ without_group old group
group_deleted old new group e = by (has_committed group old.topics) e
  where
    by : (b : Bool) → cond b (Some (without_group old group)) None ≡ Some new → new ≡ without_group old group
    by true is = let same : without_group old group ≡ new = cc in sym same
    by false is = absurd cc

-- each topic has as many partitions as before
pub group_counts : (group : List ℕ) (ts : List (ℕ × TopicState)) → counted partition_count (less group ts) ≡ counted partition_count ts
group_counts group [] = refl
group_counts group (e ∷ ts) = λ i. (e.0, length-map e.1.partitions (without_commit group) i) ∷ group_counts group ts i

pub group_were : (k : Known) (group : List ℕ) → WereThere k (without_group k group)
group_were k group i t at =
    let was = was_there group (topic_at i k.topics) t (sym (at_less group i k.topics) ∙ at) in
    record { former = was.0; at = was.1; config = ap (λ (x : TopicState). x.config) was.2 }

same_start : (group : List ℕ) (ps : List PartitionState) (p : ℕ) → start_said (slice_get (map (without_commit group) ps) p) ≡ start_said (slice_get ps p)
same_start group [] p = refl
same_start group (x ∷ ps) zero = refl
same_start group (x ∷ ps) (suc p) = same_start group ps p

pub group_starts : (k : Known) (group : List ℕ) → SameStarts k (without_group k group)
group_starts k group i p = ap (λ o. start_said (option_and_then (λ (t : TopicState). slice_get t.partitions p) o)) (at_less group i k.topics) ∙ by (topic_at i k.topics)
  where
    by : (o : Option TopicState) → start_said (option_and_then (λ (t : TopicState). slice_get t.partitions p) (option_map (without_commits group) o)) ≡ start_said (option_and_then (λ (t : TopicState). slice_get t.partitions p) o)
    by None = refl
    by (Some t) = same_start group t.partitions p
