-- DeleteGroups tells no place, touches no log and no name, and makes nothing more.
use Rattle.std.proofs.Common.{◌≡◌, ◌∙◌, ◌≤◌, ℕ, ℤ, Bool, true, false, cond, List, [], ◌∷◌, length, map, None, refl, sym, subst, ap, arith}
use Rattle.std.proofs.lemmas.List.{length-map}
use Rattle.std.specs.Prelude.{if◌then◌else◌}
use Rattle.std.specs.Option.{option_map}
use Rattle.std.specs.Ordering.{nat_cmp}
use Rattle.std.specs.Cmp.Lexicographic.{slice_cmp}
use Rattle.std.specs.Map.{remove_entry}
use Rattle.std.specs.BTreeMap.{is_at}
use Rattle.std.specs.List.{All, AllByRecursion, sum_by}
use Rattle.std.proofs.lemmas.List.Sums.{sum_by-cons}
use Rattle.kb_wire.specs.ErrorCode.{code_of}
use Rattle.kb_wire.specs.declared.error_code.ErrorCode.TheVariants as codes
use Rattle.kb_api_group.specs.declared.delete_groups.DeleteGroupsRequest.{DeleteGroupsRequest}
use Rattle.kb_api_data.specs.declared.fetch.FetchRequest.{FetchRequest}
use Rattle.kb_groups.specs.Calls as one
use Rattle.kb_coordinator.specs.Calls.{deleted, has_members, is_there}
use Rattle.kb_coordinator.specs.Groups.{Groups, silent}
use Rattle.kb_topics.specs.Known.{CommittedOffset, Known, PartitionState, TopicState, has_committed, without_commit, without_commits, without_group}
use Rattle.kb_topics.proofs.Groups.{apart_less, at_less, less, named_less}
use Rattle.kb_topics.proofs.Sorted.{left_long, sorted_left}
use Rattle.kb_tenant_state.specs.Stored.{offsets_to, offsets_to_all, text_size, texts_to, texts_to_all}
use Rattle.kb_tenant_state.specs.Tied.{IsTied}
use Rattle.kb_tenant_state.specs.World.{World}
use Rattle.kb_tenant_state.proofs.GroupDeleted.{group_counts}
use Rattle.kb_tenant.specs.Batches.{HasSmallLogs, IsSmall}
use Rattle.kb_tenant.specs.Fetch.{fetch_answer}
use Rattle.kb_tenant.specs.LimitsKept.{IsOrdered}
use Rattle.kb_tenant.specs.Turns.{in_turn}
use Rattle.kb_tenant.specs.Waiting.{HasOwnNames, StillWaits}
use Rattle.kb_tenant.specs.declared.limits.DataLimits.{DataLimits}
use Rattle.kb_tenant.proofs.CommitMoves.{Commits, commits_none, commits_then, moves_by}
use Rattle.kb_tenant.proofs.LimitsKept.{Less, Stays, stays_less, stays_same, turns_stay}
use Rattle.kb_tenant.proofs.Moves.{waits_through}
use Rattle.kb_tenant.proofs.RetainMoves.{IsAlike}
use Rattle.kb_tenant.proofs.ServeMoves.{nowhere}
use Rattle.kb_tenant_api.specs.Deletions.{all_deleted, deleted_entry}
use Rattle.kb_tenant_api.specs.Serve.{of_delete}

-- ---- one group

alike_less : (k : Known) (group : List ℕ) → IsAlike k (without_group k group)
alike_less k group = record {
  creates = refl;
  none = λ i none. at_less group i k.topics ∙ ap (option_map (without_commits group)) none;
  counts = group_counts group k.topics;
  names = λ name. named_less group name k.topics;
  apart = λ own. apart_less group k.topics own;
}

-- What holds of each of the outcomes of an entry, if it does of the topics that stay and of those without the group.
either : (P : World → Type 0) (s : World × Groups) (id : List ℕ) → P s.0 → P (all_deleted s id).0 → P (deleted_entry s id).0.0
either P s id same gone = by (one.is_empty id) (has_members id s.1) (has_committed id s.0.known.topics) (is_there id s.1)
  where
    by : (a b c d : Bool) → P (if a then (let r : (World × Groups) × ℤ = (s, code_of codes.InvalidGroupId) in r) else (if b then (s, code_of codes.NonEmptyGroup) else (if c then (all_deleted s id, code_of codes.None) else (if d then ((s.0, deleted id s.1), code_of codes.None) else (s, code_of codes.GroupIdNotFound))))).0.0
    by true b c d = same
    by false true c d = same
    by false false true d = gone
    by false false false true = same
    by false false false false = same

entry_commits : (s : World × Groups) (id : List ℕ) → Commits s.0 (deleted_entry s id).0.0
entry_commits s id = either (Commits s.0) s id (commits_none s.0) (record { logs = refl; alike = alike_less s.0.known id })

turns_commit : (s : World × Groups) (ids : List (List ℕ)) → Commits s.0 (in_turn deleted_entry s ids).0.0
turns_commit s [] = commits_none s.0
turns_commit s (id ∷ ids) =
    let t : World × Groups = (deleted_entry s id).0 in
    commits_then s.0 t.0 (in_turn deleted_entry t ids).0.0 (entry_commits s id) (turns_commit t ids)

module _ (w : World) (gs : Groups) (r : DeleteGroupsRequest) where
  all_commits : Commits w (of_delete w gs r).world
  all_commits = turns_commit (w, silent gs) r.group_ids

  pub deleted_tied : IsTied w → IsTied (of_delete w gs r).world
  deleted_tied tied = (moves_by w (of_delete w gs r).world all_commits).tied tied

  pub deleted_names : HasOwnNames w → HasOwnNames (of_delete w gs r).world
  deleted_names own = all_commits.alike.apart own

  pub deleted_small : HasSmallLogs w → HasSmallLogs (of_delete w gs r).world
  deleted_small small = subst (λ ls. All (λ e. All IsSmall e.1) ls) (sym all_commits.logs) small

  pub deleted_waits : (clock : ℕ) (q : FetchRequest) (deadline : ℕ) → IsTied w → fetch_answer w clock q deadline ≡ None → StillWaits w (of_delete w gs r).world clock q deadline
  deleted_waits clock q deadline tied waits =
      waits_through [] w (of_delete w gs r).world (moves_by w (of_delete w gs r).world all_commits) tied clock q deadline waits (λ place asked none. nowhere place none)

-- ---- limits

parts_less : (group : List ℕ) (ps : List PartitionState) → offsets_to (map (without_commit group) ps) ≤ offsets_to ps
parts_less group [] = omega arith
parts_less group (p ∷ ps) =
    let size : PartitionState → ℕ = λ q. length q.commits in
    omega (arith, parts_less group ps, left_long p.commits (is_at (slice_cmp nat_cmp group)), sum_by-cons size p ps, sum_by-cons size (without_commit group p) (map (without_commit group) ps))

topics_less : (group : List ℕ) (ts : List (ℕ × TopicState)) → offsets_to_all (less group ts) ≤ offsets_to_all ts
topics_less group [] = omega arith
topics_less group (e ∷ ts) =
    let size : ℕ × TopicState → ℕ = λ t. offsets_to t.1.partitions in
    omega (arith, topics_less group ts, parts_less group e.1.partitions, sum_by-cons size e ts, sum_by-cons size (e.0, without_commits group e.1) (less group ts))

left_texts : (group : List ℕ) (cs : List (List ℕ × CommittedOffset)) → sum_by text_size (remove_entry (is_at (slice_cmp nat_cmp group)) cs) ≤ sum_by text_size cs
left_texts group [] = omega arith
left_texts group (e ∷ cs) = by (is_at (slice_cmp nat_cmp group) e.0) (left_texts group cs)
  where
    rest : List (List ℕ × CommittedOffset)
    rest = remove_entry (is_at (slice_cmp nat_cmp group)) cs

    by : (b : Bool) → sum_by text_size rest ≤ sum_by text_size cs → sum_by text_size (cond {A = List (List ℕ × CommittedOffset)} b cs (e ∷ rest)) ≤ sum_by text_size (e ∷ cs)
    by true le = omega (arith, sum_by-cons text_size e cs)
    by false le = omega (arith, le, sum_by-cons text_size e cs, sum_by-cons text_size e rest)

texts_of_less : (group : List ℕ) (ps : List PartitionState) → texts_to (map (without_commit group) ps) ≤ texts_to ps
texts_of_less group [] = omega arith
texts_of_less group (p ∷ ps) =
    let size : PartitionState → ℕ = λ q. sum_by text_size q.commits in
    omega (arith, texts_of_less group ps, left_texts group p.commits, sum_by-cons size p ps, sum_by-cons size (without_commit group p) (map (without_commit group) ps))

texts_less : (group : List ℕ) (ts : List (ℕ × TopicState)) → texts_to_all (less group ts) ≤ texts_to_all ts
texts_less group [] = omega arith
texts_less group (e ∷ ts) =
    let size : ℕ × TopicState → ℕ = λ t. texts_to t.1.partitions in
    omega (arith, texts_less group ts, texts_of_less group e.1.partitions, sum_by-cons size e ts, sum_by-cons size (e.0, without_commits group e.1) (less group ts))

partitions_less : (group : List ℕ) (ts : List (ℕ × TopicState)) → sum_by (λ (t : ℕ × TopicState). length t.1.partitions) (less group ts) ≤ sum_by (λ (t : ℕ × TopicState). length t.1.partitions) ts
partitions_less group [] = omega arith
partitions_less group (e ∷ ts) =
    let size : ℕ × TopicState → ℕ = λ t. length t.1.partitions in
    omega (arith, partitions_less group ts, length-map e.1.partitions (without_commit group), sum_by-cons size e ts, sum_by-cons size (e.0, without_commits group e.1) (less group ts))

ordered_parts : (group : List ℕ) (ps : List PartitionState) → AllByRecursion IsOrdered ps → AllByRecursion IsOrdered (map (without_commit group) ps)
ordered_parts group [] all = tt
ordered_parts group (p ∷ ps) all = (sorted_left (slice_cmp nat_cmp) p.commits (is_at (slice_cmp nat_cmp group)) all.0, ordered_parts group ps all.1)

ordered_topics : (group : List ℕ) (ts : List (ℕ × TopicState)) → AllByRecursion (λ (t : ℕ × TopicState). AllByRecursion IsOrdered t.1.partitions) ts
    → AllByRecursion (λ (t : ℕ × TopicState). AllByRecursion IsOrdered t.1.partitions) (less group ts)
ordered_topics group [] all = tt
ordered_topics group (e ∷ ts) all = (ordered_parts group e.1.partitions all.0, ordered_topics group ts all.1)

gone_less : (w : World) (group : List ℕ) → Less w (record w { known = without_group w.known group })
gone_less w group = record {
  bytes = omega arith;
  topics = (let one : ℕ × TopicState → ℕ × TopicState = λ e. (e.0, without_commits group e.1) in let same = length-map w.known.topics one in omega (arith, same));
  partitions = partitions_less group w.known.topics;
  offsets = topics_less group w.known.topics;
  texts = texts_less group w.known.topics;
}

entry_stays : (limits : DataLimits) (s : World × Groups) (id : List ℕ) → Stays limits s.0 (deleted_entry s id).0.0
entry_stays limits s id = either (Stays limits s.0) s id (stays_same limits s.0)
    (stays_less limits s.0 (all_deleted s id).0 (ordered_topics id s.0.known.topics) (gone_less s.0 id))

pub deleted_stays : (limits : DataLimits) (w : World) (gs : Groups) (r : DeleteGroupsRequest) → Stays limits w (of_delete w gs r).world
deleted_stays limits w gs r = turns_stay limits (λ (s : World × Groups). s.0) deleted_entry (entry_stays limits) (w, silent gs) r.group_ids
