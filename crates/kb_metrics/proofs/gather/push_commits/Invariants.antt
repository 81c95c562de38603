use Rattle.std.proofs.Common.{◌≡◌, ◌++◌, map, string_bytes}
use Rattle.std.proofs.lemmas.Map.Lookups.{map_keys}
use Rattle.kb_metrics.specs.Gauges.{commit_of}
use Rattle.kb_metrics.specs.Rows.{commit_row}
use Rattle.kb_metrics.proofs.gather.push_commits.Given as goal

-- the rows so far, and those of the commits that are still to come, are all
abbrev pub invariant-loop-group : goal.invariant-loop-group
invariant-loop-group l = record {
  next : (goal.iterator-loop-group).can_next l.group-iterator;
  finite : (goal.iterator-loop-group).is_finite l.group-iterator;
  all : map commit_row l.rows.items ++ map (commit_of l.topic l.number) (map_keys string_bytes l.group-iterator)
      ≡ map commit_row l.fn.rows.items ++ map (commit_of l.topic l.number) l.partition.commits;
}
