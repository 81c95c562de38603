use Rattle.std.proofs.Common.{map, string_bytes}
use Rattle.std.proofs.lemmas.Map.Lookups.{map_keys}
use Rattle.kb_metrics.proofs.Commits.{Walked}
use Rattle.kb_metrics.proofs.lag.offsets_of.Given as goal

-- the offsets so far are those of the first groups
abbrev pub invariant-loop-group : goal.invariant-loop-group
invariant-loop-group l = record {
  next : (goal.iterator-loop-group).can_next l.group-iterator;
  finite : (goal.iterator-loop-group).is_finite l.group-iterator;
  walked : Walked (map (λ g. g.now) l.groups) l.partition.commits l.offsets.items (map_keys string_bytes l.group-iterator);
}
