use Rattle.std.proofs.Common.{◌++◌, map, string_bytes}
use Rattle.std.proofs.lemmas.Map.Lookups.{map_keys}
use Rattle.kb_metrics.specs.Gauges.{groups_at}
use Rattle.kb_metrics.specs.Slots.{HaveSame}
use Rattle.kb_metrics.proofs.lag.push_groups.Given as goal

-- the groups so far, and those that are still to come, are all
abbrev pub invariant-loop-group : goal.invariant-loop-group
invariant-loop-group l = record {
  next : (goal.iterator-loop-group).can_next l.group-iterator;
  finite : (goal.iterator-loop-group).is_finite l.group-iterator;
  all : HaveSame (map (λ g. g.now) l.groups.items ++ map (λ c. c.0) (map_keys string_bytes l.group-iterator))
      (map (λ g. g.now) l.fn.groups.items ++ groups_at l.partition);
}
