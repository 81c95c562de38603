use Rattle.std.proofs.Common.{◌≡◌, ◌++◌, map}
use Rattle.std.specs.List.{flat_map, range_with_len}
use Rattle.kb_metrics.specs.Markup.{point_text, sample_at}
use Rattle.kb_metrics.proofs.markup.push_points_by.Given as goal

-- the points so far were written
abbrev pub invariant-loop-place : goal.invariant-loop-place
invariant-loop-place l = l.out.items ≡ l.fn.out.items ++ flat_map (point_text l.step) (map (sample_at l.samples) (range_with_len 0 l.place))
