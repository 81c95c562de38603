use Rattle.std.proofs.Common.{◌≡◌, ◌++◌, map}
use Rattle.std.specs.List.{flat_map, range_with_len}
use Rattle.kb_metrics.specs.Families.{api_text, with_place}
use Rattle.kb_metrics.proofs.families.push_each_api.Given as goal

-- the keys so far were written
abbrev pub invariant-loop-key : goal.invariant-loop-key
invariant-loop-key l = l.out.items ≡ l.fn.out.items ++ flat_map (api_text l.front) (map (with_place l.requests) (range_with_len 0 l.key))
