use Rattle.std.proofs.Common.{◌≡◌, ◌<◌, ◌+◌, ◌^◌}
use Rattle.std.specs.Prelude.{string_bytes, sum_by}
use Rattle.std.proofs.lemmas.Map.Lookups.{map_keys}
use Rattle.kb_tenant_state.specs.Stored.{text_size, up_to_end}
use Rattle.kb_tenant_state.proofs.usage.partition_text_sum.Given as goal

-- the texts so far, and those of the commits that are still to come, are all
abbrev pub invariant-loop-group : goal.invariant-loop-group
invariant-loop-group l = record {
  small : l.sum < 2 ^ 64;
  all : up_to_end (l.sum + sum_by text_size (map_keys string_bytes l.group-iterator)) ≡ up_to_end (sum_by text_size l.partition.commits);
}
