-- How much a broker has that opens with the files of its store, as it is told.
use Rattle.std.specs.Prelude.{◌^◌, ◌-◌, ℕ, List, length, min}
use Rattle.std.specs.List.{sum_by}
use Rattle.kb_topics.specs.ByName.{by_name}
use Rattle.kb_topics.specs.Known.{Known}
use Rattle.kb_tenant_state.specs.Tied.{partition_count}
use Rattle.kb_restart.specs.declared.counts.Counts.{Counts}

-- A number as a count of 64 bits: one that is greater than all of these is told as the greatest.
abbrev pub told : ℕ → ℕ
told n = min n (2 ^ 64 - 1)

-- how many partitions the topics of a tenant have
abbrev pub partitions_of : Known → ℕ
partitions_of k = sum_by (λ e. partition_count e.1) (by_name k.topics)

-- How many tenants there are; of all of them together, how many topics and partitions; and how many files are of no log.
abbrev pub counts_of : List Known → List ℕ → Counts
counts_of tenants strays = record {
  tenants = length tenants;
  topics = told (sum_by (λ k. length k.topics) tenants);
  partitions = told (sum_by partitions_of tenants);
  strays = length strays;
}
