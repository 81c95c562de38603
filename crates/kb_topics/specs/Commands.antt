-- The commands that a tenant's calls record.
use Rattle.std.specs.Prelude.{ℕ, ℤ, pos, List}
use Rattle.kb_topics.specs.declared.config.TopicConfig.{TopicConfig}
use Rattle.kb_topics.specs.declared.command.Command.{Command}
use Rattle.kb_topics.specs.declared.command.Command.TheVariants.{Create, Issue, Commit, Start}
use Rattle.kb_topics.specs.Known.{Known}

-- the command that makes a topic, under the number of topics that were made before
abbrev pub create_command : Known → List ℕ → ℤ → TopicConfig → Command
create_command k name partitions config =
    Create (record {
      name = name;
      instance = pos k.creates;
      partitions = partitions;
      retention_ms = config.retention_ms;
      retention_bytes = config.retention_bytes;
    })

-- the command that gives the next producer id out
abbrev pub issue_command : Known → Command
issue_command k = Issue (pos k.issues)

-- the command that records how far a group has processed a partition
abbrev pub commit_command : List ℕ → ℤ → ℤ → ℤ → List ℕ → Command
commit_command group instance partition offset metadata =
    Commit (record { group = group; instance = instance; partition = partition; offset = offset; metadata = metadata })

abbrev pub start_command : ℤ → ℤ → ℤ → Command
start_command instance partition offset = Start (record { instance = instance; partition = partition; offset = offset })
