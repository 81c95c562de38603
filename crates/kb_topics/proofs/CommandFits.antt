-- Commands whose texts fit.
use Rattle.std.proofs.Common.{◌<◌, ◌^◌, ℕ, ℤ, List, length}
use Rattle.kb_wire.specs.Codec.{int}
use Rattle.kb_wire.specs.Fits.{string_fits}
use Rattle.kb_topics.specs.declared.command.CreateTopic.{CreateTopic}
use Rattle.kb_topics.specs.declared.command.CommitOffset.{CommitOffset}
use Rattle.kb_topics.specs.declared.command.MoveStart.{MoveStart}
use Rattle.kb_topics.specs.declared.command.BeginSnapshot.{BeginSnapshot}
use Rattle.kb_topics.specs.declared.command.Command.TheVariants.{Create, Delete, Issue, Commit, Start, Snapshot, Topic, DeleteGroup}
use Rattle.kb_topics.specs.Layouts.{command_codec, create_topic, commit_offset, move_start, begin_snapshot}

pub create_fits : (c : CreateTopic) → length c.name < 2 ^ 15 → command_codec.Fits (Create c)
unfolding command_codec create_topic int
create_fits c lt = (tt, (string_fits c.name lt, (tt, (tt, (tt, tt)))))

pub delete_fits : (name : List ℕ) → length name < 2 ^ 15 → command_codec.Fits (Delete name)
unfolding command_codec int
delete_fits name lt = (tt, string_fits name lt)

pub delete_group_fits : (group : List ℕ) → length group < 2 ^ 15 → command_codec.Fits (DeleteGroup group)
unfolding command_codec int
delete_group_fits group lt = (tt, string_fits group lt)

pub issue_fits : (id : ℤ) → command_codec.Fits (Issue id)
unfolding command_codec int
issue_fits id = (tt, tt)

pub commit_fits : (c : CommitOffset) → length c.group < 2 ^ 15 → length c.metadata < 2 ^ 15 → command_codec.Fits (Commit c)
unfolding command_codec commit_offset int
commit_fits c lt short = (tt, (string_fits c.group lt, (tt, (tt, (tt, string_fits c.metadata short)))))

pub start_fits : (s : MoveStart) → command_codec.Fits (Start s)
unfolding command_codec move_start int
start_fits s = (tt, (tt, (tt, tt)))

pub snapshot_fits : (s : BeginSnapshot) → command_codec.Fits (Snapshot s)
unfolding command_codec begin_snapshot int
snapshot_fits s = (tt, (tt, (tt, tt)))

pub topic_fits : (c : CreateTopic) → length c.name < 2 ^ 15 → command_codec.Fits (Topic c)
unfolding command_codec create_topic int
topic_fits c lt = (tt, (string_fits c.name lt, (tt, (tt, (tt, tt)))))
