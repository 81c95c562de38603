use Rattle.std.proofs.Common.{length}
use Rattle.kb_topic_command.proofs.meaning.+from_wrong.Given as goal

abbrev pub decreases-from_wrong : goal.decreases-from_wrong
decreases-from_wrong l = length l.settings.now
