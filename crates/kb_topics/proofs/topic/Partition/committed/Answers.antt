use Rattle.std.proofs.Common.{◌∙◌, sym, ap}
use Rattle.std.specs.String.{string_bytes}
use Rattle.std.specs.Ordering.{nat_cmp}
use Rattle.std.specs.BTreeMap.{is_at}
use Rattle.std.specs.Cmp.Lexicographic.{slice_cmp}
use Rattle.kb_topics.specs.Known.{committed_at}
use Rattle.kb_topics.proofs.Commits.{lookup_keys}
use Rattle.kb_topics.proofs.topic.Partition.committed.Goals as goal

pub returns : goal.returns
returns c = c.get.ensures.value ∙ sym (lookup_keys string_bytes (is_at (slice_cmp nat_cmp c.args.group.now)) c.self.inside.commits.entries) ∙ ap (committed_at c.args.group.now) c.self.view_is
