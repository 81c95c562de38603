use Rattle.std.proofs.Common.{◌≡◌, ◌∙◌, ap, subst}
use Rattle.std.specs.String.{string_bytes}
use Rattle.kb_topics.specs.Known.{with_commit, with_former}
use Rattle.kb_topics.proofs.Commits.{committed_seen, commit_undone}
use Rattle.kb_topics.proofs.topic.Partition.commit.Goals as goal

pub returns-clause-committed : goal.returns-clause-committed
returns-clause-committed c =
    let s = c.self.inside in
    committed_seen s.start s.commits.entries c.insert.new.self.entries c.args.group c.args.committed c.in_ok-insert.ensures.entries
    ∙ ap (λ p. with_commit p (string_bytes c.args.group) c.args.committed) c.self.view_is

pub returns-clause-former : goal.returns-clause-former
returns-clause-former c =
    let s = c.self.inside in
    subst (λ p. with_former (with_commit p (string_bytes c.args.group) c.args.committed) (string_bytes c.args.group) c.in_ok-insert.field-0 ≡ p) c.self.view_is
    (commit_undone s.start s.commits.entries c.args.group c.args.committed c.in_ok-insert.field-0 c.insert.ensures.was_ordered c.in_ok-insert.ensures.old)
