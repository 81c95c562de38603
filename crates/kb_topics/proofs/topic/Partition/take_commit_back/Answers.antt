use Rattle.std.proofs.Common.{◌≡◌, ◌∙◌, None, Some, String, Global, ap, sym, rules}
use Rattle.std.specs.Ordering.{nat_cmp}
use Rattle.std.specs.Cmp.Lexicographic.{slice_cmp}
use Rattle.std.specs.Map.{lookup}
use Rattle.std.specs.BTreeMap.{BTreeMap, is_at}
use Rattle.std.specs.String.{string_bytes}
use Rattle.kb_topics.specs.Known.{CommittedOffset, with_former}
use Rattle.kb_topics.proofs.Commits.{removed_seen, set_seen, not_there}
use Rattle.kb_topics.proofs.topic.Partition.take_commit_back.Goals as goal

pub returns-in_default : goal.returns-in_default
returns-in_default c =
    let s = c.self.inside in
    let none : c.args.former ≡ None = search rules in
    removed_seen s.start s.commits.entries c.remove.new.self.entries c.args.group.now c.remove.ensures.entries
    ∙ ap (λ p. with_former p c.args.group.now None) c.self.view_is ∙ ap (with_former c.args.self.now c.args.group.now) (sym none)

pub returns-in_default-get_mut : goal.returns-in_default-get_mut
returns-in_default-get_mut c =
    let s = c.self.inside in
    let none : lookup (λ k. is_at (slice_cmp nat_cmp c.args.group.now) (string_bytes k)) s.commits.entries ≡ None = search (rules, c.in_default-get_mut.not-Some) in
    set_seen s.start s.commits.entries c.get_mut.follows.lender-at-none.entries c.args.group.now c.in-Some.former
    (ap (λ (m : BTreeMap (String Global) CommittedOffset). m.entries) c.get_mut.follows.holds-at-none ∙ sym (not_there (λ k. is_at (slice_cmp nat_cmp c.args.group.now) (string_bytes k)) s.commits.entries c.in-Some.former none))
    ∙ ap (λ p. with_former p c.args.group.now (Some c.in-Some.former)) c.self.view_is ∙ ap (with_former c.args.self.now c.args.group.now) (sym c.in-Some.is)

pub returns : goal.returns
returns c =
    let s = c.self.inside in
    set_seen s.start s.commits.entries (c.get_mut.follows.lender c.in-Some.former).entries c.args.group.now c.in-Some.former (c.get_mut.follows.holds c.in-Some.former).0
    ∙ ap (λ p. with_former p c.args.group.now (Some c.in-Some.former)) c.self.view_is ∙ ap (with_former c.args.self.now c.args.group.now) (sym c.in-Some.is)
