use Rattle.std.proofs.Common.{◌≡◌, ◌∙◌, ap, if◌then◌else◌}
use Rattle.kb_groups.specs.Answers.{answers, sync_refused}
use Rattle.kb_groups.specs.Rebalance.{is_joining, ended}
use Rattle.kb_groups.proofs.Settled.{entry_released}
use Rattle.kb_groups.proofs.state.State.answer_entry.Goals as goal
use Rattle.kb_groups.proofs.state.State.answer_entry.Goals.{then-not-is_joining+in_ok-answer, else-not-is_joining}

pub returns-in_ok-answer_joins : goal.returns-in_ok-answer_joins
returns-in_ok-answer_joins c = λ clock.
    let mid : c.if-not-is_joining.out.items ≡ (if is_joining c.args.self.now.phase then c.args.out.now.items else answers sync_refused c.args.self.now.members c.args.out.now.items) = elim c.if-not-is_joining.branch [
      | then-not-is_joining+in_ok-answer w ↦ ap (λ v. v.items) w.out-is ∙ w.in_ok-answer.ensures ∙ ap (λ b. if b then c.args.out.now.items else answers sync_refused c.args.self.now.members c.args.out.now.items) w.if-not-is_joining.ensures
      | else-not-is_joining w ↦ ap (λ v. v.items) w.out-is ∙ ap (λ b. if b then c.args.out.now.items else answers sync_refused c.args.self.now.members c.args.out.now.items) w.if-not-is_joining.ensures
    ] in
    entry_released clock c.args.self.now c.args.out.now.items _ _ mid (c.in_ok-answer_joins.ensures clock ∙ ap (λ b. if b then (ended clock (record { group = c.args.self.now; released = c.if-not-is_joining.out.items })).released else c.if-not-is_joining.out.items) c.if-all_join.ensures)

pub returns-else-all_join : goal.returns-else-all_join
returns-else-all_join c = λ clock.
    let mid : c.if-not-is_joining.out.items ≡ (if is_joining c.args.self.now.phase then c.args.out.now.items else answers sync_refused c.args.self.now.members c.args.out.now.items) = elim c.if-not-is_joining.branch [
      | then-not-is_joining+in_ok-answer w ↦ ap (λ v. v.items) w.out-is ∙ w.in_ok-answer.ensures ∙ ap (λ b. if b then c.args.out.now.items else answers sync_refused c.args.self.now.members c.args.out.now.items) w.if-not-is_joining.ensures
      | else-not-is_joining w ↦ ap (λ v. v.items) w.out-is ∙ ap (λ b. if b then c.args.out.now.items else answers sync_refused c.args.self.now.members c.args.out.now.items) w.if-not-is_joining.ensures
    ] in
    entry_released clock c.args.self.now c.args.out.now.items _ _ mid (ap (λ b. if b then (ended clock (record { group = c.args.self.now; released = c.if-not-is_joining.out.items })).released else c.if-not-is_joining.out.items) c.if-all_join.ensures)
