use Rattle.kb_groups.proofs.state.State.settle.Goals as goal

pub returns-then-all_join : goal.returns-then-all_join
returns-then-all_join c = λ r. rw (← c.if-all_join.ensures) (c.end_joining.ensures r)
