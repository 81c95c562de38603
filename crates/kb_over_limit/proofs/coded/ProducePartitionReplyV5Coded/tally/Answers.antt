use Rattle.kb_over_limit.proofs.coded.ProducePartitionReplyV5Coded.tally.Goals as goal

pub returns : goal.returns
returns c = (c.in_ok-entry.entry, c.in_ok-entry.ensures, c.note.ensures)
