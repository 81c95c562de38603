use Rattle.kb_wire.proofs.varint.+groups_len.Given as goal

abbrev pub decreases-groups_len : goal.decreases-groups_len
decreases-groups_len l = l.limit
