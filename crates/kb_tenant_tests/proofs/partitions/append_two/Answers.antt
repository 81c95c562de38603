use Rattle.kb_tenant_tests.proofs.partitions.append_two.Goals as goal

pub append-requires : goal.append-requires
append-requires g c = c.requires _ _
