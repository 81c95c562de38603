use Rattle.kb_isolation_spec.proofs.promises.nodes_are_a_tenants_own.Goals as goal

pub returns : goal.returns
returns c = λ a b tenant versions users node limit. cc
