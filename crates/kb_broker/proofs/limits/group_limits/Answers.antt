use Rattle.kb_broker.proofs.limits.group_limits.Goals as goal
