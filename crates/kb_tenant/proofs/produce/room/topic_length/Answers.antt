use Rattle.std.proofs.Common.{arith, ap, length}
use Rattle.kb_tenant.proofs.Room.{few_entries, short_name}
use Rattle.kb_tenant.proofs.produce.room.topic_length.Goals as goal

pub entries_length-requires : goal.entries_length-requires
entries_length-requires c = omega (arith, c.len.ensures, few_entries c.args.topic.now c.requires)

pub overflow_add-result-3 : goal.overflow_add-result-3
overflow_add-result-3 c = record { fits = omega (arith, c.entries_length.ensures.small, ap length c.as_str.ensures, short_name c.args.topic.now c.requires) }
