use Rattle.std.proofs.Common.{get_or, arith}
use Rattle.kb_wire.proofs.Groups.{one_group, one_more, ten_at_most}
use Rattle.kb_wire.proofs.varint.+groups_at.Goals as goal

pub returns-then-b-lt128-clause-below : goal.returns-then-b-lt128-clause-below
returns-then-b-lt128-clause-below t c = one_group c.args.limit (get_or c.args.bytes.now 0 0) (omega arith) c.if-b-lt128.true

pub overflow_mul-result : goal.overflow_mul-result
overflow_mul-result t c = let fits = ten_at_most c.args.limit c.in_ok-high-in-len1-up.high c.requires (omega arith) c.in_ok-high-in-len1-up.ensures.below in omega arith

pub overflow_add-result : goal.overflow_add-result
overflow_add-result t c = let fits = ten_at_most c.args.limit c.in_ok-high-in-len1-up.high c.requires (omega arith) c.in_ok-high-in-len1-up.ensures.below in omega arith

pub returns-in_ok-high-in-len1-up-clause-below : goal.returns-in_ok-high-in-len1-up-clause-below
returns-in_ok-high-in-len1-up-clause-below t c = one_more c.args.limit (get_or c.args.bytes.now 0 0) c.in_ok-high-in-len1-up.high (omega arith) c.in_ok-high-in-len1-up.ensures.below
