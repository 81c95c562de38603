use Rattle.kb_connection.proofs.Appended.{throttled-is}
use Rattle.kb_connection.proofs.reply.throttle_time.Goals as goal

pub returns-then-head-clause-bytes : goal.returns-then-head-clause-bytes
returns-then-head-clause-bytes c = λ body. throttled-is c.args.head body c.if-head.true
