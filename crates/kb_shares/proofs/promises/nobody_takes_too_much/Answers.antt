use Rattle.kb_shares.proofs.Limits.{limit-pieces, limit-taken}
use Rattle.kb_shares.proofs.Pieces.{held-pieces, held-taken}
use Rattle.kb_shares.proofs.promises.nobody_takes_too_much.Goals as goal

pub returns-clause-taken : goal.returns-clause-taken
returns-clause-taken c = held-taken

pub returns-clause-put : goal.returns-clause-put
returns-clause-put c = held-pieces

pub returns-clause-limit : goal.returns-clause-limit
returns-clause-limit c = limit-taken

pub returns-clause-put_limit : goal.returns-clause-put_limit
returns-clause-put_limit c = limit-pieces
