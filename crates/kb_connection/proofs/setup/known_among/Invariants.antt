use Rattle.std.proofs.Common.{◌≡◌, drop}
use Rattle.kb_isolation_spec.specs.Greeting.{known_from}
use Rattle.kb_connection.proofs.setup.known_among.Given as goal

-- the users that are left have the answer
abbrev pub invariant-loop-user : goal.invariant-loop-user
invariant-loop-user l = known_from l.user (drop l.user l.accounts) l.name l.password ≡ known_from 0 l.fn.accounts l.fn.name l.fn.password
