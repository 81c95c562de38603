use Rattle.std.proofs.Common.{◌≡◌, map, take}
use Rattle.kb_operator.specs.Known.{known_account, known_user}
use Rattle.kb_operator.proofs.journal.users_of.Given as goal

-- the users so far are known
abbrev pub invariant-loop-user : goal.invariant-loop-user
invariant-loop-user l = map known_account l.users.items ≡ map known_user (take l.user-index l.user-items)
