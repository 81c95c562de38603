use Rattle.std.proofs.Common.{◌≡◌, map, take}
use Rattle.kb_broker.specs.Opening.{login_of, tenants_of}
use Rattle.kb_broker.proofs.opening.logins_of.Given as goal

abbrev pub invariant-loop-user : goal.invariant-loop-user
invariant-loop-user l = l.logins.items ≡ map (login_of (tenants_of l.users)) (take l.user-index l.users)
