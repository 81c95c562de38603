use Rattle.std.proofs.Common.{◌≡◌, map, take, string_bytes}
use Rattle.kb_settings.proofs.names.user_names.Given as goal

abbrev pub invariant-loop-user : goal.invariant-loop-user
invariant-loop-user l = map (λ name. name.now) l.names.items ≡ map (λ u. string_bytes u.name) (take l.user-index l.users)
