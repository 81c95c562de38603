use Rattle.std.proofs.Common.{◌≡◌, ◌++◌, take, map}
use Rattle.kb_tenants.specs.Tenants.{connection_of}
use Rattle.kb_tenants.proofs.tenants.push_connections.Given as goal

abbrev pub invariant-loop-reply : goal.invariant-loop-reply
invariant-loop-reply l = l.numbers.items ≡ l.fn.numbers.items ++ map connection_of (take l.reply-index l.replies)
