use Rattle.std.proofs.Common.{◌≡◌, ◌<◌, ◌∙◌, length, vec_len, ap, arith}
use Rattle.std.proofs.lemmas.Bool.Decides.{nat_tests}
use Rattle.std.specs.Net.ToAddrs.{host_addrs}
use Rattle.kb_node.proofs.Found.{as_many}
use Rattle.kb_node.proofs.doors.Doors.open.Goals as goal

pub returns-clause-spelled : goal.returns-clause-spelled
returns-clause-spelled g c = λ at text.
    let one = c.in-Ok.ensures.gives at text in
    let came = as_many c.loop-address.yielded c.into_iter-address-iterator.result c.loop-address.address-iterator c.loop-address.yielded_by in
    let same = ap host_addrs c.into_iter-address-iterator.ensures.into_iter_gives in
    let some : 0 < vec_len c.loop-address.doors.listeners = grind (arith, nat_tests, c.is_empty.ensures, c.if-is_empty.false) in
    omega (arith, some, c.loop-address.invariant.1, came, ap length (same ∙ one.1))
