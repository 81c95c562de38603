use Rattle.std.proofs.Common.{◌≡◌, ◌<◌, ◌≤◌, ◌++◌, length, arith, subst, sym}
use Rattle.kb_tenant.specs.Replies.{begun, most_bytes, IsAnswer}
use Rattle.kb_tenant.proofs.Framing.{within_shut, within_whole}
use Rattle.kb_tenant.proofs.Until.{until_long, until_same}
use Rattle.kb_tenant.proofs.answer.finish_within.Goals as goal

pub returns-then-len-most_bytes : goal.returns-then-len-most_bytes
returns-then-len-most_bytes c = λ id body until.
    let most = most_bytes c.args.limit in
    let many : most < length c.args.sink.bytes = omega (arith, c.if-len-most_bytes.true, c.len.ensures, c.most_bytes.ensures) in
    within_shut c.args.limit id body (until_long most (begun id ++ body) c.args.sink.bytes many until)

pub returns : goal.returns
returns c = λ id body until.
    let most = most_bytes c.args.limit in
    let few : length c.args.sink.bytes ≤ most = omega (arith, c.if-len-most_bytes.false, c.len.ensures, c.most_bytes.ensures) in
    let same : c.args.sink.bytes ≡ begun id ++ body = until_same most (begun id ++ body) c.args.sink.bytes few until in
    let short : length (begun id ++ body) ≤ most = subst (λ s. length s ≤ most) same few in
    subst (λ r. IsAnswer id r c.finish.result) (sym (within_whole c.args.limit id body short)) (c.finish.ensures id body same)
