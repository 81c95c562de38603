use Rattle.std.proofs.Common.{◌≡◌, ◌∙◌, ◌<◌, ◌^◌, ◌-◌, ◌++◌, length, drop, take, sym, ap, arith}
use Rattle.std.proofs.lemmas.Bool.Decides.{nat_tests}
use Rattle.std.proofs.Math.Seq.{take-append_seam}
use Rattle.kb_tenant.specs.Replies.{framed, reply_size}
use Rattle.kb_tenant.proofs.Framing.{sized}
use Rattle.kb_tenant.proofs.answer.finish.Goals as goal

pub returns : goal.returns
returns c = λ id body is.
    let new = c.set_size.new.bytes in
    let whole : new ≡ framed id body = c.set_size.ensures.whole id body (c.deref_mut.ensures.value ∙ c.into_vec-bytes.ensures.bytes ∙ is) in
    let size : length c.args.sink.bytes - 4 ≡ reply_size body = sized id body c.args.sink.bytes is in
    let small : reply_size body < 2 ^ 31 = grind (arith, nat_tests, size, c.if-len-lt4.false, c.if-len.false, c.len.ensures, c.len-else-len-lt4.ensures, c.into_vec-bytes.ensures.bytes) in
    let len : c.into_vec-bytes.result.len ≡ length new = (sym c.deref_mut.ensures.len ∙ sym c.set_size.ensures.len) in
    (small, ap (λ n. take n (new ++ drop (length new) c.into_vec-bytes.result.items)) len ∙ take-append_seam new (drop (length new) c.into_vec-bytes.result.items) ∙ whole)
