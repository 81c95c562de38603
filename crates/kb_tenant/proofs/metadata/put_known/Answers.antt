use Rattle.std.proofs.Common.{◌∙◌, sym, subst, ◌<◌, ◌^◌, length, arith}
use Rattle.kb_wire.specs.Fits.{string_fits}
use Rattle.kb_tenant.proofs.metadata.put_known.Goals as goal

pub put_topic-requires : goal.put_topic-requires
put_topic-requires c =
    let small : length c.name.result.now < 2 ^ 15 = omega (arith, c.if-name.false) in
    string_fits c.name-2.result.now (subst (λ n. length n < 2 ^ 15) (c.name.ensures ∙ sym c.name-2.ensures) small)
