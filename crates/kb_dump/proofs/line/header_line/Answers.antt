use Rattle.std.proofs.Common.{◌∙◌, ap, decimal}
use Rattle.std.specs.Int.{w64}
use Rattle.std.specs.Fmt.{signed_decimal}
use Rattle.std.proofs.lemmas.Int.{to_z-of_z}
use Rattle.kb_dump.specs.Dump.{kind_text}
use Rattle.kb_dump.proofs.Words.{spelled, header_words}
use Rattle.kb_dump.proofs.line.header_line.Goals as goal

pub returns : goal.returns
returns c =
    let base = ap signed_decimal (to_z-of_z w64 c.base-base.result (record { sfits = c.base-base.type_inv }) ∙ c.base-base.ensures) in
    spelled _ _ _ c.format.ensures.ok (rw (base, c.tenant-tenant.ensures.value, c.in_ok-kind.ensures) (header_words (decimal c.args.number) c.args.header.now.tenant (kind_text c.args.header.now) (signed_decimal c.args.header.now.base)))
