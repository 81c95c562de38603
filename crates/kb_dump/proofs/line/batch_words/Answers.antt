use Rattle.std.proofs.Common.{ap, decimal}
use Rattle.std.specs.Int.{w64}
use Rattle.std.specs.Fmt.{signed_decimal}
use Rattle.std.proofs.lemmas.Int.{to_z-of_z}
use Rattle.kb_dump.proofs.Words.{spelled, batch_words}
use Rattle.kb_dump.proofs.line.batch_words.Goals as goal

pub returns : goal.returns
returns c =
    let base = ap signed_decimal (to_z-of_z w64 c.args.base c.ranges.base) in
    spelled _ _ _ c.format.ensures.ok (rw base (batch_words (signed_decimal c.args.base) (decimal c.args.count) (decimal c.args.size)))
