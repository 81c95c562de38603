use Rattle.std.proofs.Common.{map, sym, ap, subst}
use Rattle.std.specs.Prelude.{IfOk}
use Rattle.std.specs.Option.{option_copied}
use Rattle.kb_metrics.specs.Slots.{AreOffsets}
use Rattle.kb_metrics.proofs.lag.offsets_in.Goals as goal

pub returns-in-Some : goal.returns-in-Some
returns-in-Some c =
    subst (λ p. IfOk c.offsets_of.result (λ offsets. AreOffsets (map (λ g. g.now) c.args.groups.now) p offsets.items))
    (ap option_copied (sym c.in-Some.is)) c.offsets_of.ensures
