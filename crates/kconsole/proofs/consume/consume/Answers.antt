use Rattle.std.specs.Int.{w64}
use Rattle.std.proofs.Common.{◌∙◌, ap, subst}
use Rattle.std.specs.Prelude.{ℤ}
use Rattle.std.proofs.lemmas.Int.{to_z-of_z}
use Rattle.std.proofs.lemmas.Result.{on_ok_weaker}
use Rattle.kb_client.specs.Consumer.{new_consumer}
use Rattle.kconsole.specs.Console.{target_of}
use Rattle.kconsole.specs.Printing.{PrintsAll}
use Rattle.kconsole.proofs.consume.consume.Goals as goal

pub returns : goal.returns
returns g c =
    let made = c.in_ok-core.ensures.core
    ∙ ap (λ (from : ℤ). new_consumer (target_of c.args.line) from c.args.max c.args.follow) (to_z-of_z w64 c.args.from c.ranges.from) in
    on_ok_weaker c.print_all.result (λ h.
    subst (λ x. PrintsAll x (g.W.Write.contents c.args.writer.now) (g.W.Write.contents c.print_all.new.writer)) made h)
    c.print_all.ensures
