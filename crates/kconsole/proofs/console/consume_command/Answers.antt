use Rattle.std.proofs.Common.{◌∷◌, [], ap, codes}
use Rattle.std.specs.Prelude.{fold}
use Rattle.std.proofs.lemmas.Result.{IfOk-weaker}
use Rattle.clap.specs.Words.{App, Rule, new_app, rule_of, with_rule}
use Rattle.clap.specs.declared.builder.arg.Arg.{Arg}
use Rattle.clap.specs.Simple.{app_of_fields}
use Rattle.clap.specs.declared.builder.command.Command.TheOpen.{Command-F}
use Rattle.clap.specs.declared.builder.command.Command.{Command}
use Rattle.kconsole.specs.Usage.{IsArg, flag, option, or_else, partition_rules}
use Rattle.kconsole.proofs.Building.{begun, default_is, grown}
use Rattle.kconsole.proofs.console.consume_command.Goals as goal

abbrev from : Rule
from = or_else (codes "from") (codes "0")

abbrev max : Rule
max = option (codes "max")

abbrev follow : Rule
follow = flag (codes "follow")

abbrev shared : App
shared = fold with_rule (new_app (codes "consume")) partition_rules

pub returns : goal.returns
returns c =
    let name = codes "consume" in
    let start = begun c.new.result c.about-command.result name c.new.ensures.app c.new.ensures.local
    (ap app_of_fields c.about-command.ensures) (ap (λ (f : Command-F Command). f.has_globals) c.about-command.ensures) in
    let from_is : IsArg c.default_value-from.result from =
    default_is c.text.result c.default_value-from.result (codes "from") (codes "0") c.text.ensures
    (ap rule_of c.default_value-from.ensures) (ap (λ (a : Arg). a.global) c.default_value-from.ensures) in
    let first = grown c.about-command.result c.in_ok-partition_args.field-0 (new_app name) partition_rules start c.in_ok-partition_args.ensures in
    let second = grown c.in_ok-partition_args.field-0 c.in_ok-command.command shared (from ∷ []) first (c.in_ok-command.ensures from from_is) in
    let third = grown c.in_ok-command.command c.in_ok-with.field-0 (fold with_rule shared (from ∷ [])) (max ∷ []) second
    (c.in_ok-with.ensures max c.text-max.ensures) in
    IfOk-weaker c.with-3.result _ _ (λ new h.
    grown c.in_ok-with.field-0 new (fold with_rule shared (from ∷ max ∷ [])) (follow ∷ []) third h)
    (c.with-3.ensures follow c.follow_arg.ensures)
