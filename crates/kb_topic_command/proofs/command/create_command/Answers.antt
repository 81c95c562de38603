use Rattle.std.proofs.Common.{◌∷◌, [], ap, codes}
use Rattle.std.specs.Prelude.{fold}
use Rattle.std.proofs.lemmas.Result.{IfOk-weaker}
use Rattle.clap.specs.Words.{App, Rule, new_app, rule_of, with_rule}
use Rattle.clap.specs.declared.builder.arg.Arg.{Arg}
use Rattle.clap.specs.Simple.{app_of_fields}
use Rattle.clap.specs.declared.builder.command.Command.TheOpen.{Command-F}
use Rattle.clap.specs.declared.builder.command.Command.{Command}
use Rattle.kb_topic_command.specs.Usage.{IsArg, broker_rules, or_else, repeated, topic_name}
use Rattle.kb_topic_command.proofs.Building.{begun, default_is, grown, repeated_is}
use Rattle.kb_topic_command.proofs.command.create_command.Goals as goal

abbrev partitions : Rule
partitions = or_else (codes "partitions") (codes "1")

abbrev config : Rule
config = repeated (codes "config")

abbrev shared : App
shared = fold with_rule (new_app (codes "create")) broker_rules

pub returns : goal.returns
returns c =
    let name = codes "create" in
    let start = begun c.new.result c.about-command.result name c.new.ensures.app c.new.ensures.local
    (ap app_of_fields c.about-command.ensures) (ap (λ (f : Command-F Command). f.has_globals) c.about-command.ensures) in
    let partitions_is : IsArg c.default_value-partitions.result partitions =
    default_is c.text.result c.default_value-partitions.result (codes "partitions") (codes "1") c.text.ensures
    (ap rule_of c.default_value-partitions.ensures) (ap (λ (a : Arg). a.global) c.default_value-partitions.ensures) in
    let config_is : IsArg c.action.result config =
    repeated_is c.text-config.result c.action.result (codes "config") c.text-config.ensures c.action.ensures in
    let first = grown c.about-command.result c.in_ok-broker_args.field-0 (new_app name) broker_rules start c.in_ok-broker_args.ensures in
    let second = grown c.in_ok-broker_args.field-0 c.in_ok-command.command shared (topic_name ∷ []) first
    (c.in_ok-command.ensures topic_name c.name.ensures) in
    let third = grown c.in_ok-command.command c.in_ok-with.field-0 (fold with_rule shared (topic_name ∷ [])) (partitions ∷ []) second
    (c.in_ok-with.ensures partitions partitions_is) in
    IfOk-weaker c.with-3.result _ _ (λ new h.
    grown c.in_ok-with.field-0 new (fold with_rule shared (topic_name ∷ partitions ∷ [])) (config ∷ []) third h)
    (c.with-3.ensures config config_is)
