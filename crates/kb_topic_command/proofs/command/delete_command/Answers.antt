use Rattle.std.proofs.Common.{◌∷◌, [], ap, codes}
use Rattle.std.specs.Prelude.{fold}
use Rattle.std.proofs.lemmas.Result.{IfOk-weaker}
use Rattle.clap.specs.Words.{new_app, with_rule}
use Rattle.clap.specs.Simple.{app_of_fields}
use Rattle.clap.specs.declared.builder.command.Command.TheOpen.{Command-F}
use Rattle.clap.specs.declared.builder.command.Command.{Command}
use Rattle.kb_topic_command.specs.Usage.{broker_rules, topic_name}
use Rattle.kb_topic_command.proofs.Building.{begun, grown}
use Rattle.kb_topic_command.proofs.command.delete_command.Goals as goal

pub returns : goal.returns
returns c =
    let name = codes "delete" in
    let start = begun c.new.result c.about-command.result name c.new.ensures.app c.new.ensures.local
    (ap app_of_fields c.about-command.ensures) (ap (λ (f : Command-F Command). f.has_globals) c.about-command.ensures) in
    let shared = grown c.about-command.result c.in_ok-broker_args.field-0 (new_app name) broker_rules start c.in_ok-broker_args.ensures in
    IfOk-weaker c.with.result _ _ (λ new h.
    grown c.in_ok-broker_args.field-0 new (fold with_rule (new_app name) broker_rules) (topic_name ∷ []) shared h)
    (c.with.ensures topic_name c.name.ensures)
