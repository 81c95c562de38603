use Rattle.std.proofs.Common.{ap, codes}
use Rattle.std.proofs.lemmas.Result.{IfOk-weaker}
use Rattle.clap.specs.Words.{new_app}
use Rattle.clap.specs.Simple.{app_of_fields}
use Rattle.clap.specs.declared.builder.command.Command.TheOpen.{Command-F}
use Rattle.clap.specs.declared.builder.command.Command.{Command}
use Rattle.kb_topic_command.specs.Usage.{broker_rules}
use Rattle.kb_topic_command.proofs.Building.{begun, grown}
use Rattle.kb_topic_command.proofs.command.list_command.Goals as goal

pub returns : goal.returns
returns c =
    let name = codes "list" in
    let start = begun c.new.result c.about-command.result name c.new.ensures.app c.new.ensures.local
    (ap app_of_fields c.about-command.ensures) (ap (λ (f : Command-F Command). f.has_globals) c.about-command.ensures) in
    IfOk-weaker c.broker_args.result _ _ (λ new h. grown c.about-command.result new (new_app name) broker_rules start h) c.broker_args.ensures
