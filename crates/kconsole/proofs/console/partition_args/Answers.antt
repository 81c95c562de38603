use Rattle.std.proofs.Common.{◌∷◌, ◌++◌, [], List, ap, codes}
use Rattle.std.proofs.lemmas.Result.{IfOk-weaker}
use Rattle.clap.specs.Words.{Rule, rule_of}
use Rattle.clap.specs.declared.builder.arg.Arg.{Arg}
use Rattle.kconsole.specs.Usage.{IsArg, needed, or_else}
use Rattle.kconsole.proofs.Building.{added, default_is, required_is}
use Rattle.kconsole.proofs.console.partition_args.Goals as goal

abbrev front : List Rule
front = needed (codes "broker") ∷ needed (codes "user") ∷ needed (codes "password") ∷ []

abbrev topic : Rule
topic = needed (codes "topic")

abbrev partition : Rule
partition = or_else (codes "partition") (codes "0")

abbrev retries : Rule
retries = or_else (codes "retries") (codes "3")

pub returns : goal.returns
returns c =
    let topic_is : IsArg c.required-topic.result topic =
    required_is c.text.result c.required-topic.result (codes "topic") c.text.ensures c.required-topic.ensures in
    let partition_is : IsArg c.default_value-partition.result partition =
    default_is c.text-2.result c.default_value-partition.result (codes "partition") (codes "0") c.text-2.ensures
    (ap rule_of c.default_value-partition.ensures) (ap (λ (a : Arg). a.global) c.default_value-partition.ensures) in
    let retries_is : IsArg c.default_value.result retries =
    default_is c.text-retries.result c.default_value.result (codes "retries") (codes "3") c.text-retries.ensures
    (ap rule_of c.default_value.ensures) (ap (λ (a : Arg). a.global) c.default_value.ensures) in
    let first = added c.args.command c.in_ok-broker_args.field-0 c.in_ok-command.command front (topic ∷ [])
    c.in_ok-broker_args.ensures (c.in_ok-command.ensures topic topic_is) in
    let second = added c.args.command c.in_ok-command.command c.in_ok-with.field-0 (front ++ topic ∷ []) (partition ∷ [])
    first (c.in_ok-with.ensures partition partition_is) in
    IfOk-weaker c.with-3.result _ _ (λ new third.
    added c.args.command c.in_ok-with.field-0 new (front ++ topic ∷ partition ∷ []) (retries ∷ []) second third)
    (c.with-3.ensures retries retries_is)
