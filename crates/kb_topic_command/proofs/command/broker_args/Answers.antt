use Rattle.std.proofs.Common.{◌∷◌, [], codes}
use Rattle.std.proofs.lemmas.Result.{IfOk-weaker}
use Rattle.kb_topic_command.specs.Usage.{IsArg, needed}
use Rattle.kb_topic_command.proofs.Building.{added, required_is}
use Rattle.kb_topic_command.proofs.command.broker_args.Goals as goal

pub returns : goal.returns
returns c =
    let broker : IsArg c.required-broker.result (needed (codes "broker")) =
    required_is c.text.result c.required-broker.result (codes "broker") c.text.ensures c.required-broker.ensures in
    let user : IsArg c.required-user.result (needed (codes "user")) =
    required_is c.text-2.result c.required-user.result (codes "user") c.text-2.ensures c.required-user.ensures in
    let password : IsArg c.required-password.result (needed (codes "password")) =
    required_is c.text-3.result c.required-password.result (codes "password") c.text-3.ensures c.required-password.ensures in
    let first = c.in_ok-with.ensures (needed (codes "broker")) broker in
    let second = c.in_ok-with-2.ensures (needed (codes "user")) user in
    let both = added c.args.command c.in_ok-with.field-0 c.in_ok-with-2.field-0 (needed (codes "broker") ∷ []) (needed (codes "user") ∷ []) first second in
    IfOk-weaker c.with-3.result _ _ (λ new third.
    added c.args.command c.in_ok-with-2.field-0 new (needed (codes "broker") ∷ needed (codes "user") ∷ []) (needed (codes "password") ∷ []) both third)
    (c.with-3.ensures (needed (codes "password")) password)
