use Rattle.std.proofs.Common.{◌∙◌, append_assoc, codes, sym}
use Rattle.std.specs.Prelude.{string_bytes}
use Rattle.std.proofs.lemmas.Result.{IfOk-weaker}
use Rattle.kb_topic_command.proofs.why_not.Goals as goal

pub returns : goal.returns
returns c =
    let reason = string_bytes c.in_ok-reason.reason in
    IfOk-weaker c.format.result _ _
    (λ why is. record { reason = reason; told = is ∙ sym (append_assoc c.args.address.now (codes ": ") reason) }) c.format.ensures.ok
