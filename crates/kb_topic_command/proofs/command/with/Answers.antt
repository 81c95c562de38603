use Rattle.std.proofs.Common.{◌≡◌, ◌∙◌, ◌||◌, Bool, true, false, ap, refl}
use Rattle.std.proofs.lemmas.Result.{IfOk-weaker}
use Rattle.clap.specs.Words.{app_of, with_rule}
use Rattle.clap.specs.declared.builder.command.Command.TheViews.{out-Command}
use Rattle.kb_topic_command.proofs.command.with.Goals as goal

or_false : (b : Bool) → (b || false) ≡ b
or_false true = refl
or_false false = refl

pub returns : goal.returns
returns c = λ rule is. IfOk-weaker c.arg.result _ _ (λ new h. (
  h.shape is.1 ∙ ap (with_rule (app_of c.args.command)) is.0,
  h.globals ∙ ap (λ b. (out-Command c.args.command).has_globals || b) is.1 ∙ or_false (out-Command c.args.command).has_globals,
)) c.arg.ensures
