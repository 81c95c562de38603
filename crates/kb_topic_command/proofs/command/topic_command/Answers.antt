use Rattle.std.proofs.Common.{◌≡◌, ◌∙◌, ap, ap₂, codes, true}
use Rattle.std.proofs.lemmas.Result.{IfOk-weaker}
use Rattle.clap.specs.Words.{App, app_of, new_app, with_subcommand}
use Rattle.clap.specs.Simple.{app_of_fields, on_top}
use Rattle.kb_topic_command.specs.Usage.{create, delete}
use Rattle.kb_topic_command.proofs.command.topic_command.Goals as goal

abbrev top : App
top = on_top (λ s. record s { subcommand_required = true }) (new_app (codes "topic"))

pub returns : goal.returns
returns c =
    let told : app_of c.about.result ≡ new_app (codes "topic") = ap app_of_fields c.about.ensures ∙ c.new.ensures.app in
    let asked : app_of c.subcommand_required.result ≡ top =
    ap app_of_fields c.subcommand_required.ensures ∙ ap (on_top (λ s. record s { subcommand_required = true })) told in
    let first : app_of c.in_ok-subcommand.field-0 ≡ with_subcommand top create =
    c.in_ok-subcommand.ensures.shape c.in_ok-create.ensures.1 ∙ ap₂ with_subcommand asked (ap (λ (a : App). a.top) c.in_ok-create.ensures.0) in
    let second : app_of c.in_ok-subcommand-2.field-0 ≡ with_subcommand (with_subcommand top create) delete =
    c.in_ok-subcommand-2.ensures.shape c.in_ok-delete.ensures.1 ∙ ap₂ with_subcommand first (ap (λ (a : App). a.top) c.in_ok-delete.ensures.0) in
    IfOk-weaker c.subcommand-3.result _ _ (λ new h.
    h.shape c.in_ok-list.ensures.1 ∙ ap₂ with_subcommand second (ap (λ (a : App). a.top) c.in_ok-list.ensures.0)) c.subcommand-3.ensures
