use Rattle.std.proofs.Common.{◌≡◌, ◌∙◌, ap, ap₂, codes, true}
use Rattle.std.proofs.lemmas.Result.{IfOk-weaker}
use Rattle.clap.specs.Words.{App, app_of, new_app, with_subcommand}
use Rattle.clap.specs.Simple.{app_of_fields, on_top}
use Rattle.kconsole.specs.Usage.{produce}
use Rattle.kconsole.proofs.console.ConsoleLine.command.Goals as goal

abbrev top : App
top = on_top (λ s. record s { has_version = true; subcommand_required = true }) (new_app (codes "kconsole"))

pub returns : goal.returns
returns c =
    let told : app_of c.about.result ≡ new_app (codes "kconsole") = ap app_of_fields c.about.ensures ∙ c.new.ensures.app in
    let versioned : app_of c.version.result ≡ on_top (λ s. record s { has_version = true }) (new_app (codes "kconsole")) =
    ap app_of_fields c.version.ensures ∙ ap (on_top (λ s. record s { has_version = true })) told in
    let asked : app_of c.subcommand_required.result ≡ top =
    ap app_of_fields c.subcommand_required.ensures ∙ ap (on_top (λ s. record s { subcommand_required = true })) versioned in
    let first : app_of c.in_ok-subcommand.field-0 ≡ with_subcommand top produce =
    c.in_ok-subcommand.ensures.shape c.in_ok-produce.ensures.1 ∙ ap₂ with_subcommand asked (ap (λ (a : App). a.top) c.in_ok-produce.ensures.0) in
    IfOk-weaker c.subcommand-2.result _ _ (λ new h.
    h.shape c.in_ok-consume.ensures.1 ∙ ap₂ with_subcommand first (ap (λ (a : App). a.top) c.in_ok-consume.ensures.0)) c.subcommand-2.ensures
