use Rattle.std.proofs.Common.{◌≡◌, ◌∙◌, Option, Some, None, ap, ap₂, sym, true, false, true≢false, option_map}
use Rattle.std.specs.Prelude.{is_some, unwrap_or}
use Rattle.std.proofs.lemmas.Result.{IfOk-weaker}
use Rattle.clap.specs.Words.{App, app_of, found_of, is_simple, rows_of, subcommand_of, subcommand_rows_of}
use Rattle.clap.specs.Walk.{texts}
use Rattle.kconsole.specs.Usage.{console}
use Rattle.kconsole.proofs.console.ConsoleLine.read.Goals as goal

pair_of : {X A B : Type 0} (f : X → A × B) (o : Option X) (a : A) (b : B) → Some a ≡ option_map (λ x. (f x).0) o
    → Some b ≡ option_map (λ p. p.1) (option_map f o) → option_map f o ≡ Some (a, b)
pair_of f None a b ea eb = absurd (true≢false (ap is_some ea))
pair_of f (Some x) a b ea eb = ap₂ (λ u v. Some (u, v)) (sym (ap (λ o. unwrap_or o a) ea)) (sym (ap (λ o. unwrap_or o b) eb))

pub returns-in-Some-clause-words : goal.returns-in-Some-clause-words
returns-in-Some-clause-words c =
    let words = texts c.args.words.now in
    let app_is : app_of c.in_ok-command.field-0 ≡ console = c.in_ok-command.ensures in
    let found : subcommand_rows_of c.in_ok-matches.matches ≡ subcommand_of console words =
    (c.in_ok-matches.ensures.matches (ap is_simple app_is)).1 ∙ ap (λ (a : App). subcommand_of a words) app_is in
    let rows = rows_of (found_of c.in-Some.found.now) in
    let met : subcommand_rows_of c.in_ok-matches.matches ≡ Some (c.in-Some.name.now, rows) =
    pair_of _ _ c.in-Some.name.now rows c.in-Some.ensures.name c.in-Some.ensures.rows in
    IfOk-weaker c.line_of.result _ _ (λ line h. (c.in-Some.name.now, rows, sym found ∙ met, h)) c.line_of.ensures
