use Rattle.std.proofs.Common.{◌∙◌, ℕ, List, [], Bor, ap, sym}
use Rattle.std.specs.Prelude.{option_map, unwrap_or}
use Rattle.kb_topic_command.proofs.Said.{text_found}
use Rattle.kb_topic_command.proofs.words.value.Goals as goal

pub returns-in-Some : goal.returns-in-Some
returns-in-Some c =
    ap (λ o. unwrap_or (option_map (λ (t : Bor (List ℕ)). t.now) o) []) (sym c.in-Some.is)
    ∙ text_found c.args.found.now c.args.name.now c.get_str.result c.get_str.ensures

pub returns-in-None : goal.returns-in-None
returns-in-None c =
    ap (λ o. unwrap_or (option_map (λ (t : Bor (List ℕ)). t.now) o) []) (sym c.in-None.is)
    ∙ text_found c.args.found.now c.args.name.now c.get_str.result c.get_str.ensures
