use Rattle.std.proofs.Common.{◌≡◌, ◌∙◌, ◌++◌, ℕ, List, ap, append_assoc, codes, subst, sym}
use Rattle.std.specs.Prelude.{IfOk, string_bytes}
use Rattle.kb_topic_command.proofs.texts.topic_line.Goals as goal

-- the words of the line, one behind the other
words : (name has : List ℕ) → name ++ (codes " " ++ (has ++ codes "\n")) ≡ name ++ codes " " ++ has ++ codes "\n"
words name has = sym (simp append_assoc)

pub returns : goal.returns
returns c =
    let topic = c.args.topic.now in
    let line = words c.name-name.result.now (string_bytes c.in_ok-has.has)
    ∙ ap (λ n. n ++ codes " " ++ string_bytes c.in_ok-has.has ++ codes "\n") c.name-name.ensures
    ∙ ap (λ h. topic.name ++ codes " " ++ h ++ codes "\n") c.in_ok-has.ensures in
    subst (λ text. IfOk c.format.result (λ line. string_bytes line ≡ text)) line c.format.ensures.ok
