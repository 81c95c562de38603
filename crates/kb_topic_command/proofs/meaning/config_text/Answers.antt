use Rattle.std.proofs.Common.{◌≡◌, ◌∙◌, ◌++◌, ℕ, List, ap, append_assoc, codes, subst, sym}
use Rattle.std.specs.Prelude.{IfOk, Some, string_bytes}
use Rattle.kb_topics.specs.ConfigReading.{entry_of}
use Rattle.kb_topic_command.specs.Meaning.{config_text, wrong_with}
use Rattle.kb_topic_command.proofs.meaning.config_text.Goals as goal

-- the words of the text, one behind the other
words : (key value why : List ℕ) → codes ": --config " ++ (key ++ (codes "=" ++ (value ++ (codes ": " ++ why))))
    ≡ codes ": --config " ++ key ++ codes "=" ++ value ++ codes ": " ++ why
words key value why = sym (simp append_assoc)

-- the text of a setting
text_of : List ℕ → List ℕ → List ℕ
text_of key value = codes ": --config " ++ key ++ codes "=" ++ value ++ codes ": " ++ wrong_with key (entry_of key (Some value))

pub returns : goal.returns
unfolding text_of
returns c =
    let key = c.as_str-key.result.now in
    let value = c.as_str-value.result.now in
    let s = c.in-Some.first.now in
    let line = words key value c.wrong_with-why.result.now
    ∙ ap (λ x. codes ": --config " ++ key ++ codes "=" ++ value ++ codes ": " ++ x) c.wrong_with-why.ensures
    ∙ ap (λ k. text_of k value) c.as_str-key.ensures.value
    ∙ ap (text_of s.key) c.as_str-value.ensures.value
    ∙ ap config_text (sym c.in-Some.ensures.cases.0) in
    subst (λ text. IfOk c.format.result (λ it. string_bytes it ≡ text)) line c.format.ensures.ok
