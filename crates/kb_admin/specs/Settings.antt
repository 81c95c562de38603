-- A setting of a topic, as the words of a command line say it.
use Rattle.std.specs.Prelude.{◌≡◌, ◌<◌, ◌⊎◌, ◌==◌, ℕ, List, length, Option, Some, None}
use Rattle.std.specs.List.{before_first, after_first, position_or_len}
use Rattle.kb_admin.specs.declared.task.Setting.{Setting}

-- the text before the first `=`, and behind it
abbrev pub key_of : List ℕ → List ℕ
key_of text = before_first (λ b. b == 61) text

abbrev pub value_of : List ℕ → List ℕ
value_of text = after_first (λ b. b == 61) text

-- the place of the first `=`, or the length where there is none
abbrev pub place_of_equals : List ℕ → ℕ
place_of_equals text = position_or_len (λ b. b == 61) text

-- What KEY=VALUE says, or that it says nothing.
abbrev pub SaysSetting : List ℕ → Option Setting → Type 0
SaysSetting text None = (place_of_equals text ≡ length text) ⊎ (255 < length (key_of text)) ⊎ (255 < length (value_of text))
SaysSetting text (Some s) = (place_of_equals text < length text) × (s.key ≡ key_of text) × (s.value ≡ value_of text)
