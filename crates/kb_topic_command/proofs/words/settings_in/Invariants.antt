use Rattle.std.proofs.Common.{ℕ, List, Bor, map, take}
use Rattle.kb_topic_command.specs.Words.{AreSaid}
use Rattle.kb_topic_command.proofs.words.settings_in.Given as goal

-- each text so far says a setting
abbrev pub invariant-loop-text : goal.invariant-loop-text
invariant-loop-text l = AreSaid (map (λ (t : Bor (List ℕ)). t.now) (take l.text-index l.texts)) l.settings.items
