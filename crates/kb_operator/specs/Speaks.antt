-- What a call tells a journal's lines, and what it leaves.
use Rattle.std.specs.Prelude.{◌≡◌, ℕ, List, true, false, Option}
use Rattle.kb_operator.specs.declared.journal.Journal.{Journal}
use Rattle.kb_operator.specs.Logged.{LogLine, TellsTexts}

-- These texts are told at a moment, a line each, and nothing else. A journal that is quiet tells nothing and stays as it is.
pub record Speaks {T : Type 0} (logged : T → Option (List LogLine)) (now : ℕ) (texts : List (List ℕ)) (left old new : Journal T) : Type 0 where
  pub quiet : old.is_quiet ≡ true → new ≡ old
  pub told : old.is_quiet ≡ false → TellsTexts now texts (logged old.lines) (logged new.lines)
  pub others : old.is_quiet ≡ false → new ≡ record left { lines = new.lines }

-- the same of a call that leaves all else as it was
abbrev pub Announces : {T : Type 0} → (T → Option (List LogLine)) → ℕ → List (List ℕ) → Journal T → Journal T → Type 0
Announces logged now texts old new = Speaks logged now texts old old new
