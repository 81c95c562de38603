-- What a log is told, line by line.
use Rattle.std.specs.Prelude.{◌≡◌, ◌≢◌, ◌++◌, ℕ, List, [], ◌∷◌, Option, Some, None, Result, Ok, Err, map, string_bytes, option_map, IsSome}
use Rattle.std.specs.declared.string.String.{String}
use Rattle.std.specs.declared.vec.Vec.{Vec}

-- a line: the moment in front of it, if one stands there, and its text, or that there was no memory for it
pub record LogLine : Type 0 where
  pub moment : Option ℕ
  pub text : Option (List ℕ)

-- a text as it is told, or that there was no memory for it
abbrev pub text_in : {A E : Type 0} → Result (String A) E → Option (List ℕ)
text_in (Ok text) = Some (string_bytes text)
text_in (Err e) = None

-- its bytes, and none where there was no memory for it
abbrev pub bytes_or_none : {A E : Type 0} → Result (String A) E → List ℕ
bytes_or_none (Ok text) = string_bytes text
bytes_or_none (Err e) = []

-- known lines grow by some
abbrev pub Grows : Option (List LogLine) → Option (List LogLine) → List LogLine → Type 0
Grows None new lines = Unit {0}
Grows (Some xs) None lines = ⊥
Grows (Some xs) (Some ys) lines = ys ≡ xs ++ lines

-- a text is told, unless there was no memory for it
abbrev pub IsText : List ℕ → Option (List ℕ) → Type 0
IsText text None = Unit {0}
IsText text (Some told) = told ≡ text

-- a line for each of some texts, in order
abbrev pub AreLines : Option ℕ → List (List ℕ) → List LogLine → Type 0
AreLines moment [] [] = Unit {0}
AreLines moment [] (line ∷ lines) = ⊥
AreLines moment (text ∷ texts) [] = ⊥
AreLines moment (text ∷ texts) (line ∷ lines) = (line.moment ≡ moment) × IsText text line.text × AreLines moment texts lines

-- A log is told these texts, with that in front of each, and nothing else.
pub record TellsBehind (moment : Option ℕ) (texts : List (List ℕ)) (old new : Option (List LogLine)) : Type 0 where
  pub lines : List LogLine
  pub are : AreLines moment texts lines
  pub grown : Grows old new lines

-- .. at a moment
abbrev pub TellsTexts : ℕ → List (List ℕ) → Option (List LogLine) → Option (List LogLine) → Type 0
TellsTexts now = TellsBehind (Some now)

-- .. without one
abbrev pub TellsBare : List (List ℕ) → Option (List LogLine) → Option (List LogLine) → Type 0
TellsBare = TellsBehind None

-- the text that there is
abbrev pub texts_of : Option (List ℕ) → List (List ℕ)
texts_of None = []
texts_of (Some text) = text ∷ []

-- a text or none was made, and memory ran out only for one
abbrev pub MakesText : {A E : Type 0} → Option (List ℕ) → Result (Option (String A)) E → Type 0
MakesText wanted (Ok made) = option_map string_bytes made ≡ wanted
MakesText wanted (Err e) = IsSome wanted

-- the same of some texts, one behind the other
abbrev pub MakesTexts : {A B E : Type 0} → List (List ℕ) → Result (Vec (String A) B) E → Type 0
MakesTexts wanted (Ok made) = map (λ text. string_bytes text) made.items ≡ wanted
MakesTexts wanted (Err e) = wanted ≢ []

-- the lines of some texts at a moment, each whole
abbrev pub lines_at : ℕ → List (List ℕ) → List LogLine
lines_at now = map (λ text. record { moment = Some now; text = Some text })

-- the line of a text for which there was no memory
abbrev pub missed_at : ℕ → LogLine
missed_at now = record { moment = Some now; text = None }
