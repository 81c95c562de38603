-- A stream of frames in the words of the protocol, and how a feed takes them from it.
use Rattle.std.specs.Prelude.{◌≡◌, ◌<◌, ◌≤◌, ◌+◌, ◌⊎◌, ℕ, ℤ, pos, ◌<ℤ◌, List, [], ◌∷◌, ◌++◌, length}
use Rattle.kb_wire.specs.Codec.{int32, blob}
use Rattle.kb_api_group.specs.declared.frames.Next.{Next}
use Rattle.kb_api_group.specs.declared.frames.Next.TheVariants as answers
use Rattle.kb_api_group.specs.Frames.{Front, Whole, Partial, TooSmall, TooLarge, front}

-- what a feed answers of it
abbrev pub answer : Front → Next
answer (Whole frame rest) = answers.Frame frame
answer Partial = answers.More
answer TooSmall = answers.TooSmall
answer TooLarge = answers.TooLarge

-- what is left of the bytes once a whole frame in front is taken
abbrev pub behind : Front → List ℕ → List ℕ
behind (Whole frame rest) bytes = rest
behind Partial bytes = bytes
behind TooSmall bytes = bytes
behind TooLarge bytes = bytes

-- ---- the same in the words of the protocol

-- a size that a request may have, under that limit
abbrev pub IsSize : ℕ → ℕ → Type 0
IsSize limit n = (8 ≤ n) × (n ≤ limit)

-- the text of a frame: its size and its bytes
pub record IsFrame (limit : ℕ) (text frame : List ℕ) : Type 0 where
  pub size : IsSize limit (length frame)
  pub spelled : blob.Spells text frame

-- the number that the first four bytes spell
abbrev pub HasSize : List ℕ → ℤ → Type 0
HasSize bytes size = (head tail : List ℕ) × (bytes ≡ head ++ tail) × int32.Spells head size

-- fewer bytes than a size, or than the size calls for
abbrev pub IsPartial : ℕ → List ℕ → Type 0
IsPartial limit bytes = (length bytes < 4) ⊎ ((n : ℕ) × IsSize limit n × HasSize bytes (pos n) × (length bytes < n + 4))

-- What stands in front.
abbrev pub Fronts : ℕ → List ℕ → Front → Type 0
Fronts limit bytes (Whole frame rest) = (text : List ℕ) × IsFrame limit text frame × (bytes ≡ text ++ rest)
Fronts limit bytes Partial = IsPartial limit bytes
Fronts limit bytes TooSmall = (size : ℤ) × HasSize bytes size × (size <ℤ pos 8)
Fronts limit bytes TooLarge = (n : ℕ) × HasSize bytes (pos n) × (8 ≤ n) × (limit < n)

-- what more bytes make of it
abbrev pub with_more : ℕ → Front → List ℕ → List ℕ → Front
with_more limit (Whole frame rest) bytes more = Whole frame (rest ++ more)
with_more limit Partial bytes more = front limit (bytes ++ more)
with_more limit TooSmall bytes more = TooSmall
with_more limit TooLarge bytes more = TooLarge

-- no frame stands in front
abbrev pub IsStuck : ℕ → List ℕ → Type 0
IsStuck limit bytes = (frame rest : List ℕ) → front limit bytes ≡ Whole frame rest → ⊥

-- ---- whole streams

-- the stream is the frames, one after another, and then the rest
abbrev pub Splits : ℕ → List ℕ → List (List ℕ) → List ℕ → Type 0
Splits limit stream [] rest = stream ≡ rest
Splits limit stream (frame ∷ frames) rest =
    (text tail : List ℕ) × (stream ≡ text ++ tail) × IsFrame limit text frame × Splits limit tail frames rest

-- what happens to a feed: a piece comes, or the frame in front is taken
pub data Event : Type 0 where
  Came : List ℕ → Event
  Taken : List ℕ → Event

-- the bytes that came, joined
abbrev pub joined : List Event → List ℕ
joined [] = []
joined (Came piece ∷ events) = piece ++ joined events
joined (Taken frame ∷ events) = joined events

-- the frames that were taken, in order
abbrev pub taken : List Event → List (List ℕ)
taken [] = []
taken (Came piece ∷ events) = taken events
taken (Taken frame ∷ events) = frame ∷ taken events

-- A run of the feed from these unread bytes to those, each step as push, next and skip have it.
abbrev pub Run : ℕ → List ℕ → List Event → List ℕ → Type 0
Run limit old [] new = old ≡ new
Run limit old (Came piece ∷ events) new = Run limit (old ++ piece) events new
Run limit old (Taken frame ∷ events) new =
    (answer (front limit old) ≡ answers.Frame frame) × Run limit (behind (front limit old) old) events new
