-- What `kconsole consume` prints over a run.
use Rattle.std.specs.Prelude.{◌≡◌, ◌++◌, ℕ, Bool, true, false, List, [], ◌∷◌, Option, Some}
use Rattle.std.specs.Io.KnownBytes.{Appends}
use Rattle.kb_client.specs.Lines.{Found, with_batches}
use Rattle.kb_client.specs.Consumer.{Consumer, connected, fed, without_text, is_due, is_finished}

-- what is done with a consumer
pub data ConsumerEvent : Type 0 where
  -- another connection begins
  Connects : ConsumerEvent
  -- the request whose turn it is goes out, if one has its turn
  Asks : ConsumerEvent
  -- a piece of what the broker sent comes
  Comes : (piece : List ℕ) → ConsumerEvent
  -- the lines that were found are taken
  Takes : ConsumerEvent

abbrev pub asked_if : Bool → Consumer → Consumer
asked_if true c = record c { asked = true }
asked_if false c = c

-- what is left of it
abbrev pub after_consumer_event : ConsumerEvent → Consumer → Consumer
after_consumer_event Connects c = connected c
after_consumer_event Asks c = asked_if (is_due c) c
after_consumer_event (Comes piece) c = fed piece c
after_consumer_event Takes c = without_text c

abbrev pub last : List ConsumerEvent → Consumer → Consumer
last [] c = c
last (e ∷ es) c = last es (after_consumer_event e c)

-- The batches whose lines it finds: those of the reply that a piece completes, if it does.
abbrev pub FindsAt : ConsumerEvent → Consumer → List (List ℕ) → Type 0
FindsAt Connects c batches = batches ≡ []
FindsAt Asks c batches = batches ≡ []
FindsAt (Comes piece) c batches = with_batches batches c.found ≡ Some (fed piece c).found
FindsAt Takes c batches = batches ≡ []

-- the same over some events: each batch as it came, in order
abbrev pub Finds : List ConsumerEvent → Consumer → List (List ℕ) → Type 0
Finds [] c batches = batches ≡ []
Finds (e ∷ es) c batches = (now : List (List ℕ)) × (later : List (List ℕ)) × (batches ≡ now ++ later)
    × FindsAt e c now × Finds es (after_consumer_event e c) later

-- what was found, with a text in front of it
abbrev pub behind : List ℕ → Found → Found
behind text f = record f { text = text ++ f.text }

-- A consumer gives a text: what it finds in the batches that come is that text, and behind it what is still to be taken.
pub record Gives (old : Consumer) (text : List ℕ) (new : Consumer) : Type 0 where
  pub events : List ConsumerEvent
  pub batches : List (List ℕ)
  pub went : new ≡ last events old
  pub came : Finds events old batches
  pub lines : with_batches batches old.found ≡ Some (behind text new.found)

-- what it gives is printed
pub record Prints (old : Consumer) (before after : Option (List ℕ)) (new : Consumer) : Type 0 where
  pub text : List ℕ
  pub given : Gives old text new
  pub printed : Appends before after text

-- so is all that is asked for: nothing is left to be found or taken
pub record PrintsAll (old : Consumer) (before after : Option (List ℕ)) : Type 0 where
  pub new : Consumer
  pub prints : Prints old before after new
  pub finished : is_finished new.stage new.found.text ≡ true
