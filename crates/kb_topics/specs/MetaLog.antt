-- The commands that the batches of a meta log are.
use Rattle.std.specs.Prelude.{◌≡◌, ℕ, pos, negsuc, List, [], ◌∷◌, Some, None}
use Rattle.kb_batch.specs.declared.record.RecordView.{RecordView}
use Rattle.kb_batch.specs.Record.{headers}
use Rattle.kb_batch.specs.Scan.{views_of}
use Rattle.kb_batch.specs.Header.{base_timestamp_of, max_timestamp_of, producer_id_of, producer_epoch_of, base_sequence_of}
use Rattle.kb_topics.specs.declared.command.Command.{Command}
use Rattle.kb_topics.specs.Layouts.{command_codec}
use Rattle.kb_topics.specs.Known.{Known}
use Rattle.kb_topics.specs.Reading.{Reading, in_use, read_all, starting_at}

-- A batch that records a command: no producer, timestamps 0, and one record without key and headers, whose value spells the
-- command.
pub record Says (s : List ℕ) (c : Command) : Type 0 where
  pub producer_id : producer_id_of s ≡ negsuc 0
  pub producer_epoch : producer_epoch_of s ≡ negsuc 0
  pub base_sequence : base_sequence_of s ≡ negsuc 0
  pub base_timestamp : base_timestamp_of s ≡ pos 0
  pub max_timestamp : max_timestamp_of s ≡ pos 0
  pub spelled_record : RecordView
  pub alone : views_of s ≡ spelled_record ∷ []
  pub timestamp : spelled_record.timestamp ≡ pos 0
  pub no_key : spelled_record.key ≡ None
  pub no_header : headers.Spells spelled_record.headers []
  pub value : List ℕ
  pub has_value : spelled_record.value ≡ Some value
  pub spelled : command_codec.Spells value c

-- each batch records its command
abbrev pub SayEach : List (List ℕ) → List Command → Type 0
SayEach [] [] = Unit {0}
SayEach [] (c ∷ cs) = ⊥
SayEach (s ∷ ss) [] = ⊥
SayEach (s ∷ ss) (c ∷ cs) = Says s c × SayEach ss cs

-- What the batches of that generation record is read as that.
pub record IsReadAs (generation : ℕ) (ss : List (List ℕ)) (r : Reading) : Type 0 where
  pub commands : List Command
  pub said : SayEach ss commands
  pub read : read_all (starting_at generation) commands ≡ Some r

-- What the batches of that generation record comes to that, and no command of a snapshot is left.
abbrev pub IsFoldOf : ℕ → List (List ℕ) → Known → Type 0
IsFoldOf generation ss k = IsReadAs generation ss (in_use k)
