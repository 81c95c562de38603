-- How long the reply of a produce is, whatever it answers, and what is put within the room for it.
use Rattle.std.specs.Prelude.{◌≡◌, ◌≤◌, ◌+◌, ◌*◌, ◌++◌, ℕ, Bool, true, false, List, length, Result, IsOk, OnOk}
use Rattle.std.specs.List.{sum_by}
use Rattle.std.specs.declared.alloc.AllocError.{AllocError}
use Rattle.kb_api_data.specs.declared.produce.ProducePartition.{ProducePartition}
use Rattle.kb_api_data.specs.declared.produce.ProduceTopic.{ProduceTopic}
use Rattle.kb_api_data.specs.declared.produce.ProduceRequest.{ProduceRequest}
use Rattle.kb_wire.specs.Sunk.{Sunk}

-- ---- lengths

-- an entry is answered with an index, a code, a base offset, a time, and the start of its log where a reply tells that
abbrev pub entry_length : Bool → ℕ
entry_length true = 30
entry_length false = 22

abbrev pub entries_length : Bool → List ProducePartition → ℕ
entries_length starts es = entry_length starts * length es

-- before the entries stand their topic's name, as a STRING, and their count
abbrev pub topic_length : Bool → ProduceTopic → ℕ
topic_length starts t = 2 + length t.name + 4 + entries_length starts t.partitions

-- before the topics stands their count, and behind them the throttle time
abbrev pub reply_length : Bool → ProduceRequest → ℕ
reply_length starts r = 8 + sum_by (topic_length starts) r.topics

-- none, where no reply is due
abbrev pub length_due : Bool → ℕ → ℕ
length_due true n = n
length_due false n = 0

-- ---- puts

-- So many bytes were added.
pub record IsLonger (n : ℕ) (old new : List ℕ) : Type 0 where
  pub more : List ℕ
  pub is : new ≡ old ++ more
  pub many : length more ≡ n

-- So many bytes are added to a sink, unless memory is refused. Within the room it is not, and no more of it is taken.
pub record IsPut (n : ℕ) (old : Sunk) (result : Result (Unit {0}) AllocError) (new : Sunk) : Type 0 where
  pub longer : OnOk result (IsLonger n old.bytes new.bytes)
  pub succeeds : n ≤ old.room → IsOk result
  pub room : OnOk result (old.room ≤ new.room + n)
