-- What a socket carries between its stream and its connection.
use Rattle.std.specs.Prelude.{◌≡◌, ◌≢◌, ◌⊎◌, ℕ, List, ◌++◌, drop, true, false, ◌||◌, [], Option}
use Rattle.std.specs.List.{AllByRecursion, flat_map}
use Rattle.kb_store.specs.Disk.{Disk}
use Rattle.kb_isolation_spec.specs.Broker.{BrokerState}
use Rattle.kb_isolation_spec.specs.Calls.{output_of}
use Rattle.kb_broker.specs.Hosts.{OnStore}
use Rattle.kb_node.specs.declared.socket.Socket.{Socket}
use Rattle.kb_node.specs.Known.{silent}
use Rattle.kb_node.specs.Sockets.{is_held}
use Rattle.kb_node.specs.Traffic.{Along, AreAbout, AreDone, Deed, IsUsed, Use, handed_by, is_telling, is_write, read_by, taken_by, written_by}

-- what was said to its connection and is not written
abbrev pub unwritten_of : {T : Type 0} → Socket T → List ℕ
unwritten_of s = drop s.written s.output.items

-- what was read on it and is not handed on
abbrev pub unhanded_of : {T : Type 0} → Socket T → List ℕ
unhanded_of s = drop s.input.handed s.input.bytes.items

-- Those at the front went on, in order, and the rest is what is left, unless that is lost.
abbrev pub GoesOn : List ℕ → List ℕ → Type 0 → List ℕ → Type 0
GoesOn all gone holds left = (rest : List ℕ) × (all ≡ gone ++ rest) × (holds → rest ≡ left)

-- What a socket did to the broker was about its own connection alone. What it wrote to its stream is what was unwritten, and then what was
-- taken. What it handed on is what was kept, and then what was read. Nothing is lost but at the end, and what was read but for want of
-- memory, which is the end. That is known of the store whenever output is taken.
pub record CarriesWith {S T : Type 0} (disk : S → Disk) (known : Deed → S → Type 0) (contents remaining : T → Option (List ℕ))
    (old new : Socket T) (from to : OnStore S) : Type 0 where
  pub deeds : List Deed
  pub uses : List Use
  pub about : AreAbout old.connection deeds
  pub done : AreDone disk known deeds from to
  pub used : Along (IsUsed contents remaining) uses old.stream new.stream
  pub writes : GoesOn (unwritten_of old ++ flat_map taken_by deeds) (flat_map written_by uses) (new.is_ended ≡ false) (unwritten_of new)
  pub hands_on : GoesOn (unhanded_of old ++ flat_map read_by uses) (flat_map handed_by deeds) ((new.is_lost || new.is_ended) ≡ false)
      (unhanded_of new)
  -- where the peer is gone it stays so, and nothing is read or handed on
  pub over : old.is_over ≡ true → (new.is_over ≡ true) × (flat_map read_by uses ≡ []) × (flat_map handed_by deeds ≡ [])
  -- where some of what was read is lost it stays so, and nothing more is read or handed on
  pub lost : old.is_lost ≡ true → (new.is_lost ≡ true) × (flat_map read_by uses ≡ []) × (flat_map handed_by deeds ≡ [])
  -- where it is lost now, the peer is taken to be gone
  pub gone : old.is_lost ≡ false → new.is_lost ≡ true → new.is_over ≡ true

-- The same, and no output was taken.
abbrev pub Carries : {S T : Type 0} → (S → Disk) → (T → Option (List ℕ)) → (T → Option (List ℕ)) → Socket T → Socket T
    → OnStore S → OnStore S → Type 0
Carries disk contents remaining old new from to = CarriesWith disk silent contents remaining old new from to

-- What was carried was told alone: output was taken and written, or the connection was closed. Nothing was read, no piece came, and the
-- store stays.
pub record OnlyTells {S T : Type 0} {disk : S → Disk} {known : Deed → S → Type 0} {contents remaining : T → Option (List ℕ)}
    {old new : Socket T} {from to : OnStore S} (carries : CarriesWith disk known contents remaining old new from to) : Type 0 where
  pub deeds : AllByRecursion (λ d. is_telling d ≡ true) carries.deeds
  pub uses : AllByRecursion (λ u. is_write u ≡ true) carries.uses
  pub store : to.store ≡ from.store

-- A socket told what there was to say to its connection, and carried nothing else. That is known of the store whenever output is taken.
pub record TellsWith {S T : Type 0} (disk : S → Disk) (known : Deed → S → Type 0) (contents remaining : T → Option (List ℕ))
    (old new : Socket T) (from to : OnStore S) : Type 0 where
  pub carries : CarriesWith disk known contents remaining old new from to
  pub told : OnlyTells carries

-- The same, and no output was taken: it wrote what was taken before, or its connection was closed.
abbrev pub WritesTaken : {S T : Type 0} → (S → Disk) → (T → Option (List ℕ)) → (T → Option (List ℕ)) → Socket T → Socket T
    → OnStore S → OnStore S → Type 0
WritesTaken disk contents remaining old new from to = TellsWith disk silent contents remaining old new from to

-- A piece was read where so much was kept: what of both was handed on is in front, as pieces on its own connection.
pub record HandsOn {S T : Type 0} (disk : S → Disk) (old new : Socket T) (piece : List ℕ) (from to : OnStore S) : Type 0 where
  pub deeds : List Deed
  pub about : AreAbout old.connection deeds
  pub done : AreDone disk silent deeds from to
  pub none_taken : flat_map taken_by deeds ≡ []
  pub hands_on : GoesOn (unhanded_of old ++ piece) (flat_map handed_by deeds) ((new.is_lost || new.is_ended) ≡ false) (unhanded_of new)
  pub gone : old.is_lost ≡ false → new.is_lost ≡ true → new.is_over ≡ true

-- Either all that was said to a socket's connection is written, or the broker has nothing more to say to it.
abbrev pub TellsInTurn : {T : Type 0} → Socket T → BrokerState → Type 0
TellsInTurn s b = (unwritten_of s ≡ []) ⊎ (output_of s.connection b ≡ [])

-- The broker has nothing more to say to it. Or all that was said is written, and a failed login waits until it may be answered.
abbrev pub HasToldAll : {T : Type 0} → Socket T → BrokerState → Type 0
HasToldAll s b = (output_of s.connection b ≡ []) ⊎ ((unwritten_of s ≡ []) × (is_held s.may_answer s.connection b ≡ true))

-- Nobody waits for nothing: the broker has nothing more to say to it, or it has still to write what was said before, or a failed login on it
-- waits until it may be answered.
abbrev pub HasHeard : {T : Type 0} → Socket T → BrokerState → Type 0
HasHeard s b = (output_of s.connection b ≡ []) ⊎ ((unwritten_of s ≢ []) ⊎ (is_held s.may_answer s.connection b ≡ true))

-- What is so of a socket that goes on behind a call. Where all was written before that was said, or nothing was left to say, all is told.
pub record HasBeenTold {T : Type 0} (old new : Socket T) (from to : BrokerState) : Type 0 where
  pub all : TellsInTurn old from → HasToldAll new to
  pub heard : HasHeard new to
