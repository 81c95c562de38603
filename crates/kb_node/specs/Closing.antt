-- Which sockets an edge closes.
use Rattle.std.specs.Prelude.{◌≡◌, ◌≢◌, ◌≤◌, ◌<◌, ◌⊎◌, ℕ, List, length, map, nat_le, Bool, true, false, Option, None, Some, IfSome}
use Rattle.kb_shares.specs.Shares.{Pool, has_room}
use Rattle.kb_node.specs.declared.delays.Delays.{Delays}
use Rattle.kb_node.specs.declared.silences.Silences.{Silences}
use Rattle.kb_node.specs.declared.socket.Socket.{Socket}
use Rattle.kb_node.specs.declared.times.Times.{Times}
use Rattle.kb_node.specs.Cores.{Core}
use Rattle.kb_node.specs.Deadlines.{Moments, later, without_since}
use Rattle.kb_node.specs.Numbers.{socket_of}
use Rattle.kb_node.specs.Replies.{holder_place}
use Rattle.kb_node.specs.SocketShares.{Seats}
use Rattle.kb_node.specs.Streams.{core_of, is_closed_in}
use Rattle.kb_node.specs.Traffic.{Along}

-- 1. One socket

-- That of a connection may have changed. All others stay, and none comes, leaves or moves.
pub record ChangesAlone {T : Type 0} (n : ℕ) (old new : List (Core T)) : Type 0 where
  pub numbers : map (λ c. c.connection) new ≡ map (λ c. c.connection) old
  pub others : (m : ℕ) → m ≢ n → core_of m new ≡ core_of m old

-- that of a connection is closed, where there is one
abbrev pub IsGone : {T : Type 0} → ℕ → List (Core T) → Type 0
IsGone n cs = is_closed_in (core_of n cs) ≡ true

-- it is closed, and all others stay
pub record IsClosed {T : Type 0} (n : ℕ) (old new : List (Core T)) : Type 0 where
  pub alone : ChangesAlone n old new
  pub gone : IsGone n new

-- That of a connection is kept no longer, if its connection is closed. Else it stays, as all others do.
pub record LeavesIfClosed {T : Type 0} (n : ℕ) (old new : List (Socket T)) : Type 0 where
  pub gone : IfSome (socket_of n old) (λ s. s.is_ended ≡ true) → socket_of n new ≡ None
  pub kept : IfSome (socket_of n old) (λ s. s.is_ended ≡ false) → new ≡ old
  pub others : (m : ℕ) → m ≢ n → socket_of m new ≡ socket_of m old

-- it is there no longer, and all others stay
pub record IsRemoved {T : Type 0} (n : ℕ) (old new : List (Core T)) : Type 0 where
  pub gone : core_of n new ≡ None
  pub others : (m : ℕ) → m ≢ n → core_of m new ≡ core_of m old

-- Room is made for one more where there is none: that of the connection which has been a stranger for longest is there no longer. Where
-- there is room, or nobody is a stranger, all stay.
abbrev pub IsRoomMade : {T : Type 0} → Bool → Option ℕ → List (Core T) → List (Core T) → Type 0
IsRoomMade true oldest old new = new ≡ old
IsRoomMade false None old new = new ≡ old
IsRoomMade false (Some n) old new = IsRemoved n old new

-- something else was so, or it is closed, and all others stay
pub record IsClosedUnless {T : Type 0} (n : ℕ) (Else : Type 0) (old new : List (Core T)) : Type 0 where
  pub alone : ChangesAlone n old new
  pub gone : Else ⊎ IsGone n new

-- The connections of the sockets that keep silent, each with the moment since which that is so: with a reply to take, with a request under
-- way, with nothing under way, or with a failed login that waits for its answer.
pub record Silent : Type 0 where
  pub unread : Moments
  pub begun : Moments
  pub looked : Moments
  pub held : Moments

abbrev pub silent_of : Silences → Times → Delays → Silent
silent_of silences times delays = record {
  unread = silences.unread.moments.keys;
  begun = times.begun.moments.keys;
  looked = times.looked.moments.keys;
  held = delays.moments.moments.keys;
}

-- the socket of a connection stands in none of these lists
pub record IsForgotten {T : Type 0} (n : ℕ) (s : Socket T) (old new : Silent) : Type 0 where
  pub unread : new.unread ≡ without_since n (Some s.moved) old.unread
  pub begun : new.begun ≡ without_since n s.begun old.begun
  pub looked : new.looked ≡ without_since n s.looked old.looked
  pub held : new.held ≡ without_since n s.held old.held

-- 2. Why it is not closed

-- it took some of its reply
pub record TookSome {T : Type 0} (n : ℕ) (old new : List (Core T)) : Type 0 where
  pub before : Core T
  pub after : Core T
  pub was : core_of n old ≡ Some before
  pub is : core_of n new ≡ Some after
  pub less : length after.unwritten < length before.unwritten

-- its request is under way since that moment
pub record IsBegunAt {T : Type 0} (n now : ℕ) (sockets : List (Socket T)) : Type 0 where
  pub socket : Socket T
  pub there : socket_of n sockets ≡ Some socket
  pub begun : socket.begun ≡ Some now

-- Its request has its whole time once more: its holder has too much unread, so the edge reads none of it.
pub record IsPutOff {T : Type 0} (n now : ℕ) (seats : Seats) (replies : Pool) (new : List (Socket T)) : Type 0 where
  pub unread : has_room (holder_place n seats) 1 replies ≡ false
  pub begun : IsBegunAt n now new

-- it has not been idle for so long, since it was used or since now
pub record IsUsedOfLate {T : Type 0} (millis now : ℕ) (s : Socket T) : Type 0 where
  pub since : ℕ
  pub used : (since ≡ s.active) ⊎ (since ≡ now)
  pub in_time : nat_le (later since millis) now ≡ false

-- 3. One after another

-- Each time the one that is due then is dealt with, until none is due, or so many were dealt with. In the end all that is looked at is as it
-- was left then.
pub record AreDealtWith {X Y : Type 0} (due : X → Option ℕ) (Deals : ℕ → X → X → Type 0) (view : X → Y) (most : ℕ) (old new : X) : Type 0 where
  pub numbers : List ℕ
  pub last : X
  pub done : Along (λ n a b. (due a ≡ Some n) × Deals n a b) numbers old last
  pub all : (due last ≡ None) ⊎ (most ≤ length numbers)
  pub still : view new ≡ view last
