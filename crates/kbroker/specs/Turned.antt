-- What serving does to a broker: turns of its edge, by a clock.
use Rattle.std.specs.Prelude.{◌≡◌, ◌/◌, ℕ, List, [], ◌∷◌, Option}
use Rattle.kb_store.specs.Disk.{Disk}
use Rattle.kb_store.specs.Loss.{Loss}
use Rattle.kb_server_log.specs.Guard.{clock_after}
use Rattle.kb_server_log.specs.declared.guard.GuardedClock.{GuardedClock}
use Rattle.kb_server_log.specs.declared.guard.Reading.{Reading}
use Rattle.kb_isolation_spec.specs.Broker.{IsEventRun}
use Rattle.kb_broker.specs.Hosts.{OnStore, is_honest}
use Rattle.kb_node.specs.Cores.{Seen}
use Rattle.kb_node.specs.Got.{AreIsolated}
use Rattle.kb_node.specs.Known.{lasting}
use Rattle.kb_node.specs.Moves.{IsRunThrough, IsTurn}
use Rattle.kb_node.specs.Streams.{AreClientsServed, IsAlone}
use Rattle.kb_node.specs.Traffic.{Along, AreDone, Deed, events_of, moments_of}

-- the clock after readings
abbrev pub clock_behind : GuardedClock → List Reading → GuardedClock
clock_behind clock [] = clock
clock_behind clock (r ∷ rs) = clock_behind (clock_after clock r) rs

-- the moment that it gave at each of them, in milliseconds
abbrev pub ticks : GuardedClock → List Reading → List ℕ
ticks clock [] = []
ticks clock (r ∷ rs) = (clock_after clock r).time / 2000 ∷ ticks (clock_after clock r) rs

-- The clock was read, and at each reading there was one turn, of the moment that the clock then gave. All of them together are one run of
-- the broker, with those moments. That is known of the store at each deed. Where nobody was connected before, its clients were served in
-- it.
pub record AreTurned {S T : Type 0} (disk : S → Disk) (known : Deed → S → Type 0) (contents remaining : T → Option (List ℕ))
    (readings : List Reading) (start end : GuardedClock) (from to : Seen S T) : Type 0 where
  pub clock : end ≡ clock_behind start readings
  pub turns : Along (IsTurn disk known contents remaining) (ticks start readings) from to
  pub run : IsRunThrough disk known (ticks start readings) from.host to.host
  pub clients : IsAlone from → AreClientsServed disk known contents remaining (ticks start readings) from to

-- A broker was served from then on: what was done to it is a run, event by event, with takes of output and commits between. Its moments are
-- those of a clock. Whenever output was taken where replies wait for a commit, and behind each commit, all that was done before lasted. A
-- commit was refused only where that is known at the end. It kept the tenants apart where the store is honest to the end.
pub record IsServedSince {S T : Type 0} (settled : S → Type 0) (disk : S → Disk) (loss : S → Loss) (contents remaining : T → Option (List ℕ))
    (broker : OnStore S) (to : Seen S T) : Type 0 where
  pub start : GuardedClock
  pub readings : List Reading
  pub deeds : List Deed
  pub done : AreDone disk (lasting settled disk loss to.host.commits) deeds broker to.host.broker
  pub moments : moments_of deeds ≡ ticks start readings
  pub is_run : IsEventRun broker.state.last (events_of deeds)
  pub isolated : is_honest disk to.host.broker → AreIsolated deeds broker.state to.host.broker.state
  -- there was no socket before, and clients were served from then on
  pub from : Seen S T
  pub begins : (from.host.broker ≡ broker) × (from.sockets ≡ [])
  pub clients : AreClientsServed disk (lasting settled disk loss to.host.commits) contents remaining (ticks start readings) from to
