-- What the log is told of a turn.
use Rattle.std.specs.Prelude.{◌≡◌, ◌/◌, ℕ, List, [], ◌∷◌, Bool, Option, None, Some, if◌then◌else◌}
use Rattle.std.specs.declared.net.SocketAddr.{SocketAddr}
use Rattle.kb_isolation_spec.specs.declared.login.Login.{Login}
use Rattle.kb_isolation_spec.specs.declared.login.Login.TheVariants as logins
use Rattle.kb_node.specs.Traffic.{Along}
use Rattle.kb_node.specs.declared.closed.Closed as shut
use Rattle.kb_node.specs.declared.firsts.Firsts.{Firsts}
use Rattle.kb_node.specs.declared.news.LoginAttempt.{LoginAttempt}
use Rattle.kb_node.specs.declared.news.News.{News}
use Rattle.kb_node.specs.declared.turn.Turn.{Turn}
use Rattle.kb_operator.specs.Bucket.{with_more}
use Rattle.kb_operator.specs.Events.{commit_lines, notice_text, passed_over, passed_over_lines, turn_lines}
use Rattle.kb_operator.specs.Logged.{LogLine}
use Rattle.kb_operator.specs.Logins.{with_more_logins, TellsFailed, TellsLogin, TellsShutFor}
use Rattle.kb_operator.specs.Refused.{BrokerCounts, closed_with, MayTellCounts}
use Rattle.kb_operator.specs.Speaks.{Announces, Speaks}
use Rattle.kb_operator.specs.declared.journal.Closed.{Closed}
use Rattle.kb_operator.specs.declared.journal.Journal.{Journal}
use Rattle.kb_server_log.specs.declared.guard.Notice.{Notice}
use Rattle.kbroker.specs.Shut.{IsWhy}

-- how many milliseconds it took, as its commit where it had one
abbrev pub length_lines : Bool → ℕ → List (List ℕ)
length_lines committed millis = if committed then commit_lines millis else turn_lines millis

-- what the wall clock did, where it did something
abbrev pub notice_lines : Option Notice → List (List ℕ)
notice_lines None = []
notice_lines (Some notice) = notice_text notice ∷ []

-- the sockets that a turn closed since they kept silent
abbrev pub silent_in : Turn → Closed
silent_in t = record { strangers = t.strangers; unread = t.unread; idle = t.idle; slow = t.slow }

module _ {T : Type 0} (logged : T → Option (List LogLine)) (now second : ℕ) where
  -- a login that was right
  abbrev pub TellsUser : SocketAddr → Login → Journal T → Journal T → Type 0
  TellsUser address (logins.User place) old new = TellsLogin logged now second address place old new
  TellsUser address login old new = new ≡ old

  -- one that failed
  abbrev pub TellsDenied : SocketAddr → Login → Journal T → Journal T → Type 0
  TellsDenied address (logins.Failed name) old new = TellsFailed logged now second address name old new
  TellsDenied address login old new = new ≡ old

  -- a connection that was closed for a cause, and that, in words; no request of more than so many bytes is read
  abbrev pub TellsShutOne : ℕ → shut.Closed → Journal T → Journal T → Type 0
  TellsShutOne request_bytes c old new =
      (why : List ℕ) × IsWhy c.cause request_bytes why × TellsShutFor logged now second c.address c.tenant why old new

  -- those of a turn, one behind the other; how many more there were is counted
  abbrev pub TellsRight : Firsts LoginAttempt → Journal T → Journal T → Type 0
  TellsRight ls old new =
      (told : Journal T) × Along (λ a from to. TellsUser a.address a.login from to) ls.first.items old told × (new ≡ with_more_logins ls.more told)

  abbrev pub TellsWrong : Firsts LoginAttempt → Journal T → Journal T → Type 0
  TellsWrong ls old new =
      (told : Journal T) × Along (λ a from to. TellsDenied a.address a.login from to) ls.first.items old told
      × (new ≡ record told { failed = with_more ls.more told.failed })

  abbrev pub TellsShuts : ℕ → Firsts shut.Closed → Journal T → Journal T → Type 0
  TellsShuts request_bytes cs old new =
      (told : Journal T) × Along (TellsShutOne request_bytes) cs.first.items old told × (new ≡ record told { shut = with_more cs.more told.shut })

-- All of a turn at a moment, one behind the other: logins, connections that were closed for a cause, what was passed over in seconds before,
-- the clock, and what is counted.
pub record TellsTurn {T : Type 0} (logged : T → Option (List LogLine)) (now moment request_bytes : ℕ) (news : News) (notice : Option Notice)
    (turn : Turn) (counts : BrokerCounts) (old new : Journal T) : Type 0 where
  pub behind_right : Journal T
  pub behind_wrong : Journal T
  pub behind_shut : Journal T
  pub behind_passed : Journal T
  pub behind_clock : Journal T
  pub right : TellsRight logged now (moment / 1000) news.logins old behind_right
  pub wrong : TellsWrong logged now (moment / 1000) news.denied behind_right behind_wrong
  pub shut : TellsShuts logged now (moment / 1000) request_bytes news.closed behind_wrong behind_shut
  pub passed : Speaks logged now (passed_over_lines (moment / 1000) behind_shut) (passed_over (moment / 1000) behind_shut) behind_shut behind_passed
  pub clock : Announces logged now (notice_lines notice) behind_passed behind_clock
  pub counted : MayTellCounts logged now moment turn.turned_away counts
      (record behind_clock { closed = closed_with behind_clock.closed (silent_in turn) }) new
