-- What each reaction does to a connection.
use Rattle.std.specs.Prelude.{None, Result, Ok, Err}
use Rattle.std.specs.declared.alloc.AllocError.{AllocError}
use Rattle.kb_wire.specs.declared.error_code.ErrorCode.TheVariants as errors
use Rattle.kb_isolation_spec.specs.declared.head.Head.{Head}
use Rattle.kb_isolation_spec.specs.Session.{Greets, Session, shut_down, replied}
use Rattle.kb_isolation_spec.specs.Greeting.{Setup, versions_in, versions_reply, handshake_reply, illegal_state, bare_login, logged_in}
use Rattle.kb_connection.specs.declared.reaction.Reaction.{Reaction}
use Rattle.kb_connection.specs.declared.reaction.Reaction.TheVariants as reactions
use Rattle.kb_connection.specs.View.{greeting_of}

-- s is the connection without the request
abbrev pub reacted : Setup → Reaction → Head → Session → Session
reacted setup reactions.Versions head s = replied head (versions_in head.api_version setup.versions) s
reacted setup reactions.OtherVersions head s = replied head (versions_reply setup.versions errors.UnsupportedVersion) s
reacted setup (reactions.Accepts greeting) head s =
    replied head (handshake_reply errors.None) (record s { stage = Greets (greeting_of greeting) })
reacted setup (reactions.Handshake code) head s = replied head (handshake_reply code) s
reacted setup reactions.IllegalState head s = replied head illegal_state s
reacted setup (reactions.LogsIn known) head s = logged_in (Ok known) head s
reacted setup (reactions.LogsInBare known) head s = bare_login (Ok known) s
reacted setup (reactions.Denies name) head s = logged_in (Err name) head s
reacted setup (reactions.DeniesBare name) head s = bare_login (Err name) s
reacted setup (reactions.Shuts cause) head s = shut_down cause s

-- a reaction was worked out, and the fact holds of its head and of it
abbrev pub IfReacts : Result (Head × Reaction) AllocError → (Head → Reaction → Type 0) → Type 0
IfReacts (Ok done) fact = fact done.0 done.1
IfReacts (Err e) fact = ⊥
