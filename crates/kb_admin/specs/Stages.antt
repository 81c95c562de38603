-- The order of a session's requests.
use Rattle.std.specs.Prelude.{ℤ, pos}
use Rattle.kb_admin.specs.declared.stage.Stage.{Stage}
use Rattle.kb_admin.specs.declared.stage.Stage.TheVariants as stages

-- the correlation id of a request
abbrev pub correlation : Stage → ℤ
correlation stages.Handshake = pos 1
correlation stages.Authenticate = pos 2
correlation stages.Perform = pos 3
correlation stages.Ended = pos 0

-- the request that follows a reply
abbrev pub next : Stage → Stage
next stages.Handshake = stages.Authenticate
next stages.Authenticate = stages.Perform
next stages.Perform = stages.Ended
next stages.Ended = stages.Ended
