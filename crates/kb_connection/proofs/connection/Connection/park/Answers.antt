use Rattle.std.proofs.Common.{◌∙◌, ap, sym}
use Rattle.std.specs.Option.{is_some}
use Rattle.kb_isolation_spec.specs.Session.{in_front}
use Rattle.kb_isolation_spec.specs.Machine.{Line}
use Rattle.kb_connection.specs.Fronts.{is_tenants_at}
use Rattle.kb_connection.specs.View.{stage_with_wait}
use Rattle.kb_connection.proofs.Limits.{asked-open}
use Rattle.kb_connection.proofs.connection.Connection.park.Goals as goal

pub returns-else-is_open-clause-unshut : goal.returns-else-is_open-clause-unshut
returns-else-is_open-clause-unshut c = λ versions asks.
    ap (λ (l : Line). l.session.shut) (sym c.self.view_is)
    ∙ asked-open versions c.self.inside.limit c.self.inside.unread (stage_with_wait c.self.inside.stage) (is_some c.self.inside.shut) c.self.invariant
    (ap (λ (l : Line). is_tenants_at versions (in_front l.session)) c.self.view_is ∙ asks)
