use Rattle.std.proofs.Common.{sym, subst}
use Rattle.std.specs.Option.{is_some}
use Rattle.kb_connection.specs.View.{IsLimited, stage_with_wait}
use Rattle.kb_connection.proofs.Limits.{limited-behind}
use Rattle.kb_connection.proofs.connection.Connection.skip.Goals as goal

pub invariant_of-self : goal.invariant_of-self
invariant_of-self c = subst (λ u. IsLimited c.self.inside.limit u (stage_with_wait c.self.inside.stage) (is_some c.self.inside.shut)) (sym c.skip.ensures) (limited-behind c.self.inside.limit c.self.inside.unread (stage_with_wait c.self.inside.stage) (is_some c.self.inside.shut) c.self.invariant)
