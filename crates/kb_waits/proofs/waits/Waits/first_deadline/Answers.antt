use Rattle.std.proofs.Common.{◌∙◌, ap, subst, sym}
use Rattle.std.specs.FinMap as fin
use Rattle.kb_waits.specs.Queue.{IsLeastDeadline}
use Rattle.kb_waits.proofs.First.{first-least, first-none}
use Rattle.kb_waits.proofs.waits.Waits.first_deadline.Goals as goal

pub returns-in-Some : goal.returns-in-Some
returns-in-Some c =
    subst (λ q. IsLeastDeadline q c.in-Some.pair.now.0) c.self.view_is
    (first-least c.self.inside.entries c.self.inside.deadlines c.self.inside.waiters c.in-Some.pair.now c.self.invariant c.in-Some.ensures.member c.in-Some.ensures.least)

pub returns-in-None : goal.returns-in-None
returns-in-None c = λ n.
    ap (λ q. fin.get q n) (sym c.self.view_is)
    ∙ first-none c.self.inside.entries c.self.inside.deadlines c.self.inside.waiters c.self.invariant c.in-None.ensures.variant.1 n
