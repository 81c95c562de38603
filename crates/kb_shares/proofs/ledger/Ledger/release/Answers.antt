use Rattle.std.proofs.Common.{sym, subst, ◌∙◌}
use Rattle.kb_shares.specs.Ledger.{AreBooked}
use Rattle.kb_shares.proofs.Booked.{fewer, has_all}
use Rattle.kb_shares.proofs.ledger.Ledger.release.Goals as goal

pub give_back-requires : goal.give_back-requires
give_back-requires c =
    has_all c.self.inside.budget c.args.member c.in-Some.booking c.self.inside.bookings.entries c.self.invariant
    (sym c.remove.ensures.value ∙ c.in-Some.is)

pub invariant_of-self : goal.invariant_of-self
invariant_of-self c =
    subst (AreBooked c.give_back.new.self) (sym c.remove.ensures.entries)
    (fewer c.self.inside.budget c.give_back.new.self c.args.member c.in-Some.booking c.self.inside.bookings.entries c.self.invariant
    (sym c.remove.ensures.value ∙ c.in-Some.is) c.give_back.ensures.used c.give_back.ensures.others)
