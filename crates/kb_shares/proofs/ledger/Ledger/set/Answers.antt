use Rattle.std.proofs.Common.{◌≡◌, ◌+◌, None, arith, sym, subst}
use Rattle.kb_shares.specs.Shares.{used_by}
use Rattle.kb_shares.specs.Ledger.{AreBooked, booking_of}
use Rattle.kb_shares.proofs.Booked.{more}
use Rattle.kb_shares.proofs.ledger.Ledger.set.Goals as goal

pub invariant_of-self-in-Ok : goal.invariant_of-self-in-Ok
invariant_of-self-in-Ok c =
    let used : used_by c.args.holder c.put.new.self ≡ used_by c.args.holder c.self.inside.budget + c.args.amount = grind (arith, c.put.ensures.used, c.if-not-put.false) in
    let gone : booking_of c.args.member c.self.inside.bookings.entries ≡ None = grind (arith, c.release.ensures.gone, c.self.view_is) in
    subst (AreBooked c.put.new.self) (sym c.in-Ok.ensures.entries)
    (more c.self.inside.budget c.put.new.self c.args.member (record { holder = c.args.holder; amount = c.args.amount }) c.self.inside.bookings.entries c.self.invariant
    c.insert.ensures.was_ordered gone used c.put.ensures.others)
