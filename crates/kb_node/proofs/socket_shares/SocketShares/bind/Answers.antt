use Rattle.std.proofs.Common.{◌≡◌, ◌+◌, None, arith, sym, subst, ap, ◌∙◌}
use Rattle.std.specs.List.Sorted.{IsStrictlySortedBy}
use Rattle.std.specs.Map.{keys_of}
use Rattle.std.specs.Ordering.{nat_cmp}
use Rattle.kb_shares.specs.Shares.{used_by}
use Rattle.kb_node.specs.SocketShares.{CountsSockets, holder_of}
use Rattle.kb_node.proofs.Counts.{more}
use Rattle.kb_node.proofs.socket_shares.SocketShares.bind.Goals as goal

pub invariant_of-self-in-Ok : goal.invariant_of-self-in-Ok
invariant_of-self-in-Ok c =
    let used : used_by c.args.tenant c.take.new.self ≡ used_by c.args.tenant c.self.inside.budget + 1 = grind (arith, c.take.ensures.used, c.if-not-take.false) in
    let gone : holder_of c.args.connection c.self.inside.holders.entries ≡ None = grind (arith, c.release.ensures.gone, c.self.view_is) in
    subst (CountsSockets c.take.new.self) (sym c.in-Ok.ensures.entries)
    (more c.self.inside.budget c.take.new.self c.args.connection c.args.tenant c.self.inside.holders.entries c.self.invariant
    c.insert.ensures.was_ordered
    (subst (λ es. IsStrictlySortedBy nat_cmp (keys_of es)) c.in-Ok.ensures.entries c.insert.ensures.ordered) gone used c.take.ensures.others)
