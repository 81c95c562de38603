use Rattle.std.proofs.Common.{◌≡◌, sym, subst, ◌∙◌}
use Rattle.std.specs.List.Sorted.{IsStrictlySortedBy}
use Rattle.std.specs.Map.{keys_of}
use Rattle.std.specs.Ordering.{nat_cmp}
use Rattle.kb_node.specs.SocketShares.{CountsSockets}
use Rattle.kb_node.proofs.Counts.{fewer, has_one}
use Rattle.kb_node.proofs.socket_shares.SocketShares.release.Goals as goal

pub give_back-requires : goal.give_back-requires
give_back-requires c =
    has_one c.self.inside.budget c.args.connection c.in-Some.holder c.self.inside.holders.entries c.self.invariant
    (sym c.remove.ensures.value ∙ c.in-Some.is)

pub invariant_of-self : goal.invariant_of-self
invariant_of-self c =
    subst (CountsSockets c.give_back.new.self) (sym c.remove.ensures.entries)
    (fewer c.self.inside.budget c.give_back.new.self c.args.connection c.in-Some.holder c.self.inside.holders.entries c.self.invariant
    (sym c.remove.ensures.value ∙ c.in-Some.is) (subst (λ es. IsStrictlySortedBy nat_cmp (keys_of es)) c.remove.ensures.entries c.remove.ensures.ordered)
    c.give_back.ensures.used c.give_back.ensures.others)
