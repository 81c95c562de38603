use Rattle.std.proofs.Common.{◌≡◌, map, take}
use Rattle.kb_shares.specs.Holder.{idle}
use Rattle.kb_shares.proofs.budget.idle_holders.Given as goal

abbrev pub invariant-loop-share : goal.invariant-loop-share
invariant-loop-share l = l.holders.items ≡ map idle (take l.share-index l.shares)
