use Rattle.std.proofs.Common.{◌≡◌, drop}
use Rattle.kb_shares.proofs.Parts.{rest_or_none}
use Rattle.kb_shares.proofs.budget.rest_of.Given as goal

abbrev pub invariant-loop-share : goal.invariant-loop-share
invariant-loop-share l = rest_or_none l.fn.total l.shares ≡ rest_or_none l.rest (drop l.share-index l.shares)
