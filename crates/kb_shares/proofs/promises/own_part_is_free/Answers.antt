use Rattle.kb_shares.proofs.Same.{holder_at-after_all, own_part, shares-after_all}
use Rattle.kb_shares.proofs.promises.own_part_is_free.Goals as goal

pub returns : goal.returns
returns c = record {
  free = own_part;
  others = holder_at-after_all;
  shares = shares-after_all;
}
