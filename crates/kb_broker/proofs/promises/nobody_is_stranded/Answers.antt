use Rattle.kb_broker.proofs.Stranded.{stranded-elsewhere, stranded-first, stranded-gone, stranded-shut}
use Rattle.kb_broker.proofs.promises.nobody_is_stranded.Goals as goal

pub returns : goal.returns
returns c = record {
  first = stranded-first;
  gone = stranded-gone;
  shut = stranded-shut;
  elsewhere = stranded-elsewhere;
}
