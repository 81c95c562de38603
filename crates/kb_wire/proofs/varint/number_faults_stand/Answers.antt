use Rattle.kb_wire.specs.Varint.{varint, varlong}
use Rattle.kb_wire.specs.VarintLaws.{varint_lawful, varlong_lawful}
use Rattle.kb_wire.proofs.Whole.{bad_stays, short_ends}
use Rattle.kb_wire.proofs.varint.number_faults_stand.Goals as goal

pub returns : goal.returns
returns c = record {
  varint = (bad_stays varint varint_lawful, short_ends varint varint_lawful);
  varlong = (bad_stays varlong varlong_lawful, short_ends varlong varlong_lawful);
}
