use Rattle.kb_wire.specs.Varint.{varint, varlong}
use Rattle.kb_wire.specs.VarintLaws.{varint_lawful, varlong_lawful}
use Rattle.kb_wire.proofs.Whole.{one_only}
use Rattle.kb_wire.proofs.varint.one_number.Goals as goal

pub returns : goal.returns
returns c = record { varint = one_only varint varint_lawful; varlong = one_only varlong varlong_lawful }
