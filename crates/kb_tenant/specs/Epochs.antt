-- Epochs of leaders, which some versions tell beside a partition (Kafka protocol guide, "The Messages"): -1 says that none is known.
use Rattle.std.specs.Prelude.{ℕ, ℤ, negsuc, Bool, List, [], if◌then◌else◌}
use Rattle.kb_wire.specs.Codec.{int32}

abbrev pub no_epoch : ℤ
no_epoch = negsuc 0

-- the bytes of one, where a version tells it
abbrev pub epoch_in : Bool → List ℕ
epoch_in epochs = if epochs then int32.written no_epoch else []
