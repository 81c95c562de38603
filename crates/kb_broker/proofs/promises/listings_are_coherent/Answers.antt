use Rattle.kb_broker.proofs.Coherent.{epochs-coherent, metadata-coherent, offsets-coherent, sessions-coherent, without-zstd}
use Rattle.kb_broker.proofs.promises.listings_are_coherent.Goals as goal

pub returns : goal.returns
returns c = record { metadata = metadata-coherent; sessions = sessions-coherent; epochs = epochs-coherent; zstd = without-zstd; offsets = offsets-coherent }
