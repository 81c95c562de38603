use Rattle.std.proofs.Common.{arith}
use Rattle.kb_wire.specs.Fits.{blob_fits}
use Rattle.kb_coordinator.proofs.replies.put_blob.Goals as goal

pub put_blob-requires : goal.put_blob-requires
put_blob-requires c = blob_fits c.args.bytes.now (omega (arith, c.if-bytes.false))
