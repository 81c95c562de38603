use Rattle.std.proofs.Common.{refl, ap, length, arith}
use Rattle.kb_wire.specs.Fits.{blob_fits}
use Rattle.kb_admin.proofs.Fitting.{header_fits}
use Rattle.kb_admin.proofs.requests.request.Goals as goal

pub write-requires : goal.write-requires
write-requires g c κs = ((refl, tt), header_fits _ _ _)

pub put_blob-requires : goal.put_blob-requires
put_blob-requires g c = blob_fits _ (grind (arith, c.if-len-gt-MAX_INT32.false, ap length c.as_slice.ensures, c.len.ensures))
