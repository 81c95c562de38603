use Rattle.std.proofs.Common.{◌≡◌, ◌≤◌, ◌+◌, drop}
use Rattle.kb_operator.specs.Fits.{colons}
use Rattle.kb_operator.proofs.fits.colons.Given as goal

-- with those that are left it is the whole
abbrev pub invariant-loop-byte : goal.invariant-loop-byte
invariant-loop-byte l = record {
  all : l.count + colons (drop l.byte-index l.bytes) ≡ colons l.bytes;
  most : l.count ≤ l.byte-index;
}
