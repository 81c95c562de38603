use Rattle.std.proofs.Common.{◌≡◌, drop}
use Rattle.kb_isolation_spec.specs.Versions.{base_among}
use Rattle.kb_connection.proofs.version.base_among.Given as goal

-- the versions that are left have the answer
abbrev pub invariant-loop-row : goal.invariant-loop-row
invariant-loop-row l = base_among (drop l.row-index l.newer) l.key l.version ≡ base_among l.fn.newer l.fn.key l.fn.version
