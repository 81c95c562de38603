use Rattle.std.proofs.Common.{◌≡◌, drop}
use Rattle.kb_start.specs.Deleted.{any_deleted}
use Rattle.kb_start.proofs.deleted.any_deleted.Given as goal

abbrev pub invariant-loop-of : goal.invariant-loop-of
invariant-loop-of g l = any_deleted (drop l.of-index l.catalogs) l.header ≡ any_deleted l.catalogs l.header
