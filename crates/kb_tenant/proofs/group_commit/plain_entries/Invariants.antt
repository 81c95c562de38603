use Rattle.std.proofs.Common.{◌≡◌, map, take}
use Rattle.kb_tenant.specs.OffsetCommit.{plain_entry}
use Rattle.kb_tenant.proofs.group_commit.plain_entries.Given as goal

-- those so far
abbrev pub invariant-loop-entry : goal.invariant-loop-entry
invariant-loop-entry g l = l.plain ≡ map plain_entry (take l.entry-index l.entries)
