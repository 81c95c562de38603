use Rattle.std.proofs.Common.{◌≡◌, ◌++◌, drop}
use Rattle.kb_restart.specs.Lengths.{AreRising, drops}
use Rattle.kb_restart.proofs.lengths.dropped_between.Given as goal

-- what was found, and what the files that are left come to
abbrev pub invariant-loop-file : goal.invariant-loop-file
invariant-loop-file l = record {
  told : l.found.items ++ drops (drop l.file-index l.before) l.rest ≡ drops l.before l.after;
  before : AreRising (drop l.file-index l.before);
  after : AreRising l.rest;
}
