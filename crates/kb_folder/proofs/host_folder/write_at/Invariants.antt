use Rattle.std.proofs.Common.{◌≡◌}
use Rattle.kb_folder.specs.Told.{calls_of}
use Rattle.kb_folder.proofs.host_folder.write_at.Given as goal

-- nothing was taken yet
abbrev pub invariant-loop : goal.invariant-loop
invariant-loop l = calls_of l.history ≡ calls_of l.fn.history
