use Rattle.kb_folder.specs.Changed.{NotesOn}
use Rattle.kb_folder.proofs.host.Host.open_with.Given as goal

-- files were closed alone
abbrev pub invariant-loop : goal.invariant-loop
invariant-loop g l = NotesOn l.fn.self.changed l.self.changed
