use Rattle.std.proofs.Common.{◌≡◌, ◌++◌}
use Rattle.std.specs.BTreeMap.{keys}
use Rattle.kb_folder.specs.Names.{numbers_named}
use Rattle.kb_folder.proofs.memory.MemoryFolderFolder.names.Given as goal

-- the names so far, and the numbers still to come
abbrev pub invariant-loop-number : goal.invariant-loop-number
invariant-loop-number l = numbers_named l.names.items ++ l.number-iterator ≡ keys l.fn.self.files
