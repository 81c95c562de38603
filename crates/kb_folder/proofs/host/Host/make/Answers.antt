use Rattle.std.proofs.Common.{◌≡◌, subst, rules}
use Rattle.kb_folder.specs.Changed.{NotesOn}
use Rattle.kb_folder.proofs.Synced.{notes_after, notes_back}
use Rattle.kb_folder.proofs.host.Host.make.Goals.{then-first, else-first}
use Rattle.kb_folder.proofs.host.Host.make.Goals as goal

pub returns-clause-on : goal.returns-clause-on
returns-clause-on g c =
    let was = c.args.self.now.changed in
    let noted = notes_after (λ _. ⊥) was c.note.new.self.changed c.note_names.new.self.changed c.note.ensures.on c.note_names.ensures.on in
    let tried = notes_after (λ _. ⊥) was c.note_names.new.self.changed c.open_with.new.self.changed noted c.open_with.ensures in
    elim c.if-first.branch [
      | then-first w ↦
          let same : w.forget.new.self.changed ≡ c.if-first.self.changed = search rules in
          subst (NotesOn was) same (notes_back was c.open_with.new.self.changed w.forget.new.self.changed c.args.file (c.in_ok-first.ensures.first w.if-first.true) tried w.forget.ensures)
      | else-first w ↦ let same : c.open_with.new.self.changed ≡ c.if-first.self.changed = search rules in subst (NotesOn was) same tried
    ]
