use Rattle.kb_folder.specs.History.{removed}
use Rattle.kb_folder.specs.Told.{calls_of, with}
use Rattle.kb_folder.proofs.Synced.{minded_on, minded_as, minded_removed}
use Rattle.kb_folder.proofs.host_folder.HostFolder.take_away.Goals as goal

pub invariant_of-self : goal.invariant_of-self
invariant_of-self g c =
    let noted = c.note_names.new.self.changed in
    let h = calls_of c.self.inside.history in
    minded_as noted h (calls_of c.remove.new.self) c.in_err-remove.ensures.refused (minded_on c.self.inside.host.changed noted h c.note_names.ensures.on c.self.invariant)

pub invariant_of-self-2 : goal.invariant_of-self-2
invariant_of-self-2 g c =
    let noted = c.note_names.new.self.changed in
    let now = c.let_go.new.self.changed in
    let h = calls_of c.self.inside.history in
    let file = c.args.file in
    minded_as now (with h (removed file)) (calls_of c.remove.new.self) c.in_ok-remove.ensures.removed
    (minded_removed noted h file (minded_on c.self.inside.host.changed noted h c.note_names.ensures.on c.self.invariant) now c.let_go.ensures c.note_names.ensures.noted)
