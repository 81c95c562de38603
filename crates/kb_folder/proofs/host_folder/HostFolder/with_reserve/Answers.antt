use Rattle.kb_folder.specs.Told.{calls_of}
use Rattle.kb_folder.proofs.Synced.{notes_after, minded_on}
use Rattle.kb_folder.proofs.host_folder.HostFolder.with_reserve.Goals as goal

pub invariant_of-self : goal.invariant_of-self
invariant_of-self g c =
    let was = c.self.inside.host.changed in
    let now = c.restore_reserve.new.self.changed in
    minded_on was now (calls_of c.self.inside.history) (notes_after (λ _. ⊥) was c.open_reserve.new.self.changed now c.open_reserve.ensures c.restore_reserve.ensures) c.self.invariant
