-- A refusal that is counted.
use Rattle.kb_store.specs.Disk.{Disk}
use Rattle.kb_log.specs.OnShelf.{Log}
use Rattle.kb_log.specs.Shelf.{Shelved}
use Rattle.kb_tenant_state.specs.Parts.{scene, refused}
use Rattle.kb_tenant_state.specs.Steps.{IsStep, step_same}
use Rattle.kb_tenant_state.specs.declared.parts.Parts.{Parts}
use Rattle.kb_tenant_state.proofs.Lifted.{refused_step}

-- nothing but the count is another
pub step_refused : {L S : Type 0} (log : L → Log) (disk : S → Disk) (p : Parts L) (shelf : Shelved S) → (scene log disk p shelf).sound → IsStep (scene log disk p shelf) (scene log disk (refused p) shelf)
step_refused log disk p shelf sound = refused_step log (scene log disk p shelf) p (disk shelf.store) shelf.next (step_same (scene log disk p shelf) sound)
