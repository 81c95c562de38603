-- The moments of a folder are in order.
use Rattle.std.specs.Prelude.{◌≤◌, ℕ, List, [], ◌∷◌, length}
use Rattle.std.proofs.Common.{arith, inl, ⊎_elim}
use Rattle.kb_store.specs.Disk.{Files}
use Rattle.kb_store.specs.Loss.{IsLawfulLoss}
use Rattle.kb_folder.specs.History.{Answer}
use Rattle.kb_folder.specs.Lasting.{leaves, left_since, folder_loss}
use Rattle.kb_folder.specs.Told.{Calls}

counts_now : (start : Files) (answers : List Answer) (t : ℕ) (found : Files) → leaves start answers found → left_since start answers t found
counts_now start [] t found l = tt
counts_now start (a ∷ earlier) t found l = inl l

only_now : (start : Files) (answers : List Answer) (found : Files) → left_since start answers (length answers) found → leaves start answers found
only_now start [] found l = tt
only_now start (a ∷ earlier) found l =
    ⊎_elim
    (λ (now : leaves start (a ∷ earlier) found). now)
    (λ (before : (length (a ∷ earlier) ≤ length earlier) × left_since start earlier (length (a ∷ earlier)) found). absurd (omega (arith, before.0)))
    l

pub loss_timely : (h : Calls) → IsLawfulLoss (folder_loss h)
loss_timely h = record {
  counts_now = λ t found le l. counts_now h.start h.answers t found l;
  only_now = λ found l. only_now h.start h.answers found l;
}
