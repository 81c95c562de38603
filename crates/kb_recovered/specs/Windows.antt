-- What a loss of power may have left at each moment since a commit, over further commits.
use Rattle.std.specs.Prelude.{◌≤◌, ◌⊎◌, ℕ, List, [], ◌∷◌}
use Rattle.kb_store.specs.Disk.{Disk, Files}
use Rattle.kb_store.specs.Loss.{Loss}
use Rattle.kb_loss.specs.Since.{HoldsSince, Touched, AreStill, AreLeft}

-- From a commit to the end of the next sync: the files of the commit, what was changed of them, and the removals that waited for the sync.
pub record Window : Type 0 where
  pub files : Files
  pub touched : Touched
  pub waiting : List ℕ

abbrev pub window : Files → Touched → List ℕ → Window
window files t waiting = record { files = files; touched = t; waiting = waiting }

-- Some files are what may be left of one of these commits.
abbrev pub AreLeftOfOne : List Window → Files → Type 0
AreLeftOfOne [] found = ⊥
AreLeftOfOne (w ∷ ws) found = AreLeft w.files w.touched w.waiting found ⊎ AreLeftOfOne ws found

-- At each moment since a first one, what a loss might have left then is left of one of the commits since; and since the last commit its
-- files are still there, on the disk and after a loss.
pub record HoldsThrough (past : List Window) (files : Files) (t : Touched) (first last : ℕ) (d : Disk) (l : Loss) : Type 0 where
  pub ordered : first ≤ last
  pub passed : last ≤ l.moment
  pub ever : HoldsSince (λ found. AreLeftOfOne past found ⊎ AreStill files t found) first l
  pub since : HoldsSince (AreStill files t) last l
  pub now : d.honest → AreStill files t d.files
