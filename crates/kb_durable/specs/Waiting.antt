-- Files whose removal waits, and the disk without them.
use Rattle.std.specs.Prelude.{◌≡◌, ◌≤◌, ◌==◌, ◌||◌, ◌⊎◌, ℕ, Bool, false, List, [], ◌∷◌, take, drop, IsSome}
use Rattle.std.specs.Ordering.{nat_cmp}
use Rattle.std.specs.FinMap.{FinMap, get, remove}
use Rattle.kb_store.specs.Disk.{Disk, Files, Table, Becomes}
use Rattle.kb_store.specs.Loss.{Loss}

-- one of them is that file
abbrev pub has : List ℕ → ℕ → Bool
has [] file = false
has (k ∷ ks) file = k == file || has ks file

-- the numbers and lengths, or the files, without them
abbrev pub without_keys : {X : Type 0} → List ℕ → FinMap nat_cmp X → FinMap nat_cmp X
without_keys [] m = m
without_keys (k ∷ ks) m = without_keys ks (remove m k)

-- each is there, and once alone
abbrev pub AreThere : List ℕ → Table → Type 0
AreThere [] t = Unit {0}
AreThere (k ∷ ks) t = IsSome (get t k) × AreThere ks (remove t k)

-- ---- what is left while they are removed

-- Some first ones of those that waited are done, and the others are not.
abbrev pub IsTrimmed : ℕ → List ℕ → Files → Files → Type 0
IsTrimmed most waited files found = (count : ℕ) × (count ≤ most) × (found ≡ without_keys (take count waited) files)

-- The first ones are done and no longer wait. And at each moment since, a loss could leave what it could before; or of the removals that
-- waited some first ones are done and at most one more may be done or not, and all else is as it is.
pub record Trims (most : ℕ) (waited waits : List ℕ) (old : Disk) (before : Loss) (new : Disk) (after : Loss) : Type 0 where
  pub count : ℕ
  pub at_most : count ≤ most
  pub rest : waits ≡ drop count waited
  pub disk : Becomes old (without_keys (take count waited) old.table) (without_keys (take count waited) old.files) new
  pub between : new.honest → (t : ℕ) (found : Files) → t ≤ before.moment → after.left_since t found
      → before.left_since t found ⊎ IsTrimmed most waited old.files found
