-- What a call leaves to nobody.
use Rattle.std.proofs.Common.{◌≡◌, ◌∙◌, ◌⊎◌, ⊎_elim, ℕ, List, [], Option, Some, None, sym, ap, subst, refl}
use Rattle.std.specs.Prelude.{IsSome, unwrap_or}
use Rattle.std.specs.FinMap.{get}
use Rattle.kb_store.specs.Disk.{Files, Keeps, Table, bytes_of}
use Rattle.kb_log.specs.OnShelf.{OnlyRemoves, Strays, no_file}
use Rattle.kb_tenant_state.specs.Scene.{GivesUp, LeavesOwn, Scene, WritesOwn}

-- ---- where it is written

-- no file is another
pub keeps_writes : {V W : Type 0} (a : Scene V) (b : Scene W) → Keeps a.disk b.disk → WritesOwn a b
keeps_writes a b keeps honest file there not some =
    (subst (λ (t : Table). IsSome (get t file)) keeps.table there, ap (λ (f : Files). get f file) (keeps.files honest))

-- files alone are removed
pub removes_writes : {V W : Type 0} (a : Scene V) (b : Scene W) → OnlyRemoves a.disk b.disk → WritesOwn a b
removes_writes a b left honest file there not some =
    (subst (λ (n : Option ℕ). IsSome n) (left.lengths file there) there, left.contents honest file there)

-- a log, whose files are theirs, leaves none
pub strays_writes : {V W : Type 0} (a : Scene V) (b : Scene W) (owns owns' : ℕ → Type 0) → ((file : ℕ) → owns' file → b.owns file) → (b.disk.honest → Strays owns owns' a.disk b.disk) → WritesOwn a b
strays_writes a b owns owns' theirs strays honest file there not some = ⊎_elim
    (λ none. absurd (some none))
    (λ was. (was.0, was.1))
    (strays honest file there (λ own. not (theirs file own)))

-- between two looks
pub looked_writes : {T U V W : Type 0} (a : Scene T) (b : Scene U) (c : Scene V) (e : Scene W) → Keeps a.disk b.disk → WritesOwn b c → Keeps c.disk e.disk → ((file : ℕ) → c.owns file → e.owns file)
    → (c.disk.honest → b.disk.honest) → WritesOwn a e
looked_writes a b c e first writes last still before honest file there not some =
    let mid = last.honest honest in
    let same = ap (λ (f : Files). get f file) (last.files honest) in
    let was = writes mid file (subst (λ (t : Table). IsSome (get t file)) last.table there) (λ own. not (still file own)) (λ none. some (ap (λ (o : Option (List ℕ)). unwrap_or o []) same ∙ none)) in
    (subst (λ (t : Table). IsSome (get t file)) first.table was.0, same ∙ was.1 ∙ ap (λ (f : Files). get f file) (first.files (before mid)))

-- ---- what is given up

-- no file is another, and theirs are theirs still
pub keeps_gives : {V W : Type 0} (a : Scene V) (b : Scene W) → ((file : ℕ) → a.owns file → b.owns file) → Keeps a.disk b.disk → GivesUp no_file a b
keeps_gives a b still keeps honest file there not some = let was = keeps_writes a b keeps honest file there not some in (was.0, was.1, λ own. not (still file own))

-- files alone are removed, and those were given up that are theirs no longer
pub removes_gives : {V W : Type 0} (a : Scene V) (b : Scene W) (given : ℕ → Type 0) → ((file : ℕ) → a.owns file → (b.owns file → ⊥) → given file) → OnlyRemoves a.disk b.disk → GivesUp given a b
removes_gives a b given those left honest file there not some = let was = removes_writes a b left honest file there not some in (was.0, was.1, λ own. those file own not)

-- a log of theirs gives up none, and each other file of theirs is theirs still
pub strays_gives : {V W : Type 0} (a : Scene V) (b : Scene W) (owns owns' : ℕ → Type 0) → ((file : ℕ) → owns' file → b.owns file) → ((file : ℕ) → a.owns file → owns file ⊎ b.owns file)
    → (b.disk.honest → Strays owns owns' a.disk b.disk) → GivesUp no_file a b
strays_gives a b owns owns' theirs before strays honest file there not some = ⊎_elim
    (λ none. absurd (some none))
    (λ was. (was.0, was.1, λ own. ⊎_elim (λ mine. was.2 mine) (λ still. not still) (before file own)))
    (strays honest file there (λ own. not (theirs file own)))

-- between two looks
pub looked_gives : {T U V W : Type 0} (a : Scene T) (b : Scene U) (c : Scene V) (e : Scene W) (given : ℕ → Type 0) → Keeps a.disk b.disk → GivesUp given b c → Keeps c.disk e.disk
    → ((file : ℕ) → c.owns file → e.owns file) → ((file : ℕ) → a.owns file → b.owns file) → (c.disk.honest → b.disk.honest) → GivesUp given a e
looked_gives a b c e given first gives last still was_theirs before honest file there not some =
    let mid = last.honest honest in
    let same = ap (λ (f : Files). get f file) (last.files honest) in
    let was = gives mid file (subst (λ (t : Table). IsSome (get t file)) last.table there) (λ own. not (still file own)) (λ none. some (ap (λ (o : Option (List ℕ)). unwrap_or o []) same ∙ none)) in (
      subst (λ (t : Table). IsSome (get t file)) first.table was.0,
      same ∙ was.1 ∙ ap (λ (f : Files). get f file) (first.files (before mid)),
      λ own. was.2 (was_theirs file own),
    )

-- what was written is in their files, whatever is given up
pub gives_writes : {V W : Type 0} (a : Scene V) (b : Scene W) (given : ℕ → Type 0) → GivesUp given a b → WritesOwn a b
gives_writes a b given gives honest file there not some = let was = gives honest file there not some in (was.0, was.1)

-- ---- what is left

-- a file with a byte has bytes
pub has_some : (o : Option (List ℕ)) → (unwrap_or o [] ≡ [] → ⊥) → o ≡ Some (unwrap_or o [])
has_some None not = absurd (not refl)
has_some (Some bytes) not = refl

-- A call that gives up none of their files leaves none.
pub none_leaves : {V W : Type 0} (a : Scene V) (b : Scene W) → GivesUp no_file a b → b.disk.honest → LeavesOwn a b
none_leaves a b gives honest file there not some other = gives honest file there not some

-- One that gives some up leaves these with the bytes that they had.
pub given_leaves : {V W : Type 0} (a : Scene V) (b : Scene W) (given : ℕ → Type 0) → GivesUp given a b → b.disk.honest
    → ((file : ℕ) (bytes : List ℕ) → get a.disk.files file ≡ Some bytes → given file → b.wrote file bytes) → LeavesOwn a b
given_leaves a b given gives honest up file there not some other =
    let was = gives honest file there not some in
    let bytes : get a.disk.files file ≡ Some (bytes_of b.disk file) = sym was.1 ∙ has_some (get b.disk.files file) some in
    (was.0, was.1, λ own. other (up file (bytes_of b.disk file) bytes (was.2 own)))
