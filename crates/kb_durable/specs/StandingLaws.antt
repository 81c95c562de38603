-- What no loss could touch before a call no loss can touch after it, whatever the store: by what each call says of a loss.
use Rattle.std.specs.Prelude.{◌≡◌, ◌≢◌, ◌≤◌, ◌-◌, ◌+◌, ◌++◌, ℕ, List, [], length, take, Option, Some, None, IsSome, unwrap_or}
use Rattle.std.proofs.Common.{◌∙◌, refl, sym, ap, subst, arith, ⊎_elim, append_assoc}
use Rattle.std.proofs.Math.Seq.{take-append-add}
use Rattle.std.proofs.lemmas.Bool.{cases_eq}
use Rattle.std.specs.FinMap.{get, insert, remove}
use Rattle.kb_store.proofs.Maps.{get_inserted, get_removed}
use Rattle.kb_store.specs.Disk.{Files, Table}
use Rattle.kb_store.specs.Loss.{Loss, IsLawfulLoss, Goes, Makes, Tears, Drops, Clears, found_of}
use Rattle.kb_durable.specs.Standing.{AreCoveredBy, HasFronts, Stands}

-- a step that leaves the files of a table alone
stands_by : (table : Table) (step : Files → Files → Type 0) (a b : Loss) → IsLawfulLoss a
    → ((files x y : Files) → AreCoveredBy files table → step x y → HasFronts files x → HasFronts files y) → Goes step a b → Stands table a b
stands_by table step a b timely keeps goes files within safe found left = ⊎_elim
    (λ was. safe found (timely.only_now found was))
    (λ at. keeps files at.0 found within at.2 (safe at.0 at.1))
    (goes.between a.moment found (omega arith) left)

some_is : (o : Option (List ℕ)) → IsSome o → o ≡ Some (unwrap_or o [])
some_is None s = absurd cc
some_is (Some x) s = refl

none_there : {X : Type 0} (o : Option X) → o ≡ None → IsSome o → ⊥
none_there {X} o e some = let s : IsSome {T = X} None = subst (λ p. IsSome p) e some in absurd cc

-- ---- where nothing changes, and a sync

pub stands_cleared : (table : Table) (a b : Loss) → IsLawfulLoss a → Goes (Clears table) a b → Stands table a b
stands_cleared table a b timely goes = stands_by table (Clears table) a b timely
    (λ files x y within clears fronts file bytes at.
    let had = fronts file bytes at in
    (had.0, clears.stays file (within file bytes at).0 ∙ had.1)) goes

-- ---- a file is made

pub stands_made : (table : Table) (made : ℕ) (a b : Loss) → get table made ≡ None → IsLawfulLoss a → Goes (Makes made) a b → Stands table a b
stands_made table made a b none timely goes = stands_by table (Makes made) a b timely
    (λ files x y within makes fronts file bytes at.
    let had = fronts file bytes at in
    (had.0, makes file (λ same. none_there (get table file) (ap (get table) same ∙ none) (within file bytes at).0) ∙ had.1)) goes

-- ---- a file is to be removed: all others

pub stands_dropped : (table : Table) (dropped : ℕ) (a b : Loss) → IsLawfulLoss a → Goes (Drops dropped) a b → Stands (remove table dropped) a b
stands_dropped table dropped a b timely goes = stands_by (remove table dropped) (Drops dropped) a b timely
    (λ files x y within drops fronts file bytes at.
    let had = fronts file bytes at in
    (had.0, drops.others file (λ same. none_there (get (remove table dropped) file) (ap (get (remove table dropped)) same ∙ get_removed table dropped) (within file bytes at).0) ∙ had.1)) goes

-- ---- a file has more, or is cut to a length

module _ (torn keep : ℕ) (x y : Files) (tears : Tears torn keep x y) where
  torn_front : (bytes rest : List ℕ) → length bytes ≤ keep → get x torn ≡ Some (bytes ++ rest) → (more : List ℕ) × (get y torn ≡ Some (bytes ++ more))
  torn_front bytes rest short at =
      let n = keep - length bytes in
      let k : keep ≡ length bytes + n = omega (arith, short) in
      let there : IsSome (get y torn) = tears.there (subst (λ o. IsSome o) (sym at) refl) in
      let had : found_of x torn ≡ bytes ++ rest = ap (λ o. unwrap_or o []) at in
      let front : take keep (bytes ++ rest) ≡ bytes ++ take n rest = ap (λ j. take j (bytes ++ rest)) k ∙ take-append-add bytes rest n in (
        take n rest ++ tears.tail,
        some_is (get y torn) there ∙ ap Some (tears.bytes ∙ ap (λ l. take keep l ++ tears.tail) had ∙ ap (λ l. l ++ tears.tail) front ∙ append_assoc bytes (take n rest) tears.tail),
      )

stands_torn : (table : Table) (torn keep : ℕ) (a b : Loss)
    → ((files : Files) (bytes : List ℕ) → AreCoveredBy files table → get files torn ≡ Some bytes → length bytes ≤ keep)
    → IsLawfulLoss a → Goes (Tears torn keep) a b → Stands table a b
stands_torn table torn keep a b short timely goes = stands_by table (Tears torn keep) a b timely
    (λ files x y within tears fronts file bytes at.
    let had = fronts file bytes at in
    ⊎_elim
    (λ (same : file ≡ torn).
    let here = subst (λ q. get files q ≡ Some bytes) same at in
    let more = torn_front torn keep x y tears bytes had.0 (short files bytes within here) (subst (λ q. get x q ≡ Some (bytes ++ had.0)) same had.1) in
    (more.0, ap (get y) same ∙ more.1))
    (λ (ne : file ≢ torn). (had.0, tears.others file ne ∙ had.1))
    (cases_eq file torn)) goes

pub stands_more : (table : Table) (file : ℕ) (a b : Loss) → IsLawfulLoss a → Goes (Tears file (unwrap_or (get table file) 0)) a b → Stands table a b
stands_more table file a b timely goes =
    stands_torn table file (unwrap_or (get table file) 0) a b (λ files bytes within at. (within file bytes at).1) timely goes

pub stands_cut : (table : Table) (file len : ℕ) (a b : Loss) → IsLawfulLoss a → Goes (Tears file len) a b → Stands (insert table file len) a b
stands_cut table file len a b timely goes =
    stands_torn (insert table file len) file len a b
    (λ files bytes within at. subst (λ o. length bytes ≤ unwrap_or o 0) (get_inserted table file len) (within file bytes at).1) timely goes
