-- For what a broker that cannot open is refused.
use Rattle.std.proofs.Common.{◌≡◌, ◌∙◌, ◌≤◌, ◌^◌, inl, inr, ⊎_elim, ℕ, Err, refl, ap, subst, arith}
use Rattle.std.specs.FinMap.{keys}
use Rattle.kb_store.specs.Disk.{Disk, Keeps, Grew}
use Rattle.kb_log.specs.Shelf.{one_above}
use Rattle.kb_log.specs.declared.fault.LogFault.{LogFault}
use Rattle.kb_log.specs.declared.fault.LogFault.TheVariants.{Range, Full, Store, Memory}
use Rattle.kb_opening.specs.Partition.{MissesShelf}
use Rattle.kb_broker.specs.declared.opening.OpenFault.TheVariants as faults
use Rattle.kb_restart.specs.Restart.{open_fault, BlamesShelf}

-- no offset is blamed
store_blamed : (fault : LogFault) → open_fault fault ≡ faults.Store → (fault ≡ Range → ⊥) → (fault ≡ Full → ⊥) → fault ≡ Store
store_blamed Memory e range full = absurd cc
store_blamed Store e range full = refl
store_blamed Range e range full = absurd (range refl)
store_blamed Full e range full = absurd (full refl)

-- failures that grew since grew since before
pub grown_since : (a b c : ℕ) → Grew b c → a ≤ b → Grew a c
grown_since a b c grew le = omega (arith, grew, le)

pub shelf_blamed : {T : Type 0} (old mid first now : Disk) (next : ℕ) (fault : LogFault) → Keeps old mid → old.failures ≤ first.failures → next ≡ one_above (keys mid.table)
    → MissesShelf {T = T} first next (Unit {0}) (Err fault) now → BlamesShelf old (open_fault fault) now
shelf_blamed old mid first now next fault kept le above m h e =
    ⊎_elim
    (λ grew. inl (grown_since old.failures first.failures now.failures grew le))
    (λ over. inr (subst (λ n. 2 ^ 64 ≤ n) (above ∙ ap (λ t. one_above (keys t)) kept.table) over))
    (m.store h tt (ap Err (store_blamed fault e (λ q. m.range (ap Err q)) (λ q. m.full (ap Err q)))))
