-- Which calls a fuse refuses, and the disk that a store with a fuse is.
use Rattle.std.specs.Prelude.{◌≡◌, ℕ, ◌+◌, ◌-◌, ◌==◌, min, Bool, true, false, if◌then◌else◌, nat_le, Result, Err, List, length, take}
use Rattle.kb_store.specs.Disk.{Disk, IsLawfulDisk}
use Rattle.kb_store.specs.declared.fault.StoreFault.{StoreFault}
use Rattle.kb_store.specs.declared.fault.StoreFault.TheVariants.{Device}
use Rattle.kb_store.specs.declared.fused.Fuse.{Fuse}
use Rattle.kb_store.specs.declared.fused.Fuse.TheVariants.{Once, From}
use Rattle.kb_store.specs.declared.fused.FusedStore.{FusedStore}

-- The call of that number is refused. The first call has the number 1.
abbrev pub refuses_call : Fuse → ℕ → Bool
refuses_call (Once k) n = n == k
refuses_call (From k) n = nat_le k n

-- The bytes that are kept of a refused append: so many of the first ones, and never the last one.
abbrev pub kept_front : ℕ → List ℕ → List ℕ
kept_front keep bytes = take (min keep (length bytes - 1)) bytes

-- One more, short of u64's end.
abbrev pub one_more : ℕ → ℕ
one_more n = min (n + 1) 18446744073709551615

-- The inner disk, whose device also failed at each refused call. The count stays at u64's end.
abbrev pub fused_disk : Disk → ℕ → Disk
fused_disk d refused =
    record { table = d.table; files = d.files; honest = d.honest; failures = min (d.failures + refused) 18446744073709551615 }

abbrev pub disk_through : {S : Type 0} → (S → Disk) → FusedStore S → Disk
disk_through inner s = fused_disk (inner s.store) s.refused

-- A call was counted, and it was refused if the fuse names its number. One that was not refused was done whole.
pub record Counts {S T : Type 0} (old : FusedStore S) (result : Result T StoreFault) (new : FusedStore S) : Type 0 where
  pub fuse : new.fuse ≡ old.fuse
  pub keep : new.keep ≡ old.keep
  pub calls : new.calls ≡ one_more old.calls
  pub refused : new.refused ≡ (if refuses_call old.fuse (one_more old.calls) then one_more old.refused else old.refused)
  pub device : refuses_call old.fuse (one_more old.calls) ≡ true → result ≡ Err Device
  pub whole : refuses_call old.fuse (one_more old.calls) ≡ false → new.partial ≡ old.partial

-- A call was counted that is done whole or not at all.
pub record CountsWhole {S T : Type 0} (old : FusedStore S) (result : Result T StoreFault) (new : FusedStore S) : Type 0 where
  pub counts : Counts old result new
  pub partial : new.partial ≡ old.partial

pub fused_lawful : (d : Disk) (refused : ℕ) → IsLawfulDisk d → IsLawfulDisk (fused_disk d refused)
fused_lawful d refused l = record { lengths = l.lengths; fits = l.fits }
