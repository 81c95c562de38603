-- The disk that a store over a folder is.
use Rattle.std.specs.Prelude.{◌≡◌, ◌+◌, ◌<◌, ℕ, List, length, min, Option, Some, None, option_map, unwrap_or, Result, Ok, Err}
use Rattle.std.proofs.Common.{refl, sym, subst, lit<, arith}
use Rattle.std.specs.Coded.{Coded, code_by, coded×, coded_ℕ, coded_list}
use Rattle.std.specs.Ordering.{nat_cmp}
use Rattle.std.specs.FinMap.{from_entries, get}
use Rattle.std.specs.BTreeMap.{is_at}
use Rattle.std.specs.Map.{lookup}
use Rattle.kb_store.proofs.Seen.{get_seen}
use Rattle.kb_store.specs.Disk.{Disk, Table, Files, IsLawfulDisk}
use Rattle.kb_store.specs.Memory.{seen_as}
use Rattle.kb_store.specs.declared.fault.StoreFault.{StoreFault}
use Rattle.kb_store.specs.declared.fault.StoreFault.TheVariants.{Device, Memory}
use Rattle.kb_folder.specs.Folder.{Contents}

-- what callers see of the store
pub record Foldered (F : Type 0) : Type 0 where
  pub folder : F
  pub lens : List (ℕ × ℕ)
  pub failures : ℕ

abbrev pub foldered : {F : Type 0} → F → List (ℕ × ℕ) → ℕ → Foldered F
foldered f l n = record { folder = f; lens = l; failures = n }

abbrev pub foldered_code : {F : Type 0} → Coded F → Coded (Foldered F)
foldered_code {F} f = code_by (F × (List (ℕ × ℕ) × ℕ)) (coded× f (coded× (coded_list (coded× coded_ℕ coded_ℕ)) coded_ℕ)) (λ v.
    (v.folder, (v.lens, v.failures))) (λ p. record { folder = p.0; lens = p.1.0; failures = p.1.1 }) (λ _. refl)

-- a length fits 64 bits
abbrev pub fitted : ℕ → ℕ
fitted n = min n 18446744073709551615

-- numbers and lengths
abbrev pub table_of : List (ℕ × ℕ) → Table
table_of lens = from_entries (seen_as fitted lens)

-- The table has the length of each file, and no other.
abbrev pub AreLengths : Table → Files → Type 0
AreLengths table files = (file : ℕ) → get table file ≡ option_map length (get files file)

-- The lengths that are kept, and the folder's files. The store is honest while the folder is and the lengths are those of its files.
abbrev pub folder_disk : Contents → List (ℕ × ℕ) → ℕ → Disk
folder_disk c lens failures =
    record { table = table_of lens; files = c.files; honest = c.honest × AreLengths (table_of lens) c.files; failures = failures }

abbrev pub disk_over : {F : Type 0} → (F → Contents) → Foldered F → Disk
disk_over contents s = folder_disk (contents s.folder) s.lens s.failures

-- One more failure where the device is blamed, short of u64's end; else none.
abbrev pub counted : {T : Type 0} → ℕ → Result T StoreFault → ℕ
counted n (Ok x) = n
counted n (Err Device) = min (n + 1) 18446744073709551615
counted n (Err Memory) = n

option_fits : (o : Option ℕ) → unwrap_or (option_map fitted o) 0 < 18446744073709551616
option_fits None = lit< tt
option_fits (Some n) = omega arith

pub folder_lawful : (c : Contents) (lens : List (ℕ × ℕ)) (failures : ℕ) → IsLawfulDisk (folder_disk c lens failures)
folder_lawful c lens failures = record {
  lengths = λ h file. h.1 file;
  fits = λ file. subst (λ o. unwrap_or o 0 < 18446744073709551616) (sym (get_seen fitted lens file))
      (option_fits (lookup (is_at (nat_cmp file)) lens));
}
