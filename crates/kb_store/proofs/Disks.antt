-- A file that was put, and a table with no file.
use Rattle.std.proofs.Common.{◌≡◌, ◌∙◌, ◌+◌, ℕ, List, length, take, unwrap_or, None, IsSome, sym, ap, subst, refl}
use Rattle.std.specs.FinMap.{get, insert, empty, get-empty}
use Rattle.kb_store.specs.Disk.{Disk, Table, IsThere, AppendsSome, len_of}
use Rattle.std.specs.Ordering.{nat_cmp}
use Rattle.kb_store.proofs.Maps.{get_inserted}

pub is_there_put : (old new : Disk) (file n : ℕ) → new.table ≡ insert old.table file n → IsThere new file
is_there_put old new file n e = subst (λ o. IsSome o) (sym (ap (λ t. get t file) e ∙ get_inserted old.table file n)) refl

pub len_of_put : (old new : Disk) (file n : ℕ) → new.table ≡ insert old.table file n → len_of new file ≡ n
len_of_put old new file n e = ap (λ o. unwrap_or o 0) (ap (λ t. get t file) e ∙ get_inserted old.table file n)

-- In a table with no file nothing is found.
pub none_in_empty : (table : Table) (file : ℕ) → table ≡ empty → get table file ≡ None
none_in_empty table file e = ap (λ t. get t file) e ∙ get-empty nat_cmp file

pub is_there_grown : (old new : Disk) (file : ℕ) (bytes : List ℕ) → AppendsSome old file bytes new → IsThere new file
is_there_grown old new file bytes some = is_there_put old new file (len_of old file + length (take some.0 bytes)) some.2.table
