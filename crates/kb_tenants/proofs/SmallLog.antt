-- A log that agrees with its files is within its limits, whoever wrote them.
use Rattle.std.proofs.Common.{◌≡◌, ◌≤◌, ◌<◌, ◌+◌, ◌^◌, ℕ, List, [], ◌∷◌, length, ap, arith}
use Rattle.std.specs.List.{AllByRecursion}
use Rattle.std.proofs.lemmas.List.Elements.{All-from_recursion}
use Rattle.kb_store.specs.Disk.{Table, Files}
use Rattle.kb_batch.specs.Batch.{natural, count_of}
use Rattle.kb_batch.specs.BatchLaws.{batch_small}
use Rattle.kb_log.specs.Log.{IsRun, base_of, first_base}
use Rattle.kb_log.specs.OnShelf.{Log, IsLawfulLog}
use Rattle.kb_tenant_state.specs.Partitions.{log_state}
use Rattle.kb_tenant.specs.Batches.{IsSmall}

abbrev IsBased : List ℕ → Type 0
IsBased b = base_of b < 2 ^ 63

abbrev IsShort : List ℕ → Type 0
IsShort b = length b ≤ 1048588

-- a run to an end within the limit
small_run : (at : ℕ) (bs : List (List ℕ)) (end : ℕ) → end < 2 ^ 63 → IsRun at bs end → (at ≤ end) × AllByRecursion IsBased bs × AllByRecursion IsShort bs
small_run at [] end lt run = (omega (arith, run), tt, tt)
small_run at (b ∷ bs) end lt run =
    let rest = small_run (at + count_of b) bs end lt run.2 in
    let based : base_of b ≡ at = ap natural run.1 in
    (omega (arith, rest.0), (omega (arith, based, rest.0, lt), rest.1), (batch_small b run.0, rest.2))

pub small_log : (l : Log) (table : Table) (next : ℕ) (files : Files) → IsLawfulLog l → l.sound table next → l.agrees files → IsSmall (log_state l files)
small_log l table next files law sound agrees =
    let lt = law.small table next sound in
    let run = small_run (first_base l.end (l.batches files)) (l.batches files) l.end lt (law.run files agrees) in
    record {
      start = omega (arith, law.ordered table next sound, lt);
      end = lt;
      bases = All-from_recursion IsBased (l.batches files) run.1;
      batches = All-from_recursion IsShort (l.batches files) run.2;
    }
