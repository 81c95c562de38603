-- Logs that agree with their files are within their limits.
use Rattle.std.proofs.Common.{◌≡◌, ◌∙◌, ◌≤◌, ◌<◌, ◌+◌, ◌^◌, ℕ, zero, suc, List, [], ◌∷◌, length, Some, ap, refl, arith}
use Rattle.std.specs.Prelude.{All, map, slice_get, option_map}
use Rattle.std.specs.List.{AllByRecursion}
use Rattle.std.specs.Option.{option_and_then}
use Rattle.std.specs.Ordering.{nat_cmp}
use Rattle.std.specs.Cmp.{nat_cmp_total, eq_by_cmp_equiv}
use Rattle.std.specs.Map.{keys_of}
use Rattle.std.specs.declared.alloc.Global.{Global}
use Rattle.std.specs.declared.vec.Vec.{Vec}
use Rattle.std.proofs.lemmas.List.Elements.{All-from_recursion, All-map, All-nil}
use Rattle.std.proofs.lemmas.Map.Entries.{lookup_from_place}
use Rattle.std.proofs.lemmas.Map.Keys.{IsDistinct-from_sorted}
use Rattle.std.proofs.lemmas.Option.{slice_get-map}
use Rattle.kb_store.specs.Disk.{Disk, Table, Files}
use Rattle.kb_batch.specs.Batch.{natural, count_of}
use Rattle.kb_batch.specs.BatchLaws.{batch_small}
use Rattle.kb_log.specs.Log.{IsRun, base_of, first_base}
use Rattle.kb_log.specs.OnShelf.{Log, IsLawfulLog}
use Rattle.kb_tenant_state.specs.Logs.{LogState, Logs}
use Rattle.kb_tenant_state.specs.Partitions.{Agree, AreSound, Entries, log_state, logs_of}
use Rattle.kb_tenant_state.specs.declared.partition.Partition.{Partition}
use Rattle.kb_tenant_state.specs.Parts.{entries}
use Rattle.kb_tenant.specs.Batches.{HasSmallLogs, IsSmall}
use Rattle.kb_tenant_api.specs.Hosted.{kept_of}
use Rattle.kb_tenants.specs.Tenants.{AreKept, hosted, shelf_is_honest, state_of}
use Rattle.kb_tenants.specs.declared.tenants.Tenant.{Tenant}
use Rattle.kb_tenants.specs.declared.tenants.Tenants.{Tenants}

-- what holds at each place
each_place : {A : Type 0} (P : A → Type 0) (xs : List A) → ((i : ℕ) (x : A) → slice_get xs i ≡ Some x → P x) → AllByRecursion P xs
each_place P [] at = tt
each_place P (x ∷ xs) at = (at 0 x refl, each_place P xs (λ i y found. at (suc i) y found))

all_places : {A : Type 0} (P : A → Type 0) (xs : List A) → ((i : ℕ) (x : A) → slice_get xs i ≡ Some x → P x) → All P xs
all_places P xs at = All-from_recursion P xs (each_place P xs at)

-- ---- one log

abbrev IsBased : List ℕ → Type 0
IsBased b = base_of b < 2 ^ 63

abbrev IsShort : List ℕ → Type 0
IsShort b = length b ≤ 1048588

-- a run to an end within the limit
small_run : (at : ℕ) (bs : List (List ℕ)) (end : ℕ) → end < 2 ^ 63 → IsRun at bs end → (at ≤ end) × AllByRecursion IsBased bs × AllByRecursion IsShort bs
small_run at [] end lt run = (omega (arith, run), tt, tt)
small_run at (b ∷ bs) end lt run =
    let rest = small_run (at + count_of b) bs end lt run.2 in
    let based : base_of b ≡ at = ap natural run.1 in
    (omega (arith, rest.0), (omega (arith, based, rest.0, lt), rest.1), (batch_small b run.0, rest.2))

small_log : (l : Log) (table : Table) (next : ℕ) (files : Files) → IsLawfulLog l → l.sound table next → l.agrees files → IsSmall (log_state l files)
small_log l table next files law sound agrees =
    let lt = law.small table next sound in
    let run = small_run (first_base l.end (l.batches files)) (l.batches files) l.end lt (law.run files agrees) in
    record {
      start = omega (arith, law.ordered table next sound, lt);
      end = lt;
      bases = All-from_recursion IsBased (l.batches files) run.1;
      batches = All-from_recursion IsShort (l.batches files) run.2;
    }

-- ---- all logs of all tenants

abbrev AreSmall : Logs → Type 0
AreSmall ls = All (λ (e : ℕ × List LogState). All IsSmall e.1) ls

module _ {L : Type 0} (log : L → Log) (law : (l : L) → IsLawfulLog (log l)) where
  small_logs : (es : Entries L) (table : Table) (next : ℕ) (files : Files) → AreSound log es table next → Agree log es files → AreSmall (logs_of log es files)
  small_logs es table next files sound agree =
      let state : Partition L → LogState = λ x. log_state (log x.log) files in
      let topic : ℕ × Vec (Partition L) Global → ℕ × List LogState = λ e. (e.0, map state e.1.items) in
      let distinct = IsDistinct-from_sorted nat_cmp (keys_of es) sound.ordered in
      All-map (λ (e : ℕ × List LogState). All IsSmall e.1) topic es (all_places (λ (e : ℕ × Vec (Partition L) Global). All IsSmall (map state e.1.items)) es (λ k e found.
      let topics = lookup_from_place (eq_by_cmp_equiv nat_cmp_total) es k e.0 e.1 distinct found in
      All-map IsSmall state e.1.items (all_places (λ (x : Partition L). IsSmall (state x)) e.1.items (λ p x here.
      let at = ap (option_and_then (λ (t : Vec (Partition L) Global). slice_get t.items p)) topics ∙ here in
      small_log (log x.log) table next files (law x.log) (sound.each e.0 p x at) (agree.each e.0 p x at)))))

  small_kept : (files : Files) (ts : List (Tenant L)) (t : ℕ) → ((u : ℕ) (x : Tenant L) → slice_get ts u ≡ Some x → AreSmall (logs_of log (entries x.parts) files))
      → AreSmall (kept_of (map (state_of log files) ts) t).world.logs
  small_kept files [] t each = All-nil (λ (e : ℕ × List LogState). All IsSmall e.1)
  small_kept files (x ∷ ts) zero each = each 0 x refl
  small_kept files (x ∷ ts) (suc t) each = small_kept files ts t (λ u y at. each (suc u) y at)

  pub small_hosted : {S : Type 0} (disk : S → Disk) (ts : Tenants L S) → AreKept log disk ts → shelf_is_honest disk ts → (t : ℕ) → HasSmallLogs (kept_of (hosted log disk ts) t).world
  small_hosted disk ts kept honest t =
      let d = disk ts.shelf.store in
      small_kept d.files ts.tenants.items t (λ u x at.
      let parts = slice_get-map (λ (z : Tenant L). z.parts) ts.tenants.items u ∙ ap (option_map (λ (z : Tenant L). z.parts)) at in
      small_logs (entries x.parts) d.table ts.shelf.next d.files (kept.sound.each u x.parts parts).logs (kept.agree honest u x.parts parts).logs)
