-- Partitions whose files somebody else's call left as they were.
use Rattle.std.proofs.Common.{◌≡◌, ◌∙◌, ◌≤◌, ◌<◌, ℕ, Some, sym, ap}
use Rattle.std.specs.FinMap.{get}
use Rattle.kb_store.specs.Disk.{Disk}
use Rattle.kb_log.specs.OnShelf.{Log, IsLawfulLog}
use Rattle.kb_producers.specs.Batches.{kept_all}
use Rattle.kb_tenant_state.specs.Logs.{LogState}
use Rattle.kb_tenant_state.specs.Partitions.{Entries, Owned, AreSound, AreExact, Agree, partition_at, log_state, logs_of}
use Rattle.kb_tenant_state.specs.declared.partition.Partition.{Partition}
use Rattle.kb_tenant_state.proofs.Changed.{found_at, shown}
use Rattle.kb_tenant_state.proofs.Put.{map_same, values_same}

module _ {L : Type 0} (log : L → Log) (law : (l : L) → IsLawfulLog (log l)) (es : Entries L) (d d' : Disk) (next next' : ℕ)
    (sound : AreSound log es d.table next) (later : next ≤ next')
    (lengths : (file : ℕ) → file < next → Owned log es file → get d'.table file ≡ get d.table file)
    (contents : d'.honest → (file : ℕ) → file < next → Owned log es file → get d'.files file ≡ get d.files file) where
  mine : (i p : ℕ) (x : Partition L) → partition_at i p es ≡ Some x → (file : ℕ) → (log x.log).owns file → Owned log es file
  mine i p x at file own = record { instance = i; number = p; partition = x; at = at; own = own }

  below : (i p : ℕ) (x : Partition L) → partition_at i p es ≡ Some x → (file : ℕ) → (log x.log).owns file → file < next
  below i p x at file own = (law x.log).given_out d.table next (sound.each i p x at) file own

  there : d'.honest → (i p : ℕ) (x : Partition L) → partition_at i p es ≡ Some x → (file : ℕ) → (log x.log).owns file → get d'.files file ≡ get d.files file
  there honest i p x at file own = contents honest file (below i p x at file own) (mine i p x at file own)

  pub spared_sound : AreSound log es d'.table next'
  spared_sound = record {
    ordered = sound.ordered;
    each = λ i p x at. (law x.log).sound_stays d.table d'.table next next' (sound.each i p x at) later (λ file own. lengths file (below i p x at file own) (mine i p x at file own));
    apart = sound.apart;
  }

  pub spared_exact : AreExact log es d.table → AreExact log es d'.table
  spared_exact exact i p x at =
      let old = exact i p x at in
      ((law x.log).exact_stays d.table d'.table old.0 (λ file own. lengths file (below i p x at file own) (mine i p x at file own)), old.1)

  list : d'.honest → (i p : ℕ) (x : Partition L) → partition_at i p es ≡ Some x → (log x.log).batches d'.files ≡ (log x.log).batches d.files
  list honest i p x at = (law x.log).batches_stay d.files d'.files (there honest i p x at)

  pub spared_agree : d'.honest → Agree log es d.files → Agree log es d'.files
  spared_agree honest agree = record {
    each = λ i p x at. (law x.log).agrees_stays d.files d'.files (agree.each i p x at) (there honest i p x at);
    producers = λ i p x at. agree.producers i p x at ∙ sym (ap kept_all (list honest i p x at));
  }

  same_state : d'.honest → (i p : ℕ) (x : Partition L) → partition_at i p es ≡ Some x → log_state (log x.log) d'.files ≡ log_state (log x.log) d.files
  same_state honest i p x at = ap (λ bs. (let s : LogState = record { start = (log x.log).start; end = (log x.log).end; batches = bs } in s)) (list honest i p x at)

  pub spared_logs : d'.honest → logs_of log es d'.files ≡ logs_of log es d.files
  spared_logs honest =
      let state : Partition L → LogState = λ x. log_state (log x.log) d.files in
      let state' : Partition L → LogState = λ x. log_state (log x.log) d'.files in
      values_same (shown log d.files) (shown log d'.files) es sound.ordered
      (λ j t a. map_same state state' t.items (λ q x b. same_state honest j q x (found_at es j q (Some t) a ∙ b)))
