-- The logs of a tenant's partitions are whole.
use Rattle.std.proofs.Common.{◌≡◌, ◌∙◌, ℕ, Option, Some, None, refl, sym, ap, subst}
use Rattle.std.specs.Prelude.{option_map}
use Rattle.kb_store.specs.Disk.{Files, Table}
use Rattle.kb_log.specs.OnShelf.{Log, IsLawfulLog}
use Rattle.kb_tenant_state.specs.Logs.{LogState, log_at}
use Rattle.kb_tenant_state.specs.Partitions.{Agree, AreSound, Entries, log_state, logs_of, partition_at}
use Rattle.kb_tenant_state.specs.World.{World}
use Rattle.kb_tenant_state.specs.declared.partition.Partition.{Partition}
use Rattle.kb_tenant_state.proofs.Changed.{log_at_is}
use Rattle.kb_client_served.specs.Served.{HasWholeLogs, IsWhole}

module _ {L : Type 0} (log : L → Log) (lawful : (x : L) → IsLawfulLog (log x)) (es : Entries L) (table : Table) (next : ℕ) (files : Files) (sound : AreSound log es table next) (agree : Agree log es files) where
  state_whole : (i p : ℕ) (x : Partition L) → partition_at i p es ≡ Some x → IsWhole (log_state (log x.log) files)
  state_whole i p x at = record {
    run = (lawful x.log).run files (agree.each i p x at);
    starts = (lawful x.log).starts files (agree.each i p x at);
    small = (lawful x.log).small table next (sound.each i p x at);
  }

  by_entry : (i p : ℕ) (l : LogState) (o : Option (Partition L)) → partition_at i p es ≡ o → option_map (λ (x : Partition L). log_state (log x.log) files) o ≡ Some l → IsWhole l
  by_entry i p l None at there = absurd cc
  by_entry i p l (Some x) at there = let same : log_state (log x.log) files ≡ l = cc in subst IsWhole same (state_whole i p x at)

  whole_at : (i p : ℕ) (l : LogState) → log_at i p (logs_of log es files) ≡ Some l → IsWhole l
  whole_at i p l there = by_entry i p l (partition_at i p es) refl (sym (log_at_is log es i p files) ∙ there)

  pub whole_logs : (w : World) → w.logs ≡ logs_of log es files → HasWholeLogs w
  whole_logs w is place l there = whole_at place.instance place.number l (sym (ap (λ ls. log_at place.instance place.number ls) is) ∙ there)
