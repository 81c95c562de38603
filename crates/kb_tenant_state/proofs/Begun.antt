-- A tenant without topics.
use Rattle.std.proofs.Common.{◌≡◌, ◌∙◌, ℕ, [], Some, None, sym, ap, refl, subst}
use Rattle.std.specs.FinMap as map
use Rattle.kb_store.specs.Disk.{Files}
use Rattle.kb_batch.specs.Batch.{natural}
use Rattle.kb_log.specs.OnShelf.{Log, IsLawfulLog, IsNew}
use Rattle.kb_topics.specs.Catalog.{known, meta_log}
use Rattle.kb_topics.specs.Known.{Known, empty}
use Rattle.kb_topics.specs.MetaLog.{SayEach, IsFoldOf}
use Rattle.kb_topics.specs.Reading.{in_use}
use Rattle.kb_tenant_state.specs.Logs.{log_at}
use Rattle.kb_tenant_state.specs.Partitions.{Agree, AreStarted, Entries, logs_of}
use Rattle.kb_tenant_state.specs.Parts.{Agrees, entries, meta, recorded_start}
use Rattle.kb_tenant_state.specs.declared.parts.Parts.{Parts}
use Rattle.kb_tenant_state.proofs.Sums.{still_told}

-- it agrees with all files
pub new_agrees : {L : Type 0} (log : L → Log) (law : (l : L) → IsLawfulLog (log l)) (p : Parts L) (files : Files) → IsNew (meta log p) → natural (meta log p).identity.generation ≡ 0 → known p.catalog ≡ empty → entries p ≡ [] → p.stored ≡ Some 0 → Agrees log p files
new_agrees {L} log law p files new first nothing none stored = record {
  catalog = new.agrees files;
  fold = subst (λ (n : ℕ). IsFoldOf n ((meta log p).batches files) (known p.catalog)) (sym first)
      (record { commands = []; said = subst (λ ss. SayEach ss []) (sym (new.empty files)) tt; read = ap (λ (k : Known). Some (in_use k)) (sym nothing) });
  logs = subst (λ (es : Entries L). Agree log es files) (sym none) (record {
    each = λ i q x at. absurd (let bad : None ≡ Some x = at in cc);
    producers = λ i q x at. absurd (let bad : None ≡ Some x = at in cc);
  });
  started = subst (λ (es : Entries L). AreStarted log (recorded_start (known p.catalog)) es) (sym none) (λ i q x at. absurd (let bad : None ≡ Some x = at in cc));
  meta_started = subst (λ n. (meta log p).resumes n) new.start ((law (meta_log p.catalog)).resumes_start map.empty 0 (new.sound map.empty 0));
  until = λ place t l at there. absurd (let bad : None ≡ Some l = sym (ap (λ (es : Entries L). log_at place.instance place.number (logs_of log es files)) none) ∙ there in cc);
  stored = still_told (Some 0) p.stored [] (logs_of log (entries p) files) stored (ap (λ (es : Entries L). logs_of log es files) none) refl;
}
