-- A file that was given up, of a log that the tenant has no more.
use Rattle.std.proofs.Common.{◌∙◌, ⊎_elim, inl, inr, ◌≤◌, ◌<◌, ℕ, List, sym, ap, arith}
use Rattle.std.specs.Prelude.{string_bytes}
use Rattle.kb_batch.specs.Batch.{natural}
use Rattle.kb_log.specs.OnShelf.{Identity, Log}
use Rattle.kb_topics.specs.Catalog.{catalog_identity, known}
use Rattle.kb_tenant_state.specs.Partitions.{Entries, IsUnmade, partition_identity}
use Rattle.kb_tenant_state.specs.Parts.{IsPast, entries, meta}
use Rattle.kb_tenant_state.specs.Scene.{IsGivenUp}
use Rattle.kb_tenant_state.specs.declared.parts.Parts.{Parts}
use Rattle.kb_tenant_state.proofs.Tied.{AreOf}

-- an instance that was given out and is gone stays gone
abbrev pub StaysGone : {L : Type 0} → Parts L → Entries L → Type 0
StaysGone p es = (i : ℕ) → i < (known p.catalog).creates → IsUnmade i (entries p) → IsUnmade i es

module _ {L : Type 0} (log : L → Log) (p q : Parts L) (of : AreOf q p) (creates : (known p.catalog).creates ≤ (known q.catalog).creates) (gone : StaysGone p (entries q))
    (rises : natural (meta log p).identity.generation ≤ natural (meta log q).identity.generation) where
  -- a log that the tenant has no more it does not get again
  pub past_stays : (who : Identity) → IsPast log p who → IsPast log q who
  past_stays who past = ⊎_elim
      (λ g. inl (record {
        instance = g.instance;
        number = g.number;
        named = g.named ∙ ap (λ t. partition_identity (string_bytes t) g.instance g.number p.segment_bytes) (sym of.0) ∙ ap (partition_identity (string_bytes q.tenant) g.instance g.number) (sym of.1);
        given_out = omega (arith, g.given_out, creates);
        gone = gone g.instance g.given_out g.gone;
      }))
      (λ f. inr (record {
        generation = f.generation;
        named = f.named ∙ ap (λ t. catalog_identity (string_bytes t) f.generation p.segment_bytes) (sym of.0) ∙ ap (catalog_identity (string_bytes q.tenant) f.generation) (sym of.1);
        below = omega (arith, f.below, rises);
      }))
      past

  pub given_up_stays : (file : ℕ) (bytes : List ℕ) → IsGivenUp log (string_bytes p.tenant) (IsPast log p) file bytes → IsGivenUp log (string_bytes q.tenant) (IsPast log q) file bytes
  given_up_stays file bytes up = record {
    had = record { of = up.had.of; files = up.had.files; tenants = up.had.tenants ∙ ap string_bytes (sym of.0); owns = up.had.owns; agrees = up.had.agrees; had = up.had.had };
    past = past_stays (log up.had.of).identity up.past;
  }
