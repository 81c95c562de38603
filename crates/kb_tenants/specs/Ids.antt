-- What becomes of a tenant whose catalog has lost producer ids.
use Rattle.std.specs.Prelude.{◌≡◌, ◌≤◌, ◌<◌, Result, Ok, Err}
use Rattle.kb_topics.specs.declared.fault.CatalogFault.{CatalogFault}
use Rattle.kb_topics.specs.declared.fault.CatalogFault.TheVariants as catalog
use Rattle.kb_tenant_state.specs.Ids.{next_unused, skipped, with_issues}
use Rattle.kb_tenant_api.specs.Hosted.{Kept}

-- what is kept, where each producer id below the next unused one was given out
abbrev pub kept_skipped : Kept → Kept
kept_skipped k = record k { world = skipped k.world }

-- The first of the ids were given out, but not all, and all else is kept as it was.
pub record IsKeptInPart (k l : Kept) : Type 0 where
  pub some : k.world.known.issues ≤ l.world.known.issues
  pub short : l.world.known.issues < next_unused k.world
  pub stays : l ≡ record k { world = with_issues l.world.known.issues k.world }

-- why it was refused: the meta log is full, the store failed, or memory ran out
abbrev pub IsSkipCause : Type 0 → Type 0 → CatalogFault → Type 0
IsSkipCause failed full catalog.Full = full
IsSkipCause failed full catalog.Store = failed
IsSkipCause failed full catalog.Memory = Unit {0}
IsSkipCause failed full _ = ⊥

-- what is kept behind such a call, by its answer
abbrev pub KeepsSkipped : Type 0 → Type 0 → Result (Unit {0}) CatalogFault → Kept → Kept → Type 0
KeepsSkipped failed full (Ok u) k l = l ≡ kept_skipped k
KeepsSkipped failed full (Err f) k l = IsSkipCause failed full f × IsKeptInPart k l
