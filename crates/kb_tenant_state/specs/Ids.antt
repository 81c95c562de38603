-- Which producer ids the batches of a tenant's logs have, and what becomes of those that its catalog has lost.
use Rattle.std.specs.Prelude.{◌≡◌, ◌≤◌, ◌<◌, ◌-◌, ◌^◌, ◌⊎◌, ℕ, ℤ, pos, List, Contains, Result, Ok, Err, fold, map, max, min}
use Rattle.std.specs.List.{flat_map}
use Rattle.std.specs.declared.alloc.Global.{Global}
use Rattle.std.specs.declared.vec.Vec.{Vec}
use Rattle.kb_store.specs.Disk.{Grew}
use Rattle.kb_producers.specs.Ids.{ids_kept, ids_of, least_above}
use Rattle.kb_topics.specs.declared.fault.CatalogFault.{CatalogFault}
use Rattle.kb_topics.specs.declared.fault.CatalogFault.TheVariants as catalog
use Rattle.kb_tenant_state.specs.Counts.{counted_once}
use Rattle.kb_tenant_state.specs.Logs.{LogState, Logs}
use Rattle.kb_tenant_state.specs.Partitions.{Entries}
use Rattle.kb_tenant_state.specs.Parts.{Seen}
use Rattle.kb_tenant_state.specs.Scene.{Scene, WhereHonest}
use Rattle.kb_tenant_state.specs.Told.{IsDone, IsLogFull}
use Rattle.kb_tenant_state.specs.World.{World}
use Rattle.kb_tenant_state.specs.declared.partition.Partition.{Partition}

-- ---- the ids of batches

-- the batches of some logs
abbrev pub batches_in : List LogState → List (List ℕ)
batches_in ls = flat_map (λ (l : LogState). l.batches) ls

-- those of the logs of all topics
abbrev pub batches_in_all : Logs → List (List ℕ)
batches_in_all ls = flat_map (λ (t : ℕ × List LogState). batches_in t.1) ls

-- the producer ids that the batches in all logs of a tenant have
abbrev pub ids_in : World → List ℤ
ids_in w = ids_of (batches_in_all w.logs)

-- the least number from 0 on that is above each of them, as far as ids are given out
abbrev pub next_unused : World → ℕ
next_unused w = min (least_above (ids_in w)) (2 ^ 63 - 1)

-- No id that is still to be given out is that of a batch. The greatest number is never given out.
abbrev pub GivesFresh : World → Type 0
GivesFresh w = (n : ℕ) → w.known.issues ≤ n → n < 2 ^ 63 - 1 → Contains (ids_in w) (pos n) → ⊥

-- ---- ids that are skipped

-- so many ids were given out
abbrev pub with_issues : ℕ → World → World
with_issues n w = record w { known = record w.known { issues = n } }

-- Each id below the next unused one was given out.
abbrev pub skipped : World → World
skipped w = with_issues (max w.known.issues (next_unused w)) w

-- why it is refused: the meta log is full, the store failed, or memory ran out
abbrev pub IsSkipWant : Scene Seen → Scene Seen → CatalogFault → Type 0
IsSkipWant a b catalog.Full = IsLogFull b
IsSkipWant a b catalog.Store = WhereHonest a b (Grew a.disk.failures b.disk.failures ⊎ (2 ^ 64 ≤ b.next))
IsSkipWant a b catalog.Memory = Unit {0}
IsSkipWant a b _ = ⊥

-- It was refused for a want that there was, which was counted once. The first of the ids were given out, but not all, and all else of the
-- tenant's world is as it was.
pub record IsSkippedInPart (a b : Scene Seen) (f : CatalogFault) : Type 0 where
  pub want : IsSkipWant a b f
  pub counted : b.state.refusals ≡ counted_once a.state.refusals
  pub some : a.state.world.known.issues ≤ b.state.world.known.issues
  pub short : WhereHonest a b (b.state.world.known.issues < next_unused a.state.world)
  pub stays : WhereHonest a b (b.state.world ≡ with_issues b.state.world.known.issues a.state.world)

-- All of them were given out, or else the first of them.
abbrev pub Skips : Scene Seen → Scene Seen → Result (Unit {0}) CatalogFault → Type 0
Skips a b (Ok u) = IsDone a b (b.state.world ≡ skipped a.state.world)
Skips a b (Err f) = IsSkippedInPart a b f

-- ---- by what is kept of producers

-- the least number from 0 on that is above each id of a partition's batches
abbrev pub next_id_of : {L : Type 0} → Partition L → ℕ
next_id_of x = least_above (ids_kept x.producers.kept)

-- ... of the batches of some partitions
abbrev pub next_id_among : {L : Type 0} → List (Partition L) → ℕ
next_id_among {L} xs = fold max 0 (map (λ (x : Partition L). next_id_of x) xs)

-- ... of the partitions of all topics
abbrev pub next_id_among_all : {L : Type 0} → Entries L → ℕ
next_id_among_all {L} es = fold max 0 (map (λ (e : ℕ × Vec (Partition L) Global). next_id_among e.1.items) es)
