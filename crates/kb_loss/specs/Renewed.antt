-- A generation of a catalog that comes after another one.
use Rattle.std.specs.Prelude.{ℕ, List}
use Rattle.kb_topics.specs.Known.{Known}
use Rattle.kb_topics.specs.MetaLog.{SayEach}
use Rattle.kb_topics.specs.WellFormed.{IsWellFormed}
use Rattle.kb_snapshot.specs.Snapshot.{snapshot_of}
use Rattle.kb_loss.specs.Fronts.{IsFrontOf}
use Rattle.kb_loss.specs.Known.{GoesOnTo}

-- The batches of a later generation begin with the snapshot of what was known at its renewal, after more commands.
pub record BeginsAnew (known : Known) (batches : List (List ℕ)) : Type 0 where
  pub renewed : Known
  pub later : GoesOnTo known renewed
  pub kept : IsWellFormed renewed
  pub snapshot : List (List ℕ)
  pub said : SayEach snapshot (snapshot_of renewed)
  pub front : IsFrontOf snapshot batches
