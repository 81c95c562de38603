-- The topics that the commands of a meta log come to have different names.
use Rattle.std.proofs.Common.{ℕ, List}
use Rattle.kb_topics.specs.Known.{Known}
use Rattle.kb_topics.specs.MetaLog.{IsFoldOf}
use Rattle.kb_topics.specs.WellFormed.{AreNamedApart}
use Rattle.kb_topics.proofs.WellFormed.{fold_well_formed}
use Rattle.kb_log.specs.OnShelf.{Log}
use Rattle.kb_store.specs.Disk.{Files}
use Rattle.kb_tenant_state.specs.Parts.{Agrees, world_of}
use Rattle.kb_tenant_state.specs.declared.parts.Parts.{Parts}
use Rattle.kb_tenant.specs.Waiting.{HasOwnNames}

-- what the batches of a generation of a meta log come to
pub fold_apart : (generation : ℕ) (ss : List (List ℕ)) (k : Known) → IsFoldOf generation ss k → AreNamedApart k.topics
fold_apart generation ss k fold = (fold_well_formed generation ss k fold).apart

-- a tenant whose catalog is what its meta log comes to
pub agreed_names : {L : Type 0} (log : L → Log) (p : Parts L) (files : Files) → Agrees log p files → HasOwnNames (world_of log p files)
agreed_names log p files agrees = fold_apart _ _ _ agrees.fold
