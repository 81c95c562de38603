use Rattle.kb_tenant_state.proofs.SkippedIds.{issued_fresh, issued_later, skipped_fresh}
use Rattle.kb_tenant_state.proofs.promises.skipped_ids_are_fresh.Goals as goal

pub returns : goal.returns
returns c = record { skipped = skipped_fresh; fresh = issued_fresh; later = issued_later }
