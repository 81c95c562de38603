-- A tenant of a broker has after a loss of power what it had.
use Rattle.std.proofs.Common.{ℕ, List}
use Rattle.kb_store.specs.Disk.{Files}
use Rattle.kb_tenant_api.specs.Hosted.{Kept}
use Rattle.kb_restart.specs.Again.{IsFound}
use Rattle.kb_restart.specs.Restart.{IsReopened, owners_of}
use Rattle.kb_loss.specs.Since.{Touched, AreLeft}
use Rattle.kb_loss.proofs.Owned.{named_owners}
use Rattle.kb_loss.proofs.Tenant.{what_was_left}
use Rattle.kb_recovered.specs.Recovered.{AreAll, IsWrittenSince, KeepsWhatWas}

pub keeps_what_was : (files : Files) (numbers name : List ℕ) (old : Kept) (was : IsFound files numbers name old) → AreAll files numbers → (touched : Touched) (waiting : List ℕ) (found : Files) → AreLeft files touched waiting found → (there : List ℕ) → AreAll found there → (new : Kept)
    → IsReopened found there name new → IsWrittenSince was touched waiting found there new → KeepsWhatWas old new
keeps_what_was files numbers name old was all touched waiting found left there all_there new opened w =
    what_was_left files (owners_of files numbers name) old.world.known old.world.logs was.opened name touched waiting found left (owners_of found there name)
    (named_owners files numbers name all.once all.all) (named_owners found there name all_there.once all_there.all)
    new.world.known new.world.logs w.read w.written opened.opened
