-- One tenant, to look at.
use Rattle.kb_store.specs.Disk.{Files}
use Rattle.kb_log.specs.OnShelf.{Log}
use Rattle.kb_tenant_state.specs.Parts.{world_of}
use Rattle.kb_tenant_api.specs.Hosted.{TenantState, kept_in}
use Rattle.kb_tenants.specs.declared.view.TenantView.{TenantView}

-- the tenant that is looked at, where the files are those
abbrev pub viewed : {L : Type 0} → (L → Log) → Files → TenantView L → TenantState
viewed log files v =
    record { name = v.name.now; kept = kept_in (world_of log v.parts.now files) v.groups.now; refusals = v.parts.now.refusals }
