-- Producer ids that a start gives out to nobody.
use Rattle.std.specs.Prelude.{◌<◌, ℕ, List, [], Option, None, Some, length}
use Rattle.kb_isolation_spec.specs.Broker.{BrokerState, kept_of_tenant}
use Rattle.kb_tenant_api.specs.Hosted.{TenantState}
use Rattle.kb_tenant_state.specs.Ids.{GivesFresh}

-- No producer id that is given out from now on is that of a batch of its tenant.
abbrev pub AllGiveFresh : BrokerState → Type 0
AllGiveFresh b = (t : ℕ) → t < length b.tenants → GivesFresh (kept_of_tenant b t).world

-- a tenant's name: none where there is no tenant
abbrev pub tenant_name : Option TenantState → List ℕ
tenant_name None = []
tenant_name (Some tenant) = tenant.name
