-- On which connections members of groups wait.
use Rattle.std.specs.Prelude.{◌≡◌, ◌+◌, ◌<◌, ◌≤◌, ℕ, List, Option, Some, None, true}
use Rattle.kb_tenant_api.specs.Hosted as hosted
use Rattle.kb_tenant_api.specs.Hosted.{TenantState}
use Rattle.kb_tenant_api.specs.Waiters.{members_on, replies_on}
use Rattle.kb_isolation_spec.specs.Tenant.{is_members}
use Rattle.kb_isolation_spec.specs.Session.{Stage, Greets, BoundTo, Session}
use Rattle.kb_isolation_spec.specs.Machine.{find_line}
use Rattle.kb_isolation_spec.specs.Broker.{BrokerState}

-- how many members of a tenant's groups wait on the connection of number n
abbrev pub members_of : List TenantState → ℕ → ℕ → ℕ
members_of ts t n = members_on n (hosted.kept_of ts t).groups

-- and how many replies its groups have for that connection
abbrev pub replies_of : List TenantState → ℕ → ℕ → ℕ
replies_of ts t n = replies_on n (hosted.kept_of ts t).groups

-- a connection at that stage is bound to the tenant and waits for its group
abbrev pub IsMembersAt : ℕ → Stage → Type 0
IsMembersAt t (Greets greeting) = ⊥
IsMembersAt t (BoundTo u None) = ⊥
IsMembersAt t (BoundTo u (Some wait)) = (u ≡ t) × (is_members wait.awaited ≡ true)

abbrev pub IsMembersIn : ℕ → Option Session → Type 0
IsMembersIn t None = ⊥
IsMembersIn t (Some s) = IsMembersAt t s.stage

-- No member is left waiting where nobody answers: a connection on which a member of a tenant's groups waits is there, is bound to that
-- tenant and waits for its group. One member at most waits on it, and none that has a reply.
pub record NoneStranded (b : BrokerState) : Type 0 where
  pub held : (t n : ℕ) → 0 < members_of b.tenants t n → IsMembersIn t (find_line n b.lines)
  pub once : (t n : ℕ) → members_of b.tenants t n + replies_of b.tenants t n ≤ 1
