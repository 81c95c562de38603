-- A bound connection has logged in as a user of its tenant.
use Rattle.std.specs.Prelude.{◌≡◌, ℕ, List, Option, Some, ⊤}
use Rattle.std.specs.List.{AllByRecursion, slice_get}
use Rattle.std.specs.Option.{option_map}
use Rattle.kb_isolation_spec.specs.declared.login.Login.{Login}
use Rattle.kb_isolation_spec.specs.declared.login.Login.TheVariants as logins
use Rattle.kb_isolation_spec.specs.Session.{Stage, Greets, BoundTo}
use Rattle.kb_isolation_spec.specs.Greeting.{User}
use Rattle.kb_isolation_spec.specs.Machine.{Line}

-- the tenant of the user at that place, if there is one
abbrev pub tenant_of : List User → ℕ → Option ℕ
tenant_of users user = option_map (λ (u : User). u.tenant) (slice_get users user)

-- at that stage, if it is bound, it has logged in as a user of its tenant
abbrev pub HasLoggedIn : List User → Stage → Login → Type 0
HasLoggedIn users (Greets greeting) login = ⊤
HasLoggedIn users (BoundTo tenant wait) login = (user : ℕ) × (login ≡ logins.User user) × (tenant_of users user ≡ Some tenant)

-- and so has each of these connections
abbrev pub HaveLoggedIn : List User → List Line → Type 0
HaveLoggedIn users lines = AllByRecursion (λ l. HasLoggedIn users l.session.stage l.session.login) lines
