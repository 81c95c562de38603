-- The broker that opens with the standard settings.
use Rattle.std.proofs.Common.{◌≡◌, ℕ, List, [], map, sym, ap, subst, ◌∙◌}
use Rattle.std.proofs.lemmas.Simd.{map-map}
use Rattle.kb_tenant_api.specs.Hosted.{new_tenant}
use Rattle.kb_isolation_spec.specs.Greeting.{User as Login}
use Rattle.kb_isolation_spec.specs.Broker.{BrokerState}
use Rattle.kb_settings.specs.declared.settings.User.{User}
use Rattle.kb_settings.specs.declared.settings.Settings.{Settings}
use Rattle.kb_settings.specs.Names.{in_order, place_of_name}
use Rattle.kb_settings.specs.Values.{Account, Values, account_of, values_of, standard}
use Rattle.kb_broker.specs.Nodes.{node_named, node_unnamed}
use Rattle.kb_broker.specs.declared.opening.Listing.TheVariants as listings
use Rattle.kb_broker.specs.Opening.{served_versions, tenants_of, login_of, opening}
use Rattle.kb_node.specs.Node.{standard_broker}

abbrev names_of : List Account → List (List ℕ)
names_of accounts = in_order (map (λ (a : Account). a.tenant) accounts)

abbrev login_in : List (List ℕ) → Account → Login
login_in names a = record { name = a.name; password = a.password; tenant = place_of_name a.tenant names }

abbrev broker_of : Values → List (List ℕ) → List Login → BrokerState
broker_of v names logins = record { setup = record { versions = served_versions; users = logins; nodes = map (node_named listings.Served v) names; node = node_unnamed listings.Served v; request_bytes = v.requests.request_bytes }; tenants = map new_tenant names; unbound_refusals = 0; clock = 0; last = 0; lines = [] }

abbrev broker_for : Values → BrokerState
broker_for v = broker_of v (names_of v.users) (map (login_in (names_of v.users)) v.users)

names-same : (s : Settings) → names_of (map account_of s.users.items) ≡ tenants_of s.users.items
names-same s = ap in_order (map-map (λ (a : Account). a.tenant) account_of s.users.items)

logins-same : (names : List (List ℕ)) (users : List User) → map (login_in names) (map account_of users) ≡ map (login_of names) users
logins-same names users = map-map (login_in names) account_of users

-- a broker opens with what the settings say of the users, and of the tenants' nodes
opening-for : (s : Settings) → broker_for (values_of s) ≡ opening s
opening-for s =
    ap (λ names. broker_of (values_of s) names (map (login_in names) (map account_of s.users.items))) (names-same s)
    ∙ ap (broker_of (values_of s) (tenants_of s.users.items)) (logins-same (tenants_of s.users.items) s.users.items)

pub opening-standard : (s : Settings) → values_of s ≡ standard → opening s ≡ standard_broker
opening-standard s is = sym (opening-for s) ∙ ap broker_for is

-- what is told of a broker that opens with the standard settings is told of this one
pub told-standard : (s : Settings) (P : BrokerState → Type 0) → values_of s ≡ standard → P (opening s) → P standard_broker
told-standard s P is h = subst P (opening-standard s is) h
