-- The parts of the broker at its start.
use Rattle.std.proofs.Common.{◌≡◌, ◌<◌, ◌+◌, ◌++◌, ◌^◌, ◌&&◌, ◌||◌, Bool, false, not, take, ℕ, ℤ, pos, negsuc, List, [], ◌∷◌, map, length, get_or, refl, sym, ap, subst, ◌∙◌, lit<, lit≤, string_bytes, arith}
use Rattle.std.proofs.Math.ListN.{get_or-map, length-map}
use Rattle.std.specs.List.{AllByRecursion, Contains, filter_map}
use Rattle.std.proofs.lemmas.List.{get_or_default, map-append, take_more}
use Rattle.std.proofs.lemmas.List.Elements.{recursion_from_All}
use Rattle.std.specs.Prelude.{IsTrue}
use Rattle.std.proofs.lemmas.Bool.Decides.{nat_tests}
use Rattle.kb_wire.specs.Codec.{int, array, string}
use Rattle.kb_wire.specs.Fits.{array_fits, string_fits}
use Rattle.kb_settings.specs.Settings.{is_within}
use Rattle.kb_settings.specs.Address.{is_listened, is_wildcard}
use Rattle.kb_api_group.specs.Layouts.{api_version}
use Rattle.kb_api_group.specs.declared.api_versions.ApiVersion.{ApiVersion}
use Rattle.kb_tenant_api.specs.Hosted.{TenantState, names_of, new_tenant}
use Rattle.kb_isolation_spec.specs.Greeting.{User as Login, Setup}
use Rattle.kb_isolation_spec.specs.Machine.{first_able}
use Rattle.kb_isolation_spec.specs.Broker.{BrokerState, AreUnready, AnyWait, IsSound}
use Rattle.kb_store.specs.Disk.{Disk}
use Rattle.kb_broker.specs.Hosts.{OnStore, IsReadyOn}
use Rattle.kb_settings.specs.Names.{place_of_name}
use Rattle.kb_settings.specs.Values.{values_of}
use Rattle.kb_tenant.specs.declared.node.Node.{Node}
use Rattle.kb_broker.specs.Nodes.{node_named, node_unnamed}
use Rattle.kb_broker.specs.Opening.{tenant_of, tenants_of, login_of, opening_listing, opening_over, opening_setup, versions_of, listed_as}
use Rattle.kb_broker.specs.declared.opening.Listing.{Listing}
use Rattle.kb_broker.specs.declared.opening.Listing.TheVariants as listings
use Rattle.kb_settings.specs.declared.settings.User.{User}
use Rattle.kb_settings.specs.declared.settings.Settings.{Settings}
use Rattle.kb_settings.proofs.NamesInOrder.{rises-in_order, in-in_order, place-below}

pub versions-fit : (vs : List ApiVersion) → length vs < 2 ^ 31 → (array api_version).Fits vs
unfolding api_version int
versions-fit vs lt = array_fits api_version vs lt (λ k d below. (tt, (tt, tt)))

-- the table of both listings
abbrev listed_from : ℕ → ℕ → ℕ → ℕ → ℕ → ℤ × ℤ × ℤ × ℤ × ℤ
listed_from key least greatest stock_least stock_greatest = (pos key, pos least, pos greatest, pos stock_least, pos stock_greatest)

-- the same, listed with stock clients alone
abbrev listed_from_none : ℕ → ℕ → ℕ → ℤ × ℤ × ℤ × ℤ × ℤ
listed_from_none key stock_least stock_greatest = (pos key, pos 0, negsuc 0, pos stock_least, pos stock_greatest)

abbrev rows : List (ℤ × ℤ × ℤ × ℤ × ℤ)
rows =
    listed_from 0 3 3 3 6 ∷
    listed_from 1 4 5 4 9 ∷
    listed_from 2 1 1 1 4 ∷ listed_from 3 1 1 0 7 ∷ listed_from 8 2 2 1 6 ∷ listed_from 9 1 1 1 5 ∷
    listed_from 10 0 0 0 2 ∷ listed_from 11 1 1 1 3 ∷ listed_from 12 0 0 0 2 ∷ listed_from 13 0 0 0 2 ∷ listed_from 14 0 0 0 2 ∷
    listed_from_none 15 0 2 ∷ listed_from_none 16 0 2 ∷ listed_from 17 1 1 0 1 ∷ listed_from 18 0 0 0 2 ∷ listed_from 19 0 0 0 3 ∷
    listed_from 20 0 0 0 3 ∷ listed_from 21 0 0 0 1 ∷ listed_from 22 0 0 0 1 ∷ listed_from_none 32 0 2 ∷ listed_from 36 0 0 0 0 ∷
    listed_from_none 42 0 1 ∷ []

-- from it each listing lists what it is to list
pub all-listed : (listing : Listing) → filter_map (listed_as listing) rows ≡ versions_of listing
all-listed listings.Served = refl
all-listed listings.StockClients = refl

pub few-listed : (listing : Listing) → length (versions_of listing) < 2 ^ 31
few-listed listings.Served = lit< tt
few-listed listings.StockClients = lit< tt

-- a host of at most 255 bytes fits a reply
pub host-fits : (host text : List ℕ) → host ≡ text → IsTrue (is_listened false text) → string.Fits host
host-fits host text same fits = subst string.Fits (sym same) (string_fits text (short (length text) (not (is_wildcard text) || false) fits))
  where
    short : (n : ℕ) (b : Bool) → IsTrue (is_within 1 255 n && b) → n < 2 ^ 15
    short n b fits = grind (arith, nat_tests)

contains-map : {X Y : Type 0} (f : X → Y) (xs : List X) (i : ℕ) (x : X) → i < length xs → x ≡ get_or xs i x → Contains (map f xs) (f x)
contains-map f xs i x lt is = (i, subst (λ (n : ℕ). i < n) (sym (length-map xs f)) lt, get_or-map f xs i x ∙ ap f (sym is))

-- the tenant of a user is one of the users' tenants
pub tenant-in : (users : List User) (i : ℕ) (u : User) → i < length users → u ≡ get_or users i u → Contains (tenants_of users) (tenant_of u)
tenant-in users i u lt is = in-in_order (map tenant_of users) (tenant_of u) (contains-map tenant_of users i u lt is)

all-map : {X Y : Type 0} (P : Y → Type 0) (f : X → Y) (xs : List X) → AllByRecursion (λ x. P (f x)) xs → AllByRecursion P (map f xs)
all-map P f [] all = tt
all-map P f (x ∷ xs) all = (all.0, all-map P f xs all.1)

-- a broker at its start is ready for an event, on any store, where its tenants have the names that its users name
pub over-ready : {S : Type 0} (disk : S → Disk) (listing : Listing) (s : Settings) (ts : List TenantState) (b : OnStore S) → names_of ts ≡ tenants_of s.users.items → b.state ≡ opening_over listing s ts → IsReadyOn disk b
over-ready disk listing s ts b named is =
    let users : List User = s.users.items in
    let names : List (List ℕ) = tenants_of users in
    let many : length names ≡ length ts = sym (ap length named) ∙ length-map ts (λ (x : TenantState). x.name) in
    let below : AllByRecursion (λ (u : User). place_of_name (tenant_of u) names < length ts) users = recursion_from_All _ users (λ k d lt.
    subst (λ (n : ℕ). place_of_name (tenant_of (get_or users k d)) names < n) many
    (place-below names (tenant_of (get_or users k d)) (rises-in_order (map tenant_of users)) (tenant-in users k (get_or users k d) lt (get_or_default users k d (get_or users k d) lt)))) in
    let sound : IsSound (opening_over listing s ts) = record {
      rising = lit≤ tt;
      in_range = tt;
      users = all-map (λ (u : Login). u.tenant < length ts) (login_of names) users below;
      clock = lit≤ tt;
    } in
    record {
      sound = subst IsSound (sym is) sound;
      settled = ap (λ (x : BrokerState). first_able x.lines) is;
      unready = λ honest. subst (AreUnready AnyWait) (sym is) tt;
    }

new-names : (names : List (List ℕ)) → names_of (map new_tenant names) ≡ names
new-names [] = refl
new-names (name ∷ names) = ap (λ (ns : List (List ℕ)). name ∷ ns) (new-names names)

-- so it is where no tenant keeps anything
pub opening-ready : {S : Type 0} (disk : S → Disk) (listing : Listing) (s : Settings) (b : OnStore S) → b.state ≡ opening_listing listing s → IsReadyOn disk b
opening-ready disk listing s b is = over-ready disk listing s (map new_tenant (tenants_of s.users.items)) b (new-names (tenants_of s.users.items)) is

-- of these parts a broker over those tenants is made
pub over-made : (listing : Listing) (s : Settings) (ts : List TenantState) (setup : Setup) (b : BrokerState) → setup ≡ opening_setup listing s
    → b ≡ record { setup = setup; tenants = ts; unbound_refusals = 0; clock = 0; last = 0; lines = [] }
    → b ≡ opening_over listing s ts
over-made listing s ts setup b fixed is =
    let start : Setup → BrokerState = λ setup. record { setup = setup; tenants = ts; unbound_refusals = 0; clock = 0; last = 0; lines = [] } in
    is ∙ ap start fixed

map-twice : {X Y Z : Type 0} (f : X → Y) (g : Y → Z) (xs : List X) → map (λ x. g (f x)) xs ≡ map g (map f xs)
map-twice f g [] = refl
map-twice f g (x ∷ xs) = ap (λ zs. g (f x) ∷ zs) (map-twice f g xs)

-- of these parts what is fixed is made
pub setup-made : {X : Type 0} (listing : Listing) (f : X → List ℕ) (s : Settings) (names : List X) (versions : List ApiVersion) (users : List Login) (nodes : List Node) (node : Node) (limit : ℕ) (setup : Setup)
    → map f names ≡ tenants_of s.users.items → versions ≡ versions_of listing → users ≡ map (login_of (tenants_of s.users.items)) s.users.items
    → nodes ≡ map (λ n. node_named listing (values_of s) (f n)) names → node ≡ node_unnamed listing (values_of s)
    → limit ≡ s.requests.request_bytes
    → setup ≡ record { versions = versions; users = users; nodes = nodes; node = node; request_bytes = limit } → setup ≡ opening_setup listing s
setup-made listing f s names versions users nodes node limit setup named v u ns n l is =
    let each : nodes ≡ map (node_named listing (values_of s)) (tenants_of s.users.items) = ns ∙ map-twice f (node_named listing (values_of s)) names ∙ ap (map (node_named listing (values_of s))) named in
    let made : List ApiVersion → List Login → List Node → Node → Setup = λ v u ns n. record { versions = v; users = u; nodes = ns; node = n; request_bytes = s.requests.request_bytes } in
    is ∙ ap (λ k. record { versions = versions; users = users; nodes = nodes; node = node; request_bytes = k }) l ∙ ap (λ v. made v users nodes node) v ∙ ap (λ u. made (versions_of listing) u nodes node) u
    ∙ ap (λ ns. made (versions_of listing) (map (login_of (tenants_of s.users.items)) s.users.items) ns node) each
    ∙ ap (made (versions_of listing) (map (login_of (tenants_of s.users.items)) s.users.items) (map (node_named listing (values_of s)) (tenants_of s.users.items))) n

-- a broker that is made of these parts is the one at its start
pub opening-made : {X : Type 0} (listing : Listing) (f : X → List ℕ) (s : Settings) (users : List User) (names : List X) (tenants : List TenantState) (setup : Setup) (b : BrokerState)
    → users ≡ s.users.items → map f names ≡ tenants_of users → tenants ≡ map (λ n. new_tenant (f n)) names → setup ≡ opening_setup listing s
    → b ≡ record { setup = setup; tenants = tenants; unbound_refusals = 0; clock = 0; last = 0; lines = [] }
    → b ≡ opening_listing listing s
opening-made listing f s users names tenants setup b u n p fixed is =
    let start : Setup → List TenantState → BrokerState = λ setup tenants. record { setup = setup; tenants = tenants; unbound_refusals = 0; clock = 0; last = 0; lines = [] } in
    let named : tenants ≡ map new_tenant (tenants_of s.users.items) = p ∙ map-twice f new_tenant names ∙ ap (map new_tenant) (n ∙ ap tenants_of u) in
    is ∙ ap (λ setup. start setup tenants) fixed ∙ ap (start (opening_setup listing s)) named

-- a list made of the items so far, and then of the next one too
pub mapped-more : {A B : Type 0} (f : A → B) (xs : List A) (i : ℕ) (d : A) (ys zs : List B) → i < length xs → ys ≡ map f (take i xs) → zs ≡ ys ++ f (get_or xs i d) ∷ [] → zs ≡ map f (take (i + 1) xs)
mapped-more f xs i d ys zs within so-far more =
    more ∙ (ap (λ l. l ++ f (get_or xs i d) ∷ []) so-far ∙ sym (ap (map f) (take_more xs i d within) ∙ map-append f (take i xs) (get_or xs i d ∷ [])))
