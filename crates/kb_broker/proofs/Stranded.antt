-- Members that wait, as the broker's users see it.
use Rattle.std.proofs.Common.{◌≡◌, ◌≢◌, ◌<◌, ℕ, zero, suc, List, [], ◌∷◌, map, true, false, Option, Some, None, refl, ap, arith}
use Rattle.kb_tenant_api.specs.Hosted.{Kept, TenantState, kept_of, new_tenant, nothing}
use Rattle.kb_tenant_api.specs.Waiters.{members_on, replies_on}
use Rattle.kb_settings.specs.declared.settings.Settings.{Settings}
use Rattle.kb_isolation_spec.specs.Session.{Stage, Greets, BoundTo, Session, is_free}
use Rattle.kb_isolation_spec.specs.Machine.{find_line}
use Rattle.kb_isolation_spec.specs.Broker.{BrokerState, bound_as, bound_to}
use Rattle.kb_isolation_spec.specs.Owners.{whose}
use Rattle.kb_isolation_spec.specs.Calls.{is_open, is_shut, open_in, shut_in}
use Rattle.kb_isolation_spec.specs.Stranded.{IsMembersAt, IsMembersIn, NoneStranded, members_of}
use Rattle.kb_connection.specs.View.{IsLimitedIn}
use Rattle.kb_broker.specs.declared.opening.Listing.{Listing}
use Rattle.kb_broker.specs.Opening.{opening_listing, opening_over, tenants_of, HaveNoGroups}

-- a broker whose tenants have no groups
pub stranded-over : (listing : Listing) (s : Settings) (ts : List TenantState) → HaveNoGroups ts → NoneStranded (opening_over listing s ts)
stranded-over listing s ts none = record {
  held = λ t n some. absurd (let zero = ap (members_on n) (none t) in omega (arith, some, zero));
  once = λ t n. (let a = ap (members_on n) (none t) in let c = ap (replies_on n) (none t) in omega (arith, a, c));
}

kept-new : (names : List (List ℕ)) (t : ℕ) → kept_of (map new_tenant names) t ≡ nothing
kept-new [] t = refl
kept-new (name ∷ names) zero = refl
kept-new (name ∷ names) (suc t) = kept-new names t

-- a broker whose tenants keep nothing yet
pub stranded-first : (listing : Listing) (s : Settings) → NoneStranded (opening_listing listing s)
stranded-first listing s = stranded-over listing s (map new_tenant (tenants_of s.users.items)) (λ t. ap (λ (k : Kept). k.groups) (kept-new (tenants_of s.users.items) t))

-- where no member may wait none does
none-held : (m : ℕ) → (0 < m → ⊥) → m ≡ 0
none-held zero h = refl
none-held (suc m) h = absurd (h (omega arith))

pub stranded-gone : (t n : ℕ) (b : BrokerState) → NoneStranded b → is_open n b ≡ false → members_of b.tenants t n ≡ 0
stranded-gone t n b h shut = none-held (members_of b.tenants t n) (λ some. by (find_line n b.lines) shut (h.held t n some))
  where
    by : (o : Option Session) → open_in o ≡ false → IsMembersIn t o → ⊥
    by None e m = m
    by (Some s) e m = let no : true ≡ false = e in absurd (cc)

waits-somewhere : (t : ℕ) (st : Stage) → is_free st ≡ true → IsMembersAt t st → ⊥
waits-somewhere t (Greets g) e m = m
waits-somewhere t (BoundTo u None) e m = m
waits-somewhere t (BoundTo u (Some w)) e m = let no : false ≡ true = e in absurd (cc)

pub stranded-elsewhere : (t n : ℕ) (b : BrokerState) → NoneStranded b → bound_to n b ≢ Some t → members_of b.tenants t n ≡ 0
stranded-elsewhere t n b h other = none-held (members_of b.tenants t n) (λ some. other (by (find_line n b.lines) (h.held t n some)))
  where
    at : (st : Stage) → IsMembersAt t st → whose st ≡ Some t
    at (Greets g) m = absurd m
    at (BoundTo u None) m = absurd m
    at (BoundTo u (Some w)) m = ap Some m.0

    by : (o : Option Session) → IsMembersIn t o → bound_as o ≡ Some t
    by None m = absurd m
    by (Some s) m = at s.stage m

pub stranded-shut : (t n : ℕ) (b : BrokerState) → NoneStranded b → IsLimitedIn (find_line n b.lines) → is_shut n b ≡ true → members_of b.tenants t n ≡ 0
stranded-shut t n b h limited shut = none-held (members_of b.tenants t n) (λ some. by (find_line n b.lines) limited shut (h.held t n some))
  where
    by : (o : Option Session) → IsLimitedIn o → shut_in o ≡ true → IsMembersIn t o → ⊥
    by None l e m = m
    by (Some s) l e m = waits-somewhere t s.stage (l.2 e) m
