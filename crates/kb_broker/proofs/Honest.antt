-- What may be said where a store has told the truth.
use Rattle.std.proofs.Common.{◌≡◌, ◌≤◌, ◌∙◌, ℕ, List, [], Option, None, Contains, refl, ap, sym, subst, arith, unwrap_or}
use Rattle.std.specs.Prelude.{max}
use Rattle.kb_store.specs.Disk.{Disk}
use Rattle.kb_tenant_api.specs.Hosted.{TenantState, names_of, refusals_of}
use Rattle.kb_tenants.specs.declared.counts.Counts.{Counts}
use Rattle.kb_tenants.proofs.Passed.{length_named}
use Rattle.kb_tenants.proofs.Shares.{shares_rise, shares_same, shares_then}
use Rattle.kb_isolation_spec.specs.Machine.{Comes, first_able}
use Rattle.kb_isolation_spec.specs.Broker.{BrokerState, IsReady, IsSound, IsUntaken}
use Rattle.kb_isolation_spec.specs.Turned.{Of, AreStill}
use Rattle.kb_isolation_spec.specs.declared.whom.Whom.{Whom}
use Rattle.kb_broker.specs.Hosts.{OnStore, is_honest, IsLater, IsLaterBy, IsLaterWith, IsReadyOn}
use Rattle.kb_broker.specs.Truth.{IsTrueMoment, PassesAt, SpeaksAt, SpeaksFor, SpeaksTruth}
use Rattle.kb_broker.proofs.Truth.{at_untaken, comes_then, looks_same, speaks_same, speaks_then}

-- a broker that is ready on its store is ready
pub ready-of : {S : Type 0} (disk : S → Disk) (b : OnStore S) → IsReadyOn disk b → is_honest disk b → IsReady b.state
ready-of disk b r honest = record { sound = r.sound; settled = r.settled; unready = r.unready honest }

-- nothing was asked of the store
pub later-none : (d : Disk) (strays : Option (List ℕ)) (ts : List TenantState) (cs : List Counts) → IsLaterWith d d strays strays ts ts cs cs
later-none d strays ts cs = record {
  honest = λ h. h;
  failures = omega arith;
  many = refl;
  counts = λ t. omega arith;
  accounted = shares_same ts d.failures cs;
  strays_are = refl;
  left_alone = λ honest file c. refl;
}

-- and refusals were counted
pub later-counted : (d : Disk) (strays : Option (List ℕ)) (ts us : List TenantState) (cs : List Counts) → names_of us ≡ names_of ts → ((t : ℕ) → refusals_of ts t ≤ refusals_of us t)
    → IsLaterWith d d strays strays ts us cs cs
later-counted d strays ts us cs names counts = record {
  honest = λ h. h;
  failures = omega arith;
  many = length_named ts us names;
  counts = counts;
  accounted = shares_rise ts us d.failures cs (length_named ts us names) counts;
  strays_are = refl;
  left_alone = λ honest file c. refl;
}

pub later-by : (d e f : Disk) (x y z : Option (List ℕ)) (ps qs rs : List TenantState) (ks ls ms : List Counts) → IsLaterWith d e x y ps qs ks ls → IsLaterWith e f y z qs rs ls ms
    → IsLaterWith d f x z ps rs ks ms
later-by d e f x y z ps qs rs ks ls ms p q = record {
  honest = λ h. p.honest (q.honest h);
  failures = (let first = p.failures in let then = q.failures in omega (arith, first, then));
  many = q.many ∙ p.many;
  counts = λ t. (let first = p.counts t in let then = q.counts t in omega (arith, first, then));
  accounted = shares_then ps qs rs d.failures e.failures f.failures ks ls ms p.many q.counts p.accounted q.accounted;
  strays_are = q.strays_are ∙ p.strays_are;
  left_alone = λ honest file c. q.left_alone honest file (subst (λ o. Contains (unwrap_or o []) file) (sym p.strays_are) c) ∙ p.left_alone (q.honest honest) file c;
}

-- the store, the files that are left alone and the store's share are the same, and refusals were counted
pub later-on : {S : Type 0} (disk : S → Disk) (s t : S) (x y : Option (List ℕ)) (ts us : List TenantState) (cs ds : List Counts) → t ≡ s → y ≡ x → ds ≡ cs → names_of us ≡ names_of ts
    → ((t : ℕ) → refusals_of ts t ≤ refusals_of us t) → IsLaterWith (disk s) (disk t) x y ts us cs ds
later-on disk s t x y ts us cs ds e f h names counts =
    subst (λ z. IsLaterWith (disk s) (disk z) x y ts us cs ds) (sym e)
    (subst (λ o. IsLaterWith (disk s) (disk s) x o ts us cs ds) (sym f)
    (subst (λ ns. IsLaterWith (disk s) (disk s) x x ts us cs ns) (sym h) (later-counted (disk s) x ts us cs names counts)))

-- and it went there so
pub later-from : {S : Type 0} (disk : S → Disk) (Goes : BrokerState → BrokerState → Type 0) (a b : OnStore S)
    → IsLaterWith (disk a.store) (disk b.store) a.strays b.strays a.state.tenants b.state.tenants a.counts b.counts → (is_honest disk b → Goes a.state b.state)
    → IsLaterBy disk Goes a b
later-from disk Goes a b h spoken = record {
  honest = h.honest;
  failures = h.failures;
  many = h.many;
  counts = h.counts;
  accounted = h.accounted;
  strays_are = h.strays_are;
  left_alone = h.left_alone;
  spoken = spoken;
}

-- of the store and the tenants alone
pub later-with : {S : Type 0} (disk : S → Disk) (Goes : BrokerState → BrokerState → Type 0) (a b : OnStore S) → IsLaterBy disk Goes a b
    → IsLaterWith (disk a.store) (disk b.store) a.strays b.strays a.state.tenants b.state.tenants a.counts b.counts
later-with disk Goes a b h = record {
  honest = h.honest;
  failures = h.failures;
  many = h.many;
  counts = h.counts;
  accounted = h.accounted;
  strays_are = h.strays_are;
  left_alone = h.left_alone;
}

pub later-same : {S : Type 0} (disk : S → Disk) (a : OnStore S) → IsLater disk a a
later-same disk a = later-from disk SpeaksTruth a a (later-none (disk a.store) a.strays a.state.tenants a.counts) (λ honest. speaks_same a.state)

-- of the store and the tenants alone
pub later-both : {S : Type 0} (disk : S → Disk) (P Q : BrokerState → BrokerState → Type 0) (a b c : OnStore S) → IsLaterBy disk P a b → IsLaterBy disk Q b c
    → IsLaterWith (disk a.store) (disk c.store) a.strays c.strays a.state.tenants c.state.tenants a.counts c.counts
later-both disk P Q a b c p q =
    later-by (disk a.store) (disk b.store) (disk c.store) a.strays b.strays c.strays a.state.tenants b.state.tenants c.state.tenants a.counts b.counts c.counts
    (later-with disk P a b p) (later-with disk Q b c q)

-- no wait was looked at
pub looks-same : {S : Type 0} (disk : S → Disk) (whom : Whom) (a : OnStore S) → IsLaterBy disk (SpeaksFor whom) a a
looks-same disk whom a = later-from disk (SpeaksFor whom) a a (later-none (disk a.store) a.strays a.state.tenants a.counts) (λ honest. looks_same whom a.state)

-- a broker at a later moment, and then at a later one
pub later-after : {S : Type 0} (disk : S → Disk) (P Q R : BrokerState → BrokerState → Type 0) (a b c : OnStore S) → IsLaterBy disk P a b → IsLaterBy disk Q b c
    → (P a.state b.state → Q b.state c.state → R a.state c.state) → IsLaterBy disk R a c
later-after disk P Q R a b c p q both = later-from disk R a c (later-both disk P Q a b c p q) (λ honest. both (p.spoken (q.honest honest)) (q.spoken honest))

pub later-then : {S : Type 0} (disk : S → Disk) (a b c : OnStore S) → IsLater disk a b → IsLater disk b c → IsLater disk a c
later-then disk a b c p q = later-after disk SpeaksTruth SpeaksTruth SpeaksTruth a b c p q (speaks_then a.state b.state c.state)

-- where nobody takes what came nothing changes
pub later-untaken : {S : Type 0} (disk : S → Disk) (a : OnStore S) (n : ℕ) (piece : List ℕ) → IsSound a.state → first_able a.state.lines ≡ None → IsUntaken n piece a.state → IsLaterBy disk (SpeaksAt (Comes n piece)) a a
later-untaken disk a n piece sound settled untaken = later-from disk (SpeaksAt (Comes n piece)) a a (later-none (disk a.store) a.strays a.state.tenants a.counts) (λ honest. at_untaken n piece a.state sound settled untaken)

-- in an event
pub later-at : {S : Type 0} (disk : S → Disk) (n : ℕ) (piece : List ℕ) (a b c : OnStore S) → AreStill (Of n) b.state → IsLaterBy disk (SpeaksAt (Comes n piece)) a b → IsLater disk b c
    → IsLaterBy disk (SpeaksAt (Comes n piece)) a c
later-at disk n piece a b c still p q = later-after disk (SpeaksAt (Comes n piece)) SpeaksTruth (SpeaksAt (Comes n piece)) a b c p q (comes_then n piece a.state b.state c.state still)

-- the store, the files that are left alone and the store's share are the same, and no count is smaller
pub later-still : {S : Type 0} (disk : S → Disk) (Goes : BrokerState → BrokerState → Type 0) (a b : OnStore S) → b.store ≡ a.store → b.strays ≡ a.strays → b.counts ≡ a.counts
    → names_of b.state.tenants ≡ names_of a.state.tenants → ((t : ℕ) → refusals_of a.state.tenants t ≤ refusals_of b.state.tenants t)
    → Goes a.state b.state → IsLaterBy disk Goes a b
later-still disk Goes a b store strays same names counts goes = later-from disk Goes a b
    (later-on disk a.store b.store a.strays b.strays a.state.tenants b.state.tenants a.counts b.counts store strays same names counts)
    (λ honest. goes)

-- the same, where no count has changed
pub later-is : {S : Type 0} (disk : S → Disk) (Goes : BrokerState → BrokerState → Type 0) (a b : OnStore S) → b.store ≡ a.store → b.strays ≡ a.strays → b.counts ≡ a.counts → b.state.tenants ≡ a.state.tenants
    → Goes a.state b.state → IsLaterBy disk Goes a b
later-is disk Goes a b store strays counts tenants goes = later-still disk Goes a b store strays counts (ap names_of tenants)
    (λ t. (let same = ap (λ (ts : List TenantState). refusals_of ts t) tenants in omega (arith, same))) goes

-- where a is what the broker's own fields are
pub later-seen : {S : Type 0} (disk : S → Disk) (Goes : BrokerState → BrokerState → Type 0) (a b c : OnStore S) → a ≡ b → IsLaterBy disk Goes a c → IsLaterBy disk Goes b c
later-seen disk Goes a b c e h = subst (λ x. IsLaterBy disk Goes x c) e h

-- once the clock is set
pub later-begun : {S : Type 0} (disk : S → Disk) (a : OnStore S) (clock now : ℕ) (b : OnStore S) → clock ≡ max a.state.clock now
    → IsLaterBy disk IsTrueMoment (record a { state = record a.state { clock = clock } }) b → IsLaterBy disk (PassesAt now) a b
later-begun disk a clock now b e h = later-from disk (PassesAt now) a b
    (later-with disk IsTrueMoment (record a { state = record a.state { clock = clock } }) b h)
    (λ honest. subst (λ n. IsTrueMoment (record a.state { clock = n }) b.state) e (h.spoken honest))

pub state-is : {S : Type 0} (a b : OnStore S) → a ≡ b → a.state ≡ b.state
state-is a b e = ap (λ (x : OnStore _). x.state) e

pub store-is : {S : Type 0} (a b : OnStore S) → a ≡ b → a.store ≡ b.store
store-is a b e = ap (λ (x : OnStore _). x.store) e

pub strays-is : {S : Type 0} (a b : OnStore S) → a ≡ b → a.strays ≡ b.strays
strays-is a b e = ap (λ (x : OnStore _). x.strays) e

pub counts-is : {S : Type 0} (a b : OnStore S) → a ≡ b → a.counts ≡ b.counts
counts-is a b e = ap (λ (x : OnStore _). x.counts) e

pub commands-are : {S : Type 0} (a b : OnStore S) → a ≡ b → a.commands ≡ b.commands
commands-are a b e = ap (λ (x : OnStore _). x.commands) e

-- another state on the same store
pub stands-on : {S : Type 0} (b : OnStore S) (x y : BrokerState) (store : S) (strays : Option (List ℕ)) (counts : List Counts) (commands : List ℕ) → x ≡ y → store ≡ b.store → strays ≡ b.strays
    → counts ≡ b.counts → commands ≡ b.commands → (let a : OnStore S = record { state = x; store = store; strays = strays; counts = counts; commands = commands } in a) ≡ record b { state = y }
stands-on b x y store strays counts commands e f g h k = λ i. record { state = e i; store = f i; strays = g i; counts = h i; commands = k i }
