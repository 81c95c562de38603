-- A broker of which the first new members get a number, before anybody is connected.
use Rattle.std.proofs.Common.{◌≡◌, ◌<◌, ◌+◌, ◌∙◌, ℕ, zero, suc, List, [], ◌∷◌, map, Option, Some, None, length, refl, ap, sym, subst, arith}
use Rattle.std.specs.FinMap as fin
use Rattle.std.specs.List.{AllByRecursion}
use Rattle.std.proofs.lemmas.List.{length-map}
use Rattle.kb_store.specs.Disk.{Disk}
use Rattle.kb_coordinator.specs.Groups.{Groups}
use Rattle.kb_tenant_api.specs.Hosted.{Kept, TenantState, kept_of, new_tenant, nothing}
use Rattle.kb_tenant_api.specs.Waiters.{members_on, replies_on}
use Rattle.kb_waits.specs.Queue.{Queue}
use Rattle.kb_tenants.specs.declared.counts.Counts.{Counts}
use Rattle.kb_tenants.specs.Members as tenants
use Rattle.kb_tenants.specs.Members.{HaveNoGroup, tenant_numbered_from}
use Rattle.kb_settings.specs.declared.settings.Settings.{Settings}
use Rattle.kb_isolation_spec.specs.Session.{Session}
use Rattle.kb_isolation_spec.specs.Machine.{Line, find_line}
use Rattle.kb_isolation_spec.specs.Greeting.{User}
use Rattle.kb_isolation_spec.specs.Broker.{BrokerState, AnyWait, AreUnready, InRange, IsSound, IsUnready}
use Rattle.kb_isolation_spec.specs.Stranded.{NoneStranded, members_of, replies_of, IsMembersIn}
use Rattle.kb_broker.specs.declared.opening.Listing.{Listing}
use Rattle.kb_broker.specs.Hosts.{OnStore, IsReadyOn}
use Rattle.kb_broker.specs.Members.{broker_numbered_from}
use Rattle.kb_broker.specs.Opening.{HaveNoGroups, opening_listing, tenants_of}
use Rattle.kb_broker.specs.Parked.{IsQueueOf}
use Rattle.kb_broker.proofs.Parked.{queue-tenants}

-- the state, and the store and the files as they were
pub numbered-made : {S : Type 0} (first : ℕ) (a b : OnStore S) (ts : List TenantState) (s : S) (o : Option (List ℕ)) (cs : List Counts) (ns : List ℕ) → a ≡ b → ts ≡ tenants.numbered_from first a.state.tenants → s ≡ a.store → o ≡ a.strays
    → cs ≡ a.counts → ns ≡ a.commands → record { state = record a.state { tenants = ts }; store = s; strays = o; counts = cs; commands = ns } ≡ record b { state = broker_numbered_from first b.state }
numbered-made {S} first a b ts s o cs ns e t u v w z =
    let here : record { state = record a.state { tenants = ts }; store = s; strays = o; counts = cs; commands = ns } ≡ record a { state = broker_numbered_from first a.state } = (λ i. record { state = record a.state { tenants = t i }; store = u i; strays = v i; counts = w i; commands = z i }) in
    here ∙ ap (λ (x : OnStore S). record x { state = broker_numbered_from first x.state }) e

-- nobody waits where nobody is connected
pub queue-numbered : (H G : Type 0) (q : Queue) (ts us : List TenantState) (ls : List Line) → IsQueueOf H q ts ls → ls ≡ [] → (G → H) → IsQueueOf G q us ls
queue-numbered H G q ts us ls v none back = queue-tenants H G q ts us ls v back (λ honest. record { keyed = λ k s e h. absurd (nobody k s e) })
  where
    nobody : (k : ℕ) (s : Session) → find_line k ls ≡ Some s → ⊥
    nobody k s e = let no : None ≡ Some s = sym (ap (find_line k) none) ∙ e in absurd cc

sound-numbered : (first : ℕ) (b : BrokerState) → b.lines ≡ [] → IsSound b → IsSound (broker_numbered_from first b)
sound-numbered first b none s =
    let many : length (tenants.numbered_from first b.tenants) ≡ length b.tenants = length-map b.tenants (tenant_numbered_from first) in
    record {
      rising = s.rising;
      in_range = subst (λ (ls : List Line). AllByRecursion (λ l. InRange (length (tenants.numbered_from first b.tenants)) l.session.stage) ls) (sym none) tt;
      users = subst (λ n. AllByRecursion (λ (u : User). u.tenant < n) b.setup.users) (sym many) s.users;
      clock = s.clock;
    }

unready-numbered : (first : ℕ) (b : BrokerState) → b.lines ≡ [] → AreUnready AnyWait (broker_numbered_from first b)
unready-numbered first b none = subst (λ (ls : List Line). AllByRecursion (λ l. IsUnready AnyWait (broker_numbered_from first b) l.number l.session.stage) ls) (sym none) tt

pub numbered-ready : {S : Type 0} (disk : S → Disk) (first : ℕ) (a c : OnStore S) → a.state.lines ≡ [] → IsReadyOn disk a → c ≡ record a { state = broker_numbered_from first a.state } → IsReadyOn disk c
numbered-ready disk first a c none ready h = subst (IsReadyOn disk) (sym h) (record {
  sound = sound-numbered first a.state none ready.sound;
  settled = ready.settled;
  unready = λ honest. unready-numbered first a.state none;
})

-- no member waits more or less
members-stay : (first : ℕ) (ts : List TenantState) (t n : ℕ) → members_of (tenants.numbered_from first ts) t n ≡ members_of ts t n
members-stay first [] t n = refl
members-stay first (x ∷ ts) zero n = refl
members-stay first (x ∷ ts) (suc t) n = members-stay first ts t n

replies-stay : (first : ℕ) (ts : List TenantState) (t n : ℕ) → replies_of (tenants.numbered_from first ts) t n ≡ replies_of ts t n
replies-stay first [] t n = refl
replies-stay first (x ∷ ts) zero n = refl
replies-stay first (x ∷ ts) (suc t) n = replies-stay first ts t n

pub numbered-held : (first : ℕ) (b : BrokerState) → NoneStranded b → NoneStranded (broker_numbered_from first b)
numbered-held first b h = record {
  held = λ t n some. h.held t n (subst (λ m. 0 < m) (members-stay first b.tenants t n) some);
  once = λ t n. (let one = h.once t n in let a = members-stay first b.tenants t n in let c = replies-stay first b.tenants t n in omega (arith, one, a, c));
}

-- where groups were never made there is none
pub none-made : (ts : List TenantState) → HaveNoGroups ts → HaveNoGroup ts
none-made ts none t = ap (λ (gs : Groups). gs.groups) (none t)

-- and where nothing was made yet
pub none-new : (names : List (List ℕ)) → HaveNoGroup (map new_tenant names)
none-new [] t = refl
none-new (name ∷ names) zero = refl
none-new (name ∷ names) (suc t) = none-new names t

pub none-first : (listing : Listing) (s : Settings) → HaveNoGroup (opening_listing listing s).tenants
none-first listing s = none-new (tenants_of s.users.items)
