-- A broker of which the groups of tenants get limits, before anybody is connected.
use Rattle.std.proofs.Common.{◌≡◌, ◌<◌, ◌∙◌, ℕ, zero, suc, List, [], ◌∷◌, Option, length, take, slice_index_or, refl, ap, sym, subst, arith}
use Rattle.std.specs.List.{AllByRecursion}
use Rattle.kb_store.specs.Disk.{Disk}
use Rattle.kb_coordinator.specs.declared.limits.Limits.{Limits}
use Rattle.kb_tenant_api.specs.Hosted.{Kept, TenantState, kept_of}
use Rattle.kb_tenant_api.specs.Turns.{with_kept}
use Rattle.kb_tenant_api.specs.Waiters.{members_on, replies_on}
use Rattle.kb_tenants.specs.declared.counts.Counts.{Counts}
use Rattle.kb_tenants.specs.Limited as tenants
use Rattle.kb_tenants.specs.Limited.{kept_limited}
use Rattle.kb_tenants.specs.Members.{HaveNoGroup}
use Rattle.kb_isolation_spec.specs.Machine.{Line}
use Rattle.kb_isolation_spec.specs.Greeting.{User}
use Rattle.kb_isolation_spec.specs.Broker.{BrokerState, AnyWait, AreUnready, InRange, IsSound, IsUnready}
use Rattle.kb_isolation_spec.specs.Stranded.{NoneStranded, members_of, replies_of}
use Rattle.kb_broker.specs.Hosts.{OnStore, IsReadyOn}
use Rattle.kb_broker.specs.Limited.{each_limited, limited_at, limited_by}

-- ---- the tenants

-- those of one more place
pub each-next : (ls : List Limits) (ts : List TenantState) (t : ℕ) (d : Limits) → t < length ls
    → tenants.limited_at t (slice_index_or ls t d) (each_limited (take t ls) ts) ≡ each_limited (take (suc t) ls) ts
unfolding with_kept each_limited
each-next [] ts t d lt = absurd (omega (arith, lt))
each-next (l ∷ ls) [] zero d lt = refl
each-next (l ∷ ls) [] (suc t) d lt = refl
each-next (l ∷ ls) (x ∷ ts) zero d lt = refl
each-next (l ∷ ls) (x ∷ ts) (suc t) d lt =
    ap (λ us. (let y : TenantState = record x { kept = kept_limited l x.kept } in y) ∷ us) (each-next ls ts t d (omega (arith, lt)))

many-stay : (ls : List Limits) (ts : List TenantState) → length (each_limited ls ts) ≡ length ts
unfolding each_limited
many-stay [] ts = refl
many-stay (l ∷ ls) [] = refl
many-stay (l ∷ ls) (x ∷ ts) = ap suc (many-stay ls ts)

-- what no limit changes is as before
same-each : {A : Type 0} (f : Kept → A) → ((l : Limits) (k : Kept) → f (kept_limited l k) ≡ f k) → (ls : List Limits) (ts : List TenantState) (u : ℕ)
    → f (kept_of (each_limited ls ts) u) ≡ f (kept_of ts u)
unfolding each_limited
same-each f same [] ts u = refl
same-each f same (l ∷ ls) [] u = refl
same-each f same (l ∷ ls) (x ∷ ts) zero = same l x.kept
same-each f same (l ∷ ls) (x ∷ ts) (suc u) = same-each f same ls ts u

pub none-limited : (ls : List Limits) (ts : List TenantState) → HaveNoGroup ts → HaveNoGroup (each_limited ls ts)
none-limited ls ts none u = same-each (λ (k : Kept). k.groups.groups) (λ l k. refl) ls ts u ∙ none u

members-stay : (ls : List Limits) (ts : List TenantState) (u n : ℕ) → members_of (each_limited ls ts) u n ≡ members_of ts u n
members-stay ls ts u n = same-each (λ (k : Kept). members_on n k.groups) (λ l k. refl) ls ts u

replies-stay : (ls : List Limits) (ts : List TenantState) (u n : ℕ) → replies_of (each_limited ls ts) u n ≡ replies_of ts u n
replies-stay ls ts u n = same-each (λ (k : Kept). replies_on n k.groups) (λ l k. refl) ls ts u

-- ---- the broker

-- the state, and the store and the files as they were
pub limited-made : {S : Type 0} (t : ℕ) (limits : Limits) (a b : OnStore S) (ts : List TenantState) (s : S) (o : Option (List ℕ)) (cs : List Counts) (ns : List ℕ) → a ≡ b
    → ts ≡ tenants.limited_at t limits a.state.tenants → s ≡ a.store → o ≡ a.strays → cs ≡ a.counts → ns ≡ a.commands
    → record { state = record a.state { tenants = ts }; store = s; strays = o; counts = cs; commands = ns } ≡ record b { state = limited_at t limits b.state }
limited-made {S} t limits a b ts s o cs ns e is u v w z =
    let here : record { state = record a.state { tenants = ts }; store = s; strays = o; counts = cs; commands = ns } ≡ record a { state = limited_at t limits a.state } = (λ i. record { state = record a.state { tenants = is i }; store = u i; strays = v i; counts = w i; commands = z i }) in
    here ∙ ap (λ (x : OnStore S). record x { state = limited_at t limits x.state }) e

-- none yet, and one more
none-yet : (ts : List TenantState) (ls : List Limits) → ts ≡ each_limited (take 0 ls) ts
unfolding each_limited
none-yet ts [] = refl
none-yet ts (l ∷ ls) = refl

pub limited-first : {S : Type 0} (ls : List Limits) (a : OnStore S) → a ≡ record a { state = limited_by (take 0 ls) a.state }
limited-first {S} ls a = ap (λ ts. (let x : OnStore S = record a { state = record a.state { tenants = ts } } in x)) (none-yet a.state.tenants ls)

pub limited-next : {S : Type 0} (ls : List Limits) (a b c : OnStore S) (t : ℕ) (d : Limits) → t < length ls
    → b ≡ record a { state = limited_by (take t ls) a.state } → c ≡ record b { state = limited_at t (slice_index_or ls t d) b.state }
    → c ≡ record a { state = limited_by (take (suc t) ls) a.state }
limited-next {S} ls a b c t d lt was is =
    is
    ∙ ap (λ (x : OnStore S). record x { state = limited_at t (slice_index_or ls t d) x.state }) was
    ∙ ap (λ ts. (let x : OnStore S = record a { state = record a.state { tenants = ts } } in x)) (each-next ls a.state.tenants t d lt)

sound-limited : (ls : List Limits) (b : BrokerState) → b.lines ≡ [] → IsSound b → IsSound (limited_by ls b)
sound-limited ls b none s = record {
  rising = s.rising;
  in_range = subst (λ (lines : List Line). AllByRecursion (λ l. InRange (length (each_limited ls b.tenants)) l.session.stage) lines) (sym none) tt;
  users = subst (λ n. AllByRecursion (λ (u : User). u.tenant < n) b.setup.users) (sym (many-stay ls b.tenants)) s.users;
  clock = s.clock;
}

unready-limited : (ls : List Limits) (b : BrokerState) → b.lines ≡ [] → AreUnready AnyWait (limited_by ls b)
unready-limited ls b none =
    subst (λ (lines : List Line). AllByRecursion (λ l. IsUnready AnyWait (limited_by ls b) l.number l.session.stage) lines) (sym none) tt

pub limited-ready : {S : Type 0} (disk : S → Disk) (ls : List Limits) (a c : OnStore S) → a.state.lines ≡ [] → IsReadyOn disk a
    → c ≡ record a { state = limited_by ls a.state } → IsReadyOn disk c
limited-ready disk ls a c none ready h = subst (IsReadyOn disk) (sym h) (record {
  sound = sound-limited ls a.state none ready.sound;
  settled = ready.settled;
  unready = λ honest. unready-limited ls a.state none;
})

-- no member waits more or less
pub limited-held : (ls : List Limits) (b : BrokerState) → NoneStranded b → NoneStranded (limited_by ls b)
limited-held ls b h = record {
  held = λ t n some. h.held t n (subst (λ m. 0 < m) (members-stay ls b.tenants t n) some);
  once = λ t n. (let one = h.once t n in let a = members-stay ls b.tenants t n in let c = replies-stay ls b.tenants t n in omega (arith, one, a, c));
}
