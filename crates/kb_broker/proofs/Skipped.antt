-- A broker of which producer ids of a tenant are given out to nobody, before anybody is connected.
use Rattle.std.proofs.Common.{◌≡◌, ◌≤◌, ◌<◌, ◌+◌, ◌^◌, ◌∙◌, ⊎_elim, ℕ, List, [], None, length, ap, sym, subst, arith}
use Rattle.std.specs.Prelude.{OnOk, Result, Ok, Err}
use Rattle.std.specs.List.{AllByRecursion}
use Rattle.kb_store.specs.Disk.{Disk}
use Rattle.kb_coordinator.specs.Groups.{Groups}
use Rattle.kb_tenant.proofs.LogMoves.{same_or_not}
use Rattle.kb_tenant_api.specs.Hosted.{Kept, TenantState, kept_of, names_of}
use Rattle.kb_tenant_api.specs.Turns.{IsTurn}
use Rattle.kb_tenant_api.specs.Waiters.{members_on, replies_on}
use Rattle.kb_topics.specs.declared.fault.CatalogFault.{CatalogFault}
use Rattle.kb_tenant.specs.Told.{FailedBy}
use Rattle.kb_tenant_state.specs.Ids.{GivesFresh}
use Rattle.kb_tenant_state.proofs.SkippedIds.{skipped_fresh}
use Rattle.kb_tenants.specs.Ids.{KeepsSkipped}
use Rattle.kb_tenants.proofs.Passed.{length_named}
use Rattle.kb_isolation_spec.specs.Machine.{Line, find_line, first_able}
use Rattle.kb_isolation_spec.specs.Greeting.{User}
use Rattle.kb_isolation_spec.specs.Broker.{BrokerState, AnyWait, AreUnready, InRange, IsSound, IsUnready}
use Rattle.kb_isolation_spec.specs.Stranded.{IsMembersIn, NoneStranded, members_of, replies_of}
use Rattle.kb_broker.specs.Hosts.{OnStore, IsReadyOn, is_honest}
use Rattle.kb_broker.specs.Ids.{IsSkippedAt}

-- where nobody is connected nobody waits
pub skipped-ready : {S : Type 0} (disk : S → Disk) (a c : OnStore S) → a.state.lines ≡ [] → c.state ≡ record a.state { tenants = c.state.tenants } → names_of c.state.tenants ≡ names_of a.state.tenants
    → IsReadyOn disk a → IsReadyOn disk c
skipped-ready disk a c none others names ready =
    let many : length c.state.tenants ≡ length a.state.tenants = length_named a.state.tenants c.state.tenants names in
    let b : BrokerState = record a.state { tenants = c.state.tenants } in
    record {
      sound = subst (λ (x : BrokerState). IsSound x) (sym others) (record {
        rising = ready.sound.rising;
        in_range = subst (λ (lines : List Line). AllByRecursion (λ l. InRange (length c.state.tenants) l.session.stage) lines) (sym none) tt;
        users = subst (λ n. AllByRecursion (λ (u : User). u.tenant < n) a.state.setup.users) (sym many) ready.sound.users;
        clock = ready.sound.clock;
      });
      settled = subst (λ (x : BrokerState). first_able x.lines ≡ None) (sym others) ready.settled;
      unready = λ honest. subst (λ (x : BrokerState). AreUnready AnyWait x) (sym others)
          (subst (λ (lines : List Line). AllByRecursion (λ l. IsUnready AnyWait b l.number l.session.stage) lines) (sym none) tt);
    }

-- where that went well no id that is still to be given out is that of a batch
pub skipped-fresh : (t : ℕ) (r : Result (Unit {0}) CatalogFault) (failed fails : ℕ) (ts us : List TenantState) (H : Type 0) → (H → IsSkippedAt t r failed fails ts us)
    → OnOk r (H → GivesFresh (kept_of us t).world)
skipped-fresh t (Ok u) failed fails ts us H s = λ honest. subst (λ (k : Kept). GivesFresh k.world) (sym (s honest).kept) (skipped_fresh (kept_of ts t).world)
skipped-fresh t (Err f) failed fails ts us H s = tt

-- each tenant has the groups that it had
groups-stay : (t : ℕ) (H : Type 0) (ts us : List TenantState) → IsTurn t H ts us → H → (kept_of us t).groups ≡ (kept_of ts t).groups → (u : ℕ) → (kept_of us u).groups ≡ (kept_of ts u).groups
groups-stay t H ts us turn honest own u =
    ⊎_elim
    (λ same. subst (λ n. (kept_of us n).groups ≡ (kept_of ts n).groups) (sym same) own)
    (λ other. ap (λ (k : Kept). k.groups) (turn.others honest u other))
    (same_or_not u t)

-- so no member waits more or less
pub skipped-held : (t : ℕ) (H : Type 0) (a c : BrokerState) → c ≡ record a { tenants = c.tenants } → IsTurn t H a.tenants c.tenants → H → (kept_of c.tenants t).groups ≡ (kept_of a.tenants t).groups
    → NoneStranded a → NoneStranded c
skipped-held t H a c others turn honest own h =
    let stay = groups-stay t H a.tenants c.tenants turn honest own in
    let members : (u n : ℕ) → members_of c.tenants u n ≡ members_of a.tenants u n = λ u n. ap (λ (gs : Groups). members_on n gs) (stay u) in
    let replies : (u n : ℕ) → replies_of c.tenants u n ≡ replies_of a.tenants u n = λ u n. ap (λ (gs : Groups). replies_on n gs) (stay u) in
    record {
      held = λ u n some. subst (λ (x : BrokerState). IsMembersIn u (find_line n x.lines)) (sym others) (h.held u n (subst (λ m. 0 < m) (members u n) some));
      once = λ u n. (let one = h.once u n in let x = members u n in let y = replies u n in omega (arith, one, x, y));
    }
