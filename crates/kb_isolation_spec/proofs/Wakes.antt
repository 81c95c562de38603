-- Waiting requests that are looked at again.
use Rattle.std.proofs.Common.{◌≡◌, ◌≢◌, ℕ, ℤ, List, [], ◌∷◌, set, eqb, Bool, true, false, Option, Some, None, refl, sym, ◌∙◌, ap, subst, arith, inr}
use Rattle.std.specs.Prelude.{cond, Result, Ok, Err}
use Rattle.std.specs.List.{AllByRecursion}
use Rattle.std.proofs.lemmas.Bool.Decides.{nat_tests}
use Rattle.kb_tenant_state.specs.Counts.{IsCalm}
use Rattle.kb_tenant_api.specs.Hosted as hosted
use Rattle.kb_tenant_api.specs.Hosted.{Kept, TenantState}
use Rattle.kb_tenant_api.specs.Turns.{IsTurn}
use Rattle.kb_tenant.specs.Fetch.{asked_fetch, bounded, fetch_answer, fetched_in}
use Rattle.kb_tenant.specs.FetchWait.{FetchWait}
use Rattle.kb_tenant.specs.Serve.{looked, looked_at}
use Rattle.kb_wire.specs.declared.fault.WireFault.{WireFault}
use Rattle.kb_api_data.specs.declared.fetch.FetchRequest.{FetchRequest}
use Rattle.kb_api_data.specs.declared.fetch_v5.FetchReplyV5.{FetchReplyV5}
use Rattle.kb_tenant_state.specs.declared.topic_partition.TopicPartition.{TopicPartition}
use Rattle.kb_tenant.specs.Replies.{Reaction, Replies, Waits, Silent, Shuts}
use Rattle.kb_groups.specs.declared.reply.Reply.{Reply}
use Rattle.kb_coordinator.specs.Calls.{reply_to}
use Rattle.kb_tenant_api.specs.Replies as service
use Rattle.kb_isolation_spec.specs.declared.head.Head.{Head}
use Rattle.kb_isolation_spec.specs.Tenant.{Wait, Awaited, Records, Group, ready, ready_for}
use Rattle.kb_isolation_spec.specs.Session.{Stage, Greets, BoundTo, Session, without_wait, is_free, shut_down, unanswerable}
use Rattle.kb_isolation_spec.specs.Machine.{Happening, Line, told, woken_by, woken, each_line, on, those, all_woken, turns}
use Rattle.kb_isolation_spec.specs.Owners.{whose}
use Rattle.kb_isolation_spec.specs.Broker.{BrokerState, IsSound, IsUnready, AreUnready, AnyWait, Mine, view_of, kept_of_tenant, refusals_of}
use Rattle.kb_isolation_spec.specs.declared.whom.Whom.{Whom}
use Rattle.kb_isolation_spec.specs.declared.whom.Whom.TheVariants as whoms
use Rattle.kb_isolation_spec.specs.Turned.{Scope, HasTenant, is_resting, Turned, Served, Concerns, Waked, IsLookedFor, IsPassedOver}
use Rattle.kb_isolation_spec.specs.Stranded.{NoneStranded}
use Rattle.kb_isolation_spec.proofs.Laws.{those-each}
use Rattle.kb_isolation_spec.proofs.Owners.{IsBound, IsMine, mine-bound, bound-same}
use Rattle.kb_isolation_spec.proofs.Sets.{IsAt, set-on}
use Rattle.kb_isolation_spec.proofs.Parts.{eqb_other, count, each-tenant, eqb_same, calm-left, calm-right}
use Rattle.kb_isolation_spec.proofs.Turns.{free-unready, free-without, free-replied, shut-unready, unready-weaken, going-same, going-then, counted-then, counted-tenant, untouched-then, changed, changed-untouched, changed-still, called-going, called-others, bound-mine, tenant-later}

-- 1. A second look finds nothing new

woken-free : (kept : Kept) (clock n : ℕ) (s : Session) → is_free s.stage ≡ true → woken kept clock n s ≡ s
unfolding woken_by
woken-free kept clock n s free = by s.stage refl
  where
    by : (st : Stage) → s.stage ≡ st → woken_by kept clock n s st ≡ s
    by (Greets h) e = refl
    by (BoundTo u None) e = refl
    by (BoundTo u (Some w)) e = let no : false ≡ true = sym (ap is_free e) ∙ free in absurd (cc)

told-twice : (kept : Kept) (clock n : ℕ) (r : Reaction) (head : Head) (s : Session) → woken kept clock n s ≡ told r head s → woken kept clock n (told r head s) ≡ told r head s
told-twice kept clock n (Replies reply) head s e = woken-free kept clock n (told (Replies reply) head s) (free-replied head reply (record s { stage = without_wait s.stage }) (free-without s.stage))
told-twice kept clock n (Waits deadline limit places) head s e = e
told-twice kept clock n Silent head s e = e
told-twice kept clock n Shuts head s e = woken-free kept clock n (shut_down (unanswerable head) s) (free-without s.stage)

pub woken-at : (kept : Kept) (clock n : ℕ) (s : Session) (u : ℕ) (w : Wait) → s.stage ≡ BoundTo u (Some w) → woken kept clock n s ≡ told (ready kept clock n w) w.head s
unfolding woken_by
woken-at kept clock n s u w e = ap (woken_by kept clock n s) e

pub woken-twice : (kept : Kept) (clock n : ℕ) (s : Session) → woken kept clock n (woken kept clock n s) ≡ woken kept clock n s
woken-twice kept clock n s = by kept clock s s.stage refl
  where
    by : (kept : Kept) (clock : ℕ) (s : Session) (st : Stage) → s.stage ≡ st → woken kept clock n (woken kept clock n s) ≡ woken kept clock n s
    by kept clock s (Greets h) e = let same = woken-free kept clock n s (ap is_free e) in ap (woken kept clock n) same
    by kept clock s (BoundTo u None) e = let same = woken-free kept clock n s (ap is_free e) in ap (woken kept clock n) same
    by kept clock s (BoundTo u (Some w)) e =
        let is = woken-at kept clock n s u w e in
        ap (woken kept clock n) is ∙ (told-twice kept clock n (ready kept clock n w) w.head s is ∙ sym is)

-- 2. Looks, one after another

pub waked-same : (whom : Whom) (b : BrokerState) → IsSound b → Waked whom b b
waked-same whom b s = record {
  going = going-same b s;
  unbound = refl;
  untouched = λ k e. refl;
  counts = λ t never. refl;
  kept = λ t. refl;
  held = λ h. h;
  still = λ scope has still. still;
  mine = λ t mine es m. m;
  others = λ t mine es m never. refl;
  view = λ t mine es m calm. refl;
}

pub waked-then : (whom : Whom) (a b c : BrokerState) → Waked whom a b → Waked whom b c → Waked whom a c
waked-then whom a b c p q =
    let g = p.going.grows in
    let h = q.going.grows in
    record {
      going = going-then a b c p.going q.going;
      unbound = q.unbound ∙ p.unbound;
      untouched = untouched-then a b c p.untouched q.untouched;
      counts = λ t never. q.counts t never ∙ p.counts t never;
      kept = λ t. q.kept t ∙ p.kept t;
      held = λ k. q.held (p.held k);
      still = λ scope has still. q.still scope (λ t is. tenant-later scope a b t p.going (has t is)) (p.still scope has still);
      mine = λ t mine es m. q.mine t mine es (p.mine t mine es m);
      others = λ t mine es m never. q.others t mine es (p.mine t mine es m) never ∙ p.others t mine es m never;
      view = λ t mine es m calm.
          q.view t mine es (p.mine t mine es m) (calm-right (refusals_of a t) (refusals_of b t) (refusals_of c t) (g.own t) (h.own t) calm)
          ∙ p.view t mine es m (calm-left (refusals_of a t) (refusals_of b t) (refusals_of c t) (g.own t) (h.own t) calm);
    }

-- 3. One look

-- it is not about a tenant that is not concerned
unconcerned : (whom : Whom) (t u : ℕ) → Concerns whom u → (Concerns whom t → ⊥) → t ≢ u
unconcerned whom t u concerned never = λ e. never (subst (Concerns whom) (sym e) concerned)

busy : (u : ℕ) (w : Wait) (s : Session) → s.stage ≡ BoundTo u (Some w) → is_resting (Some s) ≡ false
busy u w s e = let f : is_free s.stage ≡ false = ap is_free e in grind (arith, f)

each-again : (kept : Kept) (clock n : ℕ) (ls : List Line) → each_line (λ k s. woken kept clock k s) (each_line (on n (woken kept clock n)) ls) ≡ each_line (λ k s. woken kept clock k s) ls
each-again kept clock n [] = refl
each-again kept clock n (l ∷ ls) = by (eqb l.number n) refl (each-again kept clock n ls)
  where
    by : (b : Bool) → eqb l.number n ≡ b → each_line (λ k s. woken kept clock k s) (each_line (on n (woken kept clock n)) ls) ≡ each_line (λ k s. woken kept clock k s) ls →
        (let x : Line = record { number = l.number; session = woken kept clock l.number (cond b (woken kept clock n l.session) l.session) } in x) ∷ each_line (λ k s. woken kept clock k s) (each_line (on n (woken kept clock n)) ls) ≡ (let x : Line = record { number = l.number; session = woken kept clock l.number l.session } in x) ∷ each_line (λ k s. woken kept clock k s) ls
    by true e rest =
        let twice = ap (λ k. woken kept clock l.number (woken kept clock k l.session)) (sym (eqb_same l.number n e)) ∙ woken-twice kept clock l.number l.session in
        ap (λ s. (let x : Line = record { number = l.number; session = s } in x) ∷ each_line (λ k s. woken kept clock k s) (each_line (on n (woken kept clock n)) ls)) twice ∙ ap (λ xs. (let x : Line = record { number = l.number; session = woken kept clock l.number l.session } in x) ∷ xs) rest
    by false e rest = ap (λ xs. (let x : Line = record { number = l.number; session = woken kept clock l.number l.session } in x) ∷ xs) rest

-- a waiting connection of a concerned tenant was looked at
pub waked-line : (whom : Whom) (b : BrokerState) (i u : ℕ) (l m : Line) (w : Wait) (H : Type 0) (ts : List TenantState) → IsSound b → IsAt b.lines i l → l.session.stage ≡ BoundTo u (Some w) → Concerns whom u →
    m.number ≡ l.number → without_wait m.session.stage ≡ without_wait l.session.stage → IsTurn u H b.tenants ts → H → ((t : ℕ) → hosted.kept_of ts t ≡ kept_of_tenant b t) →
    (IsCalm (count b.tenants u) (count ts u) → m.session ≡ woken (kept_of_tenant b u) b.clock l.number l.session) →
    (NoneStranded b → NoneStranded (changed b i m ts b.unbound_refusals)) → Waked whom b (changed b i m ts b.unbound_refusals)
waked-line whom b i u l m w H ts s at g concerned n same turn honest stays meets held =
    let p : IsBound u l.session = record { wait = Some w; is = g } in
    let q : IsBound u m.session = bound-same u l.session m.session p same in
    let new = changed b i m ts b.unbound_refusals in
    let going = called-going b i u l m H ts s at p n same turn in
    record {
      going = going;
      unbound = refl;
      untouched = changed-untouched b i l m ts b.unbound_refusals s at n (busy u w l.session g);
      counts = λ t never. turn.counts t (unconcerned whom t u concerned never);
      kept = stays;
      held = held;
      still = λ scope has still. changed-still scope b i m ts b.unbound_refusals going still (λ c. inr (u, tenant-later scope b new u going (has u concerned), ap whose q.is));
      mine = λ t mine es k. bound-mine b i u l m at p q n t mine es k;
      others = λ t mine es k never. called-others b i u l m H ts s at p n turn honest t mine es k (unconcerned whom t u concerned never);
      view = λ t mine es k calm. each-tenant (λ v. Mine v mine es b → IsCalm (count b.tenants v) (count ts v) → all_woken (view_of v mine new) ≡ all_woken (view_of v mine b)) u t (eqb u t) refl
          (λ k' c'. own b i u l m ts s at n mine (meets c') (stays u))
          (λ ne k' c'. ap all_woken (called-others b i u l m H ts s at p n turn honest t mine es k' ne))
          k calm;
    }
  where
    own : (b : BrokerState) (i u : ℕ) (l m : Line) (ts : List TenantState) → IsSound b → IsAt b.lines i l → m.number ≡ l.number → (mine : ℕ → Bool) →
        m.session ≡ woken (kept_of_tenant b u) b.clock l.number l.session → hosted.kept_of ts u ≡ kept_of_tenant b u → all_woken (view_of u mine (changed b i m ts b.unbound_refusals)) ≡ all_woken (view_of u mine b)
    own b i u l m ts s at n mine done same =
        let x = view_of u mine b in
        let g = woken (kept_of_tenant b u) b.clock l.number in
        let lines : set b.lines i m ≡ each_line (on l.number g) b.lines = set-on 0 b.last g b.lines i l m s.rising at n done in
        let cut : those mine (set b.lines i m) ≡ each_line (on l.number g) (those mine b.lines) = ap (those mine) lines ∙ those-each mine (on l.number g) b.lines in
        ap (λ k. all_woken (record x { kept = k; lines = those mine (set b.lines i m) })) same
        ∙ (ap (λ z. all_woken (record x { lines = z })) cut
        ∙ ap (λ z. record x { lines = z }) (each-again (kept_of_tenant b u) b.clock l.number (those mine b.lines)))

-- 4. What was looked at is not ready

-- a look never comes to a wait
never-waits : (kept : Kept) (clock n : ℕ) (w : Wait) (deadline : ℕ) (limit : FetchWait) (places : List TopicPartition) → ready kept clock n w ≡ Waits deadline limit places → ⊥
unfolding ready looked
never-waits kept clock n w deadline limit places e = for w.awaited e
  where
    answers : (version : ℤ) (o : Option FetchReplyV5) → elim o [ Some reply ↦ Replies (fetched_in version reply) | None ↦ Silent ] ≡ Waits deadline limit places → ⊥
    answers version (Some reply) h = absurd (cc)
    answers version None h = absurd (cc)

    by : (until : ℕ) (version : ℤ) (own : Option ℕ) (r : Result FetchRequest WireFault) → looked_at kept.world clock until version own r ≡ Waits deadline limit places → ⊥
    by until version own (Ok r) h = answers version (fetch_answer kept.world clock (bounded own r) until) h
    by until version own (Err fault) h = absurd (cc)

    tells : (o : Option Reply) → service.told o ≡ Waits deadline limit places → ⊥
    tells (Some reply) h = absurd (cc)
    tells None h = absurd (cc)

    for : (x : Awaited) → ready_for kept clock n x ≡ Waits deadline limit places → ⊥
    for (Records version body until own) h = by until version own (asked_fetch version body) h
    for Group h = tells (reply_to n kept.groups) h

-- what is left of a connection after a look waits no longer, or is not ready
pub unready-woken : (P : ℕ → Wait → Type 0) (b : BrokerState) (n : ℕ) (s : Session) (u : ℕ) (w : Wait) → s.stage ≡ BoundTo u (Some w) → IsUnready P b n (woken (kept_of_tenant b u) b.clock n s).stage
unready-woken P b n s u w e = subst (λ (x : Session). IsUnready P b n x.stage) (sym (woken-at (kept_of_tenant b u) b.clock n s u w e)) (by (ready (kept_of_tenant b u) b.clock n w) refl)
  where
    by : (r : Reaction) → ready (kept_of_tenant b u) b.clock n w ≡ r → IsUnready P b n (told r w.head s).stage
    by (Replies reply) f = free-unready P b n (told (Replies reply) w.head s).stage (free-replied w.head reply (record s { stage = without_wait s.stage }) (free-without s.stage))
    by (Waits deadline limit places) f = absurd (never-waits (kept_of_tenant b u) b.clock n w deadline limit places f)
    by Silent f = subst (IsUnready P b n) (sym e) (λ p. f)
    by Shuts f = shut-unready P b n s

-- of the tenant's connections none is ready
each-unready : (P : ℕ → Wait → Type 0) (b : BrokerState) (t : ℕ) (mine : ℕ → Bool) (es : List Happening) → ((w : Wait) → P t w) → (ls : List Line) → AllByRecursion (IsMine b.setup t mine es) ls → AllByRecursion (λ (l : Line). IsUnready P b l.number l.session.stage) ls →
    each_line (λ k s. woken (kept_of_tenant b t) b.clock k s) (those mine ls) ≡ those mine ls
each-unready P b t mine es passes [] m h = refl
each-unready P b t mine es passes (l ∷ ls) m h = by (mine l.number) refl (each-unready P b t mine es passes ls m.1 h.1)
  where
    at : (st : Stage) → l.session.stage ≡ st → mine l.number ≡ true → woken (kept_of_tenant b t) b.clock l.number l.session ≡ l.session
    at (Greets g) e among = woken-free (kept_of_tenant b t) b.clock l.number l.session (ap is_free e)
    at (BoundTo u None) e among = woken-free (kept_of_tenant b t) b.clock l.number l.session (ap is_free e)
    at (BoundTo u (Some w)) e among =
        let is : mine l.number ≡ eqb u t = mine-bound b.setup t mine es l u (record { wait = Some w; is = e }) m.0 in
        let same : u ≡ t = eqb_same u t (sym is ∙ among) in
        let silent : ready (kept_of_tenant b t) b.clock l.number w ≡ Silent = subst (λ v. P v w → ready (kept_of_tenant b v) b.clock l.number w ≡ Silent) same (subst (IsUnready P b l.number) e h.0) (passes w) in
        woken-at (kept_of_tenant b t) b.clock l.number l.session u w e ∙ ap (λ r. told r w.head l.session) silent

    by : (c : Bool) → mine l.number ≡ c → each_line (λ k s. woken (kept_of_tenant b t) b.clock k s) (those mine ls) ≡ those mine ls → each_line (λ k s. woken (kept_of_tenant b t) b.clock k s) (cond c (l ∷ those mine ls) (those mine ls)) ≡ cond c (l ∷ those mine ls) (those mine ls)
    by false e rest = rest
    by true e rest = ap (λ s. (let x : Line = record { number = l.number; session = s } in x) ∷ each_line (λ k s. woken (kept_of_tenant b t) b.clock k s) (those mine ls)) (at l.session.stage refl e) ∙ ap (λ xs. l ∷ xs) rest

-- then no look finds anything new
pub unready-view : (P : ℕ → Wait → Type 0) (b : BrokerState) (t : ℕ) (mine : ℕ → Bool) (es : List Happening) → AreUnready P b → ((w : Wait) → P t w) → Mine t mine es b → all_woken (view_of t mine b) ≡ view_of t mine b
unready-view P b t mine es unready passes m = ap (λ ls. record (view_of t mine b) { lines = ls }) (each-unready P b t mine es passes b.lines m.now unready)

-- 5. A whole turn of a bound connection

pub turned-served : (u : ℕ) (scope : Scope) (a b c : BrokerState) → Served u scope a b → Waked (whoms.Tenant u) b c → AreUnready (IsLookedFor (whoms.Tenant u) b.clock) c → (AreUnready (IsPassedOver (whoms.Tenant u) b.clock) b → AreUnready AnyWait c) → Turned scope a c
turned-served u scope a b c p q own rest =
    let g = p.going.grows in
    let h = q.going.grows in
    let tenant = tenant-later scope b c u q.going p.tenants in
    let self : eqb u u ≡ true = grind (arith, nat_tests) in
    record {
      going = going-then a b c p.going q.going;
      still = q.still scope (λ t is. subst (HasTenant scope b) (sym is) p.tenants) p.still;
      counted = counted-then scope a b c p.going q.going p.counted (counted-tenant scope b c u tenant (λ t ne. q.counts t ne) q.unbound);
      untouched = untouched-then a b c p.untouched q.untouched;
      unready = λ k. rest (unready-weaken (λ t w. t ≢ u) (IsPassedOver (whoms.Tenant u) b.clock) b (λ t w e. eqb_other u t (eqb-swap t u e)) (p.unready k));
      held = λ k. q.held (p.held k);
      mine = λ t mine es m calm. q.mine t mine es (p.mine t mine es m);
      view = λ t mine es m calm. each-tenant (λ v. Mine v mine es a → IsCalm (refusals_of a v) (refusals_of c v) → turns (view_of v mine c) ≡ turns (view_of v mine a)) u t (eqb u t) refl
          (λ m' c'.
          let left = calm-left (refusals_of a u) (refusals_of b u) (refusals_of c u) (g.own u) (h.own u) c' in
          let right = calm-right (refusals_of a u) (refusals_of b u) (refusals_of c u) (g.own u) (h.own u) c' in
          let mb = p.mine u mine es m' in
          ap turns (sym (unready-view (IsLookedFor (whoms.Tenant u) b.clock) c u mine es own (λ w. self) (q.mine u mine es mb)) ∙ q.view u mine es mb right) ∙ p.view mine es m' left)
          (λ ne m' c'. ap turns (q.others t mine es (p.mine t mine es m') ne ∙ p.others t mine es m' ne))
          m calm.own;
    }
  where
    eqb-swap : (t u : ℕ) → eqb t u ≡ false → eqb u t ≡ false
    eqb-swap t u e = grind (arith, nat_tests)

-- the turn of a bound connection after which no fetch that waits is ready: none has to be looked at
pub turned-quiet : (u : ℕ) (scope : Scope) (a c : BrokerState) → Served u scope a c → AreUnready AnyWait c → Turned scope a c
turned-quiet u scope a c p unready = record {
  going = p.going;
  still = p.still;
  counted = p.counted;
  untouched = p.untouched;
  unready = λ k. unready;
  held = p.held;
  mine = λ t mine es m calm. p.mine t mine es m;
  view = λ t mine es m calm. each-tenant (λ v. Mine v mine es a → IsCalm (refusals_of a v) (refusals_of c v) → turns (view_of v mine c) ≡ turns (view_of v mine a)) u t (eqb u t) refl
      (λ m' c'. ap turns (sym (unready-view AnyWait c u mine es unready (λ w. tt) (p.mine u mine es m'))) ∙ p.view mine es m' c')
      (λ ne m' c'. ap turns (p.others t mine es m' ne))
      m calm.own;
}
