-- A request makes no waiting request ready that its group does not answer and that waits for no partition that it touched, and one that
-- waits on asks for the same partitions.
use Rattle.std.proofs.Common.{◌≡◌, ◌<◌, ◌+◌, eqb, ℕ, ℤ, List, [], ◌∷◌, length, true, false, Option, Some, None, refl, sym, ◌∙◌, ap, subst, arith}
use Rattle.std.specs.Prelude.{nat_le, Result, Ok, Err}
use Rattle.std.proofs.lemmas.Bool.Decides.{nat_tests}
use Rattle.kb_wire.specs.declared.fault.WireFault.{WireFault}
use Rattle.kb_api_group.specs.Frames.{Front, Whole, Partial, TooSmall, TooLarge}
use Rattle.kb_api_data.specs.declared.fetch.FetchRequest.{FetchRequest}
use Rattle.kb_api_data.specs.declared.fetch_v5.FetchReplyV5.{FetchReplyV5}
use Rattle.kb_coordinator.specs.Calls.{reply_among}
use Rattle.kb_coordinator.specs.Groups.{Groups}
use Rattle.kb_groups.specs.declared.reply.Release.{Release}
use Rattle.kb_tenant_state.specs.World.{World}
use Rattle.kb_tenant_state.specs.declared.topic_partition.TopicPartition.{TopicPartition}
use Rattle.kb_tenant.specs.Fetch.{asked_fetch, bounded, fetch_answer, places_of}
use Rattle.kb_tenant.specs.FetchWait.{FetchWait}
use Rattle.kb_tenant.specs.Replies.{Replies, Waits, Silent, Shuts}
use Rattle.kb_tenant.specs.Serve.{looked, looked_at}
use Rattle.kb_tenant_api.specs.Hosted as hosted
use Rattle.kb_tenant_api.specs.Hosted.{Kept, TenantState, passed}
use Rattle.kb_tenant_api.specs.Turns.{IsTurn}
use Rattle.kb_tenant_api.specs.Replies as service
use Rattle.kb_tenant_api.specs.Replies.{Reaction, Plain, Rebalances, told_to}
use Rattle.kb_tenant_api.specs.Serve.{served as request, has_released}
use Rattle.kb_tenant_state.specs.Tied.{IsTied}
use Rattle.kb_tenant.specs.Waiting.{AreApart, HasOwnNames}
use Rattle.kb_tenant.specs.declared.node.Node.{Node}
use Rattle.kb_tenant.proofs.Again.{retained_again}
use Rattle.kb_tenant.proofs.Asked.{before_end, waits_until}
use Rattle.kb_tenant_api.proofs.Laws.{served_again, served_waits}
use Rattle.kb_isolation_spec.specs.declared.head.Head.{Head}
use Rattle.kb_isolation_spec.specs.Tenant.{Wait, Awaited, Records, Group, ready, ready_for, asked, asked_in, asked_for, kept_after, reaction_to}
use Rattle.kb_isolation_spec.specs.Greeting.{Setup, for_tenant}
use Rattle.kb_isolation_spec.specs.Requests.{Asked, Versions, OtherVersions, Handshake, Authenticate, Another, Malformed}
use Rattle.kb_isolation_spec.specs.Requests as requests
use Rattle.kb_isolation_spec.specs.Session.{Stage, Greets, BoundTo, Session, waiting, without_wait, is_free, in_front}
use Rattle.kb_isolation_spec.specs.Broker.{BrokerState, AnyWait, AreUnready, IsUnready, kept_of_tenant}
use Rattle.kb_isolation_spec.specs.Machine.{Line, after_reaction, served_by, served_at, after_turn, kept_by, kept_at, kept_by_turn}
use Rattle.kb_isolation_spec.proofs.Parking.{told_as, parks}
use Rattle.kb_isolation_spec.proofs.Parts.{each-tenant}
use Rattle.kb_isolation_spec.proofs.Sets.{IsAt, all-map, all-set}
use Rattle.kb_isolation_spec.proofs.Turns.{free-replied, free-without, changed, unready-quiet}

-- 1. What a look tells

pub silent-none : (version : ℤ) (o : Option FetchReplyV5) → told_as version o ≡ Silent → o ≡ None
silent-none version (Some reply) h = absurd (cc)
silent-none version None h = refl

-- a fetch that is not ready is not ready in another world or at another time, if what its body asks has no answer then either
silent-there : (w v : World) (clock now deadline : ℕ) (version : ℤ) (limit : Option ℕ) (body : List ℕ) → ((r : FetchRequest) → asked_fetch version body ≡ Ok r → fetch_answer w clock (bounded limit r) deadline ≡ None → fetch_answer v now (bounded limit r) deadline ≡ None)
    → looked w clock deadline version limit body ≡ Silent → looked v now deadline version limit body ≡ Silent
unfolding looked
silent-there w v clock now deadline version limit body none e = by (asked_fetch version body) refl e
  where
    by : (r : Result FetchRequest WireFault) → asked_fetch version body ≡ r → looked_at w clock deadline version limit r ≡ Silent → looked_at v now deadline version limit r ≡ Silent
    by (Ok r) read h = ap (told_as version) (none r read (silent-none version (fetch_answer w clock (bounded limit r) deadline) h))
    by (Err fault) read h = absurd (cc)

-- a fetch that is not ready, which is before its deadline, is not ready at another time before it either
pub still-silent : (w : World) (clock now deadline : ℕ) (version : ℤ) (limit : Option ℕ) (body : List ℕ) → (clock < deadline → now < deadline) → looked w clock deadline version limit body ≡ Silent → looked w now deadline version limit body ≡ Silent
still-silent w clock now deadline version limit body early e =
    silent-there w w clock now deadline version limit body (λ r read waits. waits_until w clock (bounded limit r) deadline waits now deadline (early (before_end w clock (bounded limit r) deadline waits))) e

-- where a request or a moment answered nobody, nobody is told anything
pub told-nothing : (n : ℕ) (gs : Groups) → has_released gs ≡ false → told_to n gs ≡ Silent
unfolding reply_among
told-nothing n gs none = by gs.released none
  where
    by : (rs : List Release) → nat_le 1 (length rs) ≡ false → service.told (reply_among n rs) ≡ Silent
    by [] e = refl
    by (r ∷ rs) e = (let some : nat_le 1 (length (r ∷ rs)) ≡ true = grind (arith, nat_tests) in let no : true ≡ false = sym some ∙ e in absurd (cc))

-- 2. Those that waited before

-- a request that is not ready was not at the first moment
pub first-silent : (k : Kept) (clock n : ℕ) (w : Wait) → ready k clock n w ≡ Silent → ready k 0 n w ≡ Silent
unfolding ready
first-silent k clock n w silent = by w.awaited silent
  where
    by : (x : Awaited) → ready_for k clock n x ≡ Silent → ready_for k 0 n x ≡ Silent
    by (Records version body deadline limit) h = still-silent k.world clock 0 deadline version limit body (λ early. omega (arith, early)) h
    by Group h = h

-- after a request that touched no partition that it asks for, and that answered nobody, a request is as little ready as before
pub apart-ready : (node : Node) (k l : Kept) (clock n : ℕ) (key version : ℤ) (body : List ℕ) (m : ℕ) (w : Wait) → IsTied k.world → l.world ≡ (request node k.world clock k.groups n key version body).world
    → AreApart (asked k w) (request node k.world clock k.groups n key version body).touched → has_released l.groups ≡ false → ready k clock m w ≡ Silent → ready l clock m w ≡ Silent
unfolding ready asked
apart-ready node k l clock n key version body m w tied same apart none silent = by w.awaited apart silent
  where
    touched : List TopicPartition
    touched = (request node k.world clock k.groups n key version body).touched

    by : (x : Awaited) → AreApart (asked_for k x) touched → ready_for k clock m x ≡ Silent → ready_for l clock m x ≡ Silent
    by (Records asks fetch deadline limit) far h =
        silent-there k.world l.world clock clock deadline asks limit fetch
        (λ r read waits. ap (λ x. fetch_answer x clock (bounded limit r) deadline) same
        ∙ (served_waits node k.world clock k.groups n key version body (bounded limit r) deadline tied waits (subst (λ ps. AreApart ps touched) (ap (asked_in k.world) read) far)).0)
        h
    by Group far h = told-nothing m l.groups none

-- a request that is ready neither before nor after another asks for the same partitions, whatever was touched
pub asked-again : (node : Node) (k l : Kept) (clock n : ℕ) (key version : ℤ) (body : List ℕ) (m : ℕ) (w : Wait) → IsTied k.world → HasOwnNames k.world → l.world ≡ (request node k.world clock k.groups n key version body).world →
    ready k 0 m w ≡ Silent → ready l 0 m w ≡ Silent → asked l w ≡ asked k w
unfolding ready looked asked
asked-again node k l clock n key version body m w tied own same before after = for w.awaited before after
  where
    by : (deadline : ℕ) (asks : ℤ) (limit : Option ℕ) (r : Result FetchRequest WireFault) → looked_at k.world 0 deadline asks limit r ≡ Silent → looked_at l.world 0 deadline asks limit r ≡ Silent → asked_in l.world r ≡ asked_in k.world r
    by deadline asks limit (Ok fetch) p q =
        let r : FetchRequest = bounded limit fetch in
        let old : fetch_answer k.world clock r (clock + 1) ≡ None = waits_until k.world 0 r deadline (silent-none asks (fetch_answer k.world 0 r deadline) p) clock (clock + 1) (omega arith) in
        let new : fetch_answer l.world clock r (clock + 1) ≡ None = waits_until l.world 0 r deadline (silent-none asks (fetch_answer l.world 0 r deadline) q) clock (clock + 1) (omega arith) in
        ap (λ x. places_of x r) same
        ∙ served_again node k.world clock k.groups n key version body r (clock + 1) tied own old (subst (λ x. fetch_answer x clock r (clock + 1) ≡ None) same new)
    by deadline asks limit (Err fault) p q = absurd (cc)

    for : (x : Awaited) → ready_for k 0 m x ≡ Silent → ready_for l 0 m x ≡ Silent → asked_for l x ≡ asked_for k x
    for (Records asks fetch deadline limit) p q = by deadline asks limit (asked_fetch asks fetch) p q
    for Group p q = refl

-- a moment changes nothing of what a request asks for
pub asked-passed : (clock : ℕ) (k : Kept) (w : Wait) → asked (passed clock k) w ≡ asked k w
unfolding asked passed
asked-passed clock k w = for w.awaited
  where
    by : (r : Result FetchRequest WireFault) → asked_in (passed clock k).world r ≡ asked_in k.world r
    by (Ok r) = retained_again clock k.world r
    by (Err fault) = refl

    for : (x : Awaited) → asked_for (passed clock k) x ≡ asked_for k x
    for (Records version body deadline limit) = by (asked_fetch version body)
    for Group = refl

-- what waits for its group asks for no partition
pub asked-group : (k : Kept) (head : Head) → asked k (record { head = head; awaited = Group }) ≡ []
unfolding asked
asked-group k head = refl

-- 3. The one that begins to wait

-- the partitions that a fetch begins to wait for are those that it asks for
pub asked-parks : (node : Node) (k : Kept) (clock n : ℕ) (key version : ℤ) (body : List ℕ) (deadline : ℕ) (fetch : FetchWait) (places : List TopicPartition) (head : Head) → reaction_to node k clock n key version body ≡ Plain (Waits deadline fetch places) →
    places ≡ asked (kept_after node k clock n key version body) (record { head = head; awaited = Records fetch.version fetch.body deadline fetch.limit })
unfolding reaction_to kept_after asked
asked-parks node k clock n key version body deadline fetch places head e = (parks node k.world clock k.groups n key version body deadline fetch places e).asks

-- what waits at that stage, on the connection of number n, is not ready
abbrev pub IsIdle : ℕ → Kept → ℕ → Stage → Type 0
IsIdle clock kept n st = (t : ℕ) (w : Wait) → st ≡ BoundTo t (Some w) → ready kept clock n w ≡ Silent

free-idle : (clock : ℕ) (kept : Kept) (n : ℕ) (st : Stage) → is_free st ≡ true → IsIdle clock kept n st
free-idle clock kept n st free = λ t w e. let no : false ≡ true = sym (ap is_free e) ∙ free in absurd (cc)

waiting-idle : (clock : ℕ) (kept : Kept) (n : ℕ) (x : Wait) (st : Stage) → ready kept clock n x ≡ Silent → IsIdle clock kept n (waiting x st)
waiting-idle clock kept n x (Greets h) silent = λ t w e. absurd (cc)
waiting-idle clock kept n x (BoundTo u earlier) silent = λ t w e. let same : x ≡ w = cc in subst (λ y. ready kept clock n y ≡ Silent) same silent

group-silent : (clock : ℕ) (kept : Kept) (n : ℕ) (head : Head) → has_released kept.groups ≡ false → ready kept clock n (record { head = head; awaited = Group }) ≡ Silent
unfolding ready
group-silent clock kept n head none = told-nothing n kept.groups none

answered-idle : (clock : ℕ) (kept : Kept) (n : ℕ) (r : Reaction) (head : Head) (version : ℤ) (body : List ℕ) (s : Session) → is_free s.stage ≡ true → has_released kept.groups ≡ false
    → ((deadline : ℕ) (fetch : FetchWait) (places : List TopicPartition) → r ≡ Plain (Waits deadline fetch places) → ready kept clock n (record { head = head; awaited = Records fetch.version fetch.body deadline fetch.limit }) ≡ Silent) → IsIdle clock kept n (after_reaction r head s).stage
answered-idle clock kept n (Plain (Replies reply)) head version body s free none silent = free-idle clock kept n _ (free-replied head reply s free)
answered-idle clock kept n (Plain (Waits deadline fetch places)) head version body s free none silent = waiting-idle clock kept n (record { head = head; awaited = Records fetch.version fetch.body deadline fetch.limit }) s.stage (silent deadline fetch places refl)
answered-idle clock kept n (Plain Silent) head version body s free none silent = free-idle clock kept n s.stage free
answered-idle clock kept n (Plain Shuts) head version body s free none silent = free-idle clock kept n _ (free-without s.stage)
answered-idle clock kept n Rebalances head version body s free none silent = waiting-idle clock kept n (record { head = head; awaited = Group }) s.stage (group-silent clock kept n head none)

by-idle : (setup : Setup) (kept : Kept) (clock n : ℕ) (head : Head) (a : Asked) (s : Session) → is_free s.stage ≡ true → has_released (kept_by setup kept clock n a).groups ≡ false → IsIdle clock (kept_by setup kept clock n a) n (served_by setup kept clock n head a s).stage
unfolding served_by ready kept_after reaction_to
by-idle setup kept clock n head Versions s free none = free-idle clock kept n _ (free-replied head _ s free)
by-idle setup kept clock n head OtherVersions s free none = free-idle clock kept n _ (free-replied head _ s free)
by-idle setup kept clock n head (Handshake version mechanism) s free none = free-idle clock kept n _ (free-replied head _ s free)
by-idle setup kept clock n head (Authenticate message) s free none = free-idle clock kept n _ (free-replied head _ s free)
by-idle setup kept clock n head (Another key version body) s free none =
    answered-idle clock (kept_after setup.node kept clock n key version body) n (reaction_to setup.node kept clock n key version body) head version body s free none
    (λ deadline limit places e. (parks setup.node kept.world clock kept.groups n key version body deadline limit places e).silent)
by-idle setup kept clock n head Malformed s free none = free-idle clock kept n _ (free-without s.stage)

at-idle : (setup : Setup) (kept : Kept) (clock n : ℕ) (s : Session) (f : Front) → is_free s.stage ≡ true → has_released (kept_at setup kept clock n f).groups ≡ false → IsIdle clock (kept_at setup kept clock n f) n (served_at setup kept clock n s f).stage
at-idle setup kept clock n s (Whole frame rest) free none = let r = requests.request setup.versions frame in by-idle setup kept clock n r.head r.asked (record s { unread = rest }) free none
at-idle setup kept clock n s TooSmall free none = free-idle clock kept n _ (free-without s.stage)
at-idle setup kept clock n s TooLarge free none = free-idle clock kept n _ (free-without s.stage)
at-idle setup kept clock n s Partial free none = free-idle clock kept n s.stage free

-- what a connection waits for after its turn is not ready, where the turn answered nobody who waited for a group
pub served-idle : (setup : Setup) (kept : Kept) (clock n : ℕ) (s : Session) → is_free s.stage ≡ true → has_released (kept_by_turn setup kept clock n (in_front s)).groups ≡ false → IsIdle clock (kept_by_turn setup kept clock n (in_front s)) n (after_turn setup kept clock n s).stage
unfolding after_turn kept_by_turn
served-idle setup kept clock n s free none = at-idle setup kept clock n s (in_front s) free none

-- 4. The turn of a bound connection

module _ (b : BrokerState) (i u : ℕ) (l m : Line) (us : List TenantState) (H : Type 0) (turn : IsTurn u H b.tenants us) (honest : H) where
  -- of each tenant a request that was not ready is not ready
  kept-unready : ((n : ℕ) (w : Wait) → ready (kept_of_tenant b u) b.clock n w ≡ Silent → ready (hosted.kept_of us u) b.clock n w ≡ Silent) → (t n : ℕ) (w : Wait) → ready (kept_of_tenant b t) b.clock n w ≡ Silent → ready (hosted.kept_of us t) b.clock n w ≡ Silent
  kept-unready quiet t n w silent = each-tenant (λ v. ready (kept_of_tenant b v) b.clock n w ≡ Silent → ready (hosted.kept_of us v) b.clock n w ≡ Silent) u t (eqb u t) refl
      (λ e. quiet n w e) (λ ne e. ap (λ k. ready k b.clock n w) (turn.others honest t ne) ∙ e) silent

  pub own-unready : (n : ℕ) (st : Stage) → without_wait st ≡ BoundTo u None → IsIdle b.clock (hosted.kept_of us u) n st → IsUnready AnyWait (changed b i m us b.unbound_refusals) n st
  own-unready n (Greets h) same idle = tt
  own-unready n (BoundTo t None) same idle = tt
  own-unready n (BoundTo t (Some w)) same idle = λ any. let is : t ≡ u = cc in subst (λ v. ready (hosted.kept_of us v) b.clock n w ≡ Silent) (sym is) (idle t w refl)

  -- what the connection itself waits for then is not ready, where the turn answered nobody who waited for a group
  pub own-turn : IsAt b.lines i l → is_free l.session.stage ≡ true → without_wait l.session.stage ≡ BoundTo u None → m.number ≡ l.number → without_wait m.session.stage ≡ without_wait l.session.stage
      → m.session ≡ after_turn (for_tenant b.setup u) (kept_of_tenant b u) b.clock l.number l.session → hosted.kept_of us u ≡ kept_by_turn (for_tenant b.setup u) (kept_of_tenant b u) b.clock l.number (in_front l.session) → has_released (hosted.kept_of us u).groups ≡ false
      → IsUnready AnyWait (changed b i m us b.unbound_refusals) m.number m.session.stage
  own-turn at free bound number same is after none =
      let kept = kept_by_turn (for_tenant b.setup u) (kept_of_tenant b u) b.clock l.number (in_front l.session) in
      let there : IsIdle b.clock kept l.number (after_turn (for_tenant b.setup u) (kept_of_tenant b u) b.clock l.number l.session).stage =
      served-idle (for_tenant b.setup u) (kept_of_tenant b u) b.clock l.number l.session free (subst (λ (k : Kept). has_released k.groups ≡ false) after none) in
      let idle : IsIdle b.clock (hosted.kept_of us u) l.number m.session.stage = subst (λ (k : Kept). IsIdle b.clock k l.number m.session.stage) (sym after) (subst (λ (s : Session). IsIdle b.clock kept l.number s.stage) (sym is) there) in
      own-unready m.number m.session.stage (same ∙ bound) (subst (λ n. IsIdle b.clock (hosted.kept_of us u) n m.session.stage) (sym number) idle)

  -- a turn that touched no partition and answered nobody leaves nothing ready, where nothing was before
  pub quiet-turn : AreUnready AnyWait b → IsAt b.lines i l → is_free l.session.stage ≡ true → without_wait l.session.stage ≡ BoundTo u None → m.number ≡ l.number → without_wait m.session.stage ≡ without_wait l.session.stage
      → m.session ≡ after_turn (for_tenant b.setup u) (kept_of_tenant b u) b.clock l.number l.session → hosted.kept_of us u ≡ kept_by_turn (for_tenant b.setup u) (kept_of_tenant b u) b.clock l.number (in_front l.session) → has_released (hosted.kept_of us u).groups ≡ false
      → ((n : ℕ) (w : Wait) → ready (kept_of_tenant b u) b.clock n w ≡ Silent → ready (hosted.kept_of us u) b.clock n w ≡ Silent) → AreUnready AnyWait (changed b i m us b.unbound_refusals)
  quiet-turn unready at free bound number same is after none quiet =
      let c = changed b i m us b.unbound_refusals in
      all-set (λ (k : Line). IsUnready AnyWait c k.number k.session.stage) b.lines i m
      (all-map (λ (k : Line). IsUnready AnyWait b k.number k.session.stage) (λ (k : Line). IsUnready AnyWait c k.number k.session.stage) (λ k. unready-quiet AnyWait b c refl (kept-unready quiet) k.number k.session.stage) b.lines unready)
      (own-turn at free bound number same is after none)
