-- What a tenant's call is to the connection that it is for.
use Rattle.std.proofs.Common.{◌≡◌, ◌≤◌, false, None, Some, inl, inr, ℕ, ℤ, List, [], length, Bool, true, Result, Ok, Err, OnOk, OnErr, refl, sym, ap, subst, ◌∙◌, arith}
use Rattle.kb_coordinator.specs.Groups.{Groups, silent}
use Rattle.kb_tenant_state.specs.Tied.{IsTied}
use Rattle.kb_tenant_state.specs.World.{World}
use Rattle.kb_tenant_api.proofs.ByRequest.{by_request}
use Rattle.kb_tenant_state.specs.Counts.{END, IsCalm}
use Rattle.kb_tenant_state.specs.declared.topic_partition.TopicPartition.{TopicPartition}
use Rattle.kb_tenant_api.specs.Hosted.{Kept, nothing, TenantState, kept_in, kept_of, refusals_of}
use Rattle.kb_tenant_api.specs.Turns.{IsTurn, IsMet}
use Rattle.kb_tenant.specs.Replies as plain
use Rattle.kb_tenant.specs.Replies.{Replies, Waits, Silent, Shuts}
use Rattle.kb_tenant.specs.declared.answer.Answer.{Answer as Plain}
use Rattle.kb_tenant_api.specs.Replies.{Reaction, Rebalances, IsAnswer, told_to}
use Rattle.kb_tenant_api.specs.declared.answer.Answer.TheVariants as group
use Rattle.kb_isolation_spec.specs.declared.shut.Shut.TheVariants as causes
use Rattle.kb_isolation_spec.specs.declared.head.Head.{Head}
use Rattle.kb_isolation_spec.specs.Stranded.{IsMembersAt}
use Rattle.kb_tenant_api.specs.Serve.{Outcome, IsOutcome, has_released, served}
use Rattle.kb_tenant_api.specs.declared.answer.Answer.{Answer}
use Rattle.kb_tenant.specs.declared.answer.Answer.TheVariants as answers
use Rattle.kb_tenant.specs.declared.node.Node.{Node}
use Rattle.kb_isolation_spec.specs.Tenant.{Awaited, Records, Group, Wait, is_members, reaction_to, asked, ready, ready_for, kept_after}
use Rattle.kb_isolation_spec.specs.Session.{Greeting, Greets, BoundTo, Session, can, shut_down, waiting, without_wait, unanswerable, in_front}
use Rattle.kb_isolation_spec.specs.Greeting.{Setup, greeted, for_tenant, node_of}
use Rattle.kb_isolation_spec.specs.Machine.{Line, after_reaction, told, woken, woken_by, after_turn as served_by_turn, kept_by_turn}
use Rattle.kb_isolation_spec.proofs.Laws.{can-turn, some-left, greeted-less, served-less}
use Rattle.kb_isolation_spec.proofs.Owners.{stage-served, stage-shut}
use Rattle.kb_isolation_spec.proofs.RequestLimits.{limit-greeted, limit-served}
use Rattle.kb_connection.specs.Fronts.{IsAsked}
use Rattle.kb_connection.specs.View.{with_session, without_front}
use Rattle.kb_connection.specs.TenantAnswers.{is_quiet}
use Rattle.kb_tenants.proofs.Tied.{kept_names, kept_tied}
use Rattle.kb_tenants.proofs.Answered.{untold}
use Rattle.kb_tenants.specs.Tenants.{EndsWait, shelf_is_honest}
use Rattle.kb_isolation_spec.proofs.Quiet.{apart-ready, asked-again}
use Rattle.kb_tenant.specs.Waiting.{AreApart}
use Rattle.kb_broker.specs.Parked.{IsReleased, IsTouched, IsAskedOn}
use Rattle.kb_store.specs.Disk.{Disk}
use Rattle.kb_log.specs.OnShelf.{Log}
use Rattle.kb_tenants.specs.declared.tenants.Tenants.{Tenants}
use Rattle.kb_broker.specs.Hosts.{AreHosted, tenants_in}
use Rattle.kb_broker.specs.Places.{IsSpent, IsLookAnswer, IsLookedAt}
use Rattle.kb_broker.proofs.Handled.{from_ok, turn-sure}
use Rattle.std.proofs.Common.{eqb}
use Rattle.std.specs.Prelude.{Contains, nat_lt, ◌&&◌, ◌⊎◌}
use Rattle.std.specs.Result.{is_err}
use Rattle.kb_isolation_spec.specs.declared.whom.Whom.{Whom}
use Rattle.kb_isolation_spec.specs.Turned.{IsLookedFor}
use Rattle.kb_isolation_spec.specs.Broker.{BrokerState, IsUnready, AnyWait}
use Rattle.kb_isolation_spec.proofs.Turns.{shut-unready}
use Rattle.kb_isolation_spec.proofs.Wakes.{unready-woken, woken-at}
use Rattle.std.proofs.lemmas.Bool.Decides.{nat_tests}
use Rattle.kb_isolation_spec.proofs.Parts.{turn-then, calm-right}

-- 1. A request of the tenant

-- what is answered, and kept
pub answered-now : (node : Node) (k l : Kept) (clock n : ℕ) (id key version : ℤ) (body : List ℕ) (touched : List TopicPartition) (r : Answer) → IsOutcome id (served node k.world clock k.groups n key version body) l.world l.groups touched r
    → (l ≡ kept_after node k clock n key version body) × IsAnswer id (reaction_to node k clock n key version body) r
unfolding reaction_to kept_after
answered-now node k l clock n id key version body touched r h =
    let o = served node k.world clock k.groups n key version body in
    (ap (λ w. kept_in w l.groups) h.0 ∙ ap (kept_in o.world) h.1, h.3)

-- what stands in front was asked, and answered so: the connection is the machine's
pub asked-now : (setup : Setup) (t clock n : ℕ) (k m : Kept) (l new : Line) (key version : ℤ) (head : Head) (body : List ℕ) (r : Answer) → IsAsked setup l.session key version head body → m ≡ kept_after (node_of setup t) k clock n key version body → IsAnswer head.correlation_id (reaction_to (node_of setup t) k clock n key version body) r
    → ((key' version' : ℤ) (head' : Head) (body' : List ℕ) (reaction : Reaction) → IsAsked setup l.session key' version' head' body' → IsAnswer head'.correlation_id reaction r → new ≡ with_session l (after_reaction reaction head' (without_front l.session)))
    → (new.session ≡ served_by_turn (for_tenant setup t) k clock n l.session) × (m ≡ kept_by_turn (for_tenant setup t) k clock n (in_front l.session))
asked-now setup t clock n k m l new key version head body r asked kept told ok =
    let is = ok key version head body (reaction_to (node_of setup t) k clock n key version body) asked told in
    (ap (λ (x : Line). x.session) is ∙ sym (asked.served t k clock n), kept ∙ sym (asked.put t k clock n))

-- where nothing was refused, and nobody's group answered it, only a fetch that asks a touched partition may have become ready
pub touched-now : {L S : Type 0} (log : L → Log) (disk : S → Disk) (H : Type 0) → H → (node : Node) (hosts : Tenants L S) (us : List TenantState) (clock t n : ℕ) (id key version : ℤ) (body : List ℕ) (touched : List TopicPartition) (r : Answer) → AreHosted log disk hosts
    → IsMet t H (tenants_in log disk hosts) us (λ k l. IsOutcome id (served node k.world clock k.groups n key version body) l.world l.groups touched r)
    → IsCalm (refusals_of (tenants_in log disk hosts) t) (refusals_of us t) → has_released (kept_of us t).groups ≡ false → IsTouched t clock (tenants_in log disk hosts) us touched
touched-now log disk H honest node hosts us clock t n id key version body touched r kept meets calm nobody =
    let h = meets honest calm in
    record { calm = calm; none = nobody; ready = λ k w apart. apart-ready node (kept_of (tenants_in log disk hosts) t) (kept_of us t) clock n key version body k w (kept_tied log disk hosts kept t) h.0 (subst (AreApart (asked (kept_of (tenants_in log disk hosts) t) w)) h.2 apart) nobody }

-- a request that touches a partition answers nobody who waited for a group
one-alone : (node : Node) (w : World) (clock : ℕ) (gs : Groups) (n : ℕ) (key version : ℤ) (body : List ℕ) → let o = served node w clock gs n key version body in (o.touched ≡ []) ⊎ (o.groups ≡ silent gs)
one-alone node w clock gs n key version body = by_request (λ (o : Outcome). (o.touched ≡ []) ⊎ (o.groups ≡ silent gs)) node w clock gs n key version body (record { stays = λ after reaction. inl refl; commit = λ r. inl refl; delete = λ r. inl refl; topics = inr refl })

-- after a request that touched no partition what its groups do not answer is as little ready as before
answered-ready : (node : Node) (k l : Kept) (clock n : ℕ) (key version : ℤ) (body : List ℕ) (m : ℕ) (w : Wait) → IsTied k.world → l.world ≡ (served node k.world clock k.groups n key version body).world
    → (served node k.world clock k.groups n key version body).touched ≡ [] → told_to m l.groups ≡ plain.Silent → ready k clock m w ≡ plain.Silent → ready l clock m w ≡ plain.Silent
unfolding ready
answered-ready node k l clock n key version body m w tied same untouched still silence = by w.awaited quietly
  where
    nowhere : (place : TopicPartition) → Contains [] place → ⊥
    nowhere place c = let h = c.1 in omega (arith, h)

    hushed : Kept
    hushed = record l { groups = silent l.groups }

    quietly : ready hushed clock m w ≡ plain.Silent
    quietly = apart-ready node k hushed clock n key version body m w tied same (λ place asks touches. nowhere place (subst (λ ps. Contains ps place) untouched touches)) refl silence

    by : (x : Awaited) → ready_for hushed clock m x ≡ plain.Silent → ready_for l clock m x ≡ plain.Silent
    by (Records asks fetch deadline limit) h = h
    by Group h = still

-- where nothing was refused, and groups answered requests that waited, only those may have become ready
pub released-now : {L S : Type 0} (log : L → Log) (disk : S → Disk) (H : Type 0) → H → (node : Node) (hosts : Tenants L S) (us : List TenantState) (clock t n : ℕ) (id key version : ℤ) (body : List ℕ) (touched : List TopicPartition) (r : Answer) → AreHosted log disk hosts
    → IsMet t H (tenants_in log disk hosts) us (λ k l. IsOutcome id (served node k.world clock k.groups n key version body) l.world l.groups touched r)
    → IsCalm (refusals_of (tenants_in log disk hosts) t) (refusals_of us t) → has_released (kept_of us t).groups ≡ true → IsReleased t clock (tenants_in log disk hosts) us
released-now log disk H honest node hosts us clock t n id key version body touched r kept meets calm some =
    let h = meets honest calm in
    let k = kept_of (tenants_in log disk hosts) t in
    let l = kept_of us t in
    record {
      calm = calm;
      ready = λ m w apart. answered-ready node k l clock n key version body m w (kept_tied log disk hosts kept t) h.0 (by (served node k.world clock k.groups n key version body) k.groups l.groups h.1 some (one-alone node k.world clock k.groups n key version body)) (untold m l.groups apart);
    }
  where
    by : (o : Outcome) (gs after : Groups) → after ≡ o.groups → has_released after ≡ true → (o.touched ≡ []) ⊎ (o.groups ≡ silent gs) → o.touched ≡ []
    by o gs after same some (inl none) = none
    by o gs after same some (inr quiet) = let no : has_released (silent gs) ≡ true = subst (λ x. has_released x ≡ true) (same ∙ quiet) some in absurd (cc)

-- where nothing was ever refused to the tenant, a fetch that still waits asks for the same
pub asked-on : {L S : Type 0} (log : L → Log) (disk : S → Disk) (H : Type 0) → H → (hosts : Tenants L S) → shelf_is_honest disk hosts → (node : Node) (us : List TenantState) (clock t n : ℕ) (id key version : ℤ) (body : List ℕ) (touched : List TopicPartition) (r : Answer) → AreHosted log disk hosts
    → IsTurn t H (tenants_in log disk hosts) us
    → IsMet t H (tenants_in log disk hosts) us (λ k l. IsOutcome id (served node k.world clock k.groups n key version body) l.world l.groups touched r)
    → IsAskedOn t (tenants_in log disk hosts) us
asked-on log disk H honest hosts before-honest node us clock t n id key version body touched r kept turn meets calm =
    let ts = tenants_in log disk hosts in
    let up = turn.grows t in
    let before : refusals_of ts t ≡ 0 = omega (arith, calm, up) in
    let h = meets honest (record { same = calm ∙ sym before; below = grind (arith, nat_tests, before) }) in
    λ k w old new. asked-again node (kept_of ts t) (kept_of us t) clock n key version body k w (kept_tied log disk hosts kept t) (kept_names log disk hosts kept before-honest t) h.0 old new

-- 2. What a turn leaves of a connection in any case

-- the connection was shut
pub spent-shut : (l new : Line) → can l.session ≡ true → new ≡ with_session l (shut_down causes.Memory l.session) → IsSpent l.session new.session
spent-shut l new able is =
    let some = some-left l.session.limit l.session.unread (can-turn l.session able) in
    let left = ap (λ (x : Line). length x.session.unread) is in
    record { less = omega (arith, some, left); limit = ap (λ (x : Line). x.session.limit) is; stage = λ t w e. ap (λ (x : Line). without_wait x.session.stage) is ∙ stage-shut l.session }

-- a matter of the connection alone
pub spent-served : {A E : Type 0} (result : Result A E) (setup : Setup) (l new : Line) → can l.session ≡ true → ((tenant : ℕ) (kept : Kept) (clock n : ℕ) → OnOk result (new ≡ with_session l (served_by_turn (for_tenant setup tenant) kept clock n l.session)))
    → OnErr result (new ≡ with_session l (shut_down causes.Memory l.session)) → IsSpent l.session new.session
spent-served (Ok x) setup l new able ok err =
    let is = ok 0 nothing 0 0 in
    let less = served-less (for_tenant setup 0) nothing 0 0 l.session (can-turn l.session able) in
    let left = ap (λ (x : Line). length x.session.unread) is in
    record {
      less = omega (arith, less, left);
      limit = ap (λ (x : Line). x.session.limit) is ∙ limit-served (for_tenant setup 0) nothing 0 0 l.session;
      stage = λ t w e. ap (λ (x : Line). without_wait x.session.stage) is ∙ stage-served (for_tenant setup 0) nothing 0 0 l.session;
    }
spent-served (Err x) setup l new able ok err = spent-shut l new able err

-- a greeting
pub spent-greeted : {A E : Type 0} (result : Result A E) (setup : Setup) (h : Greeting) (l new : Line) → l.session.stage ≡ Greets h → can l.session ≡ true → OnOk result (new ≡ with_session l (greeted setup h l.session))
    → OnErr result (new ≡ with_session l (shut_down causes.Memory l.session)) → IsSpent l.session new.session
spent-greeted (Ok x) setup h l new greets able ok err =
    let less = greeted-less setup h l.session (can-turn l.session able) in
    let left = ap (λ (x : Line). length x.session.unread) ok in
    record {
      less = omega (arith, less, left);
      limit = ap (λ (x : Line). x.session.limit) ok ∙ limit-greeted setup h l.session;
      stage = λ t w e. (let none : Greets h ≡ BoundTo t w = sym greets ∙ e in absurd (cc));
    }
spent-greeted (Err x) setup h l new greets able ok err = spent-shut l new able err

-- a member more waits on the connection only where the connection waits for its group then
pub member-told : (t : ℕ) (l new : Line) (r : Answer) (head : Head) (version : ℤ) (body : List ℕ) (P : Type 0) → l.session.stage ≡ BoundTo t None → (r ≡ group.Rebalance → new ≡ with_session l (after_reaction Rebalances head (without_front l.session))) → (r ≡ group.Rebalance) ⊎ P → IsMembersAt t new.session.stage ⊎ P
member-told t l new r head version body P bound is (inl e) = inl (subst (λ (x : Line). IsMembersAt t x.session.stage) (sym (is e)) (subst (λ st. IsMembersAt t (waiting (record { head = head; awaited = Group }) st)) (sym bound) (refl, refl)))
member-told t l new r head version body P bound is (inr p) = inr p

-- 3. A look at a waiting request

-- what the tenant answers to it is what the machine tells
met-looked : {A E : Type 0} (H : Type 0) → H → (result : Result A E) (clock t : ℕ) (ts us : List TenantState) (l new : Line) (w : Wait) (r : Plain) → l.session.stage ≡ BoundTo t (Some w)
    → IsMet t H ts us (λ k m. (m ≡ k) × plain.IsAnswer w.head.correlation_id (ready k clock l.number w) r)
    → ((tenant : ℕ) (x : Wait) (reaction : plain.Reaction) → l.session.stage ≡ BoundTo tenant (Some x) → plain.IsAnswer x.head.correlation_id reaction r → OnOk result (new ≡ with_session l (told reaction x.head l.session)))
    → IsCalm (refusals_of ts t) (refusals_of us t) → OnOk result (new.session ≡ woken (kept_of ts t) clock l.number l.session)
unfolding woken_by
met-looked H honest (Err x) clock t ts us l new w r stage meets ok calm = tt
met-looked H honest (Ok x) clock t ts us l new w r stage meets ok calm =
    let k = kept_of ts t in
    let done = meets honest calm in
    let is = ok t w (ready k clock l.number w) stage done.1 in
    ap (λ (x : Line). x.session) is ∙ sym (ap (woken_by k clock l.number l.session) stage)

calm-by : (x y : ℕ) {P : Type 0} (b : Bool) → (eqb y x && nat_lt x END) ≡ b → (IsCalm x y → P) → ((IsCalm x y → ⊥) → P) → P
calm-by x y true e calm loud = calm (record { same = grind (arith, nat_tests, e); below = grind (arith, nat_tests, e) })
calm-by x y false e calm loud = loud (λ h. let s = h.same in let l = h.below in grind (arith, nat_tests, e, s, l))

-- nothing was refused, or something was
pub calm-or : (x y : ℕ) {P : Type 0} → (IsCalm x y → P) → ((IsCalm x y → ⊥) → P) → P
calm-or x y calm loud = calm-by x y (eqb y x && nat_lt x END) refl calm loud

-- an answer that ends a fetch's wait, where something was refused: its connection is shut, or it has its reply
pub refused-answer : (t clock n : ℕ) (ts us : List TenantState) (w : Wait) (r : Plain) → is_members w.awaited ≡ false
    → (IsCalm (refusals_of ts t) (refusals_of us t) → ⊥) → EndsWait r → IsLookAnswer t clock n ts us w r
refused-answer t clock n ts us w (answers.Reply bytes) fetch loud ends =
    inr (inr (record { refused = loud; fetch = fetch; bytes = bytes; reply = refl }))
refused-answer t clock n ts us w (answers.Wait deadline limit places) fetch loud ends = absurd ends
refused-answer t clock n ts us w answers.NoReply fetch loud ends = absurd ends
refused-answer t clock n ts us w answers.Shut fetch loud ends =
    inr (inl (refl, λ own none. (let no : false ≡ true = sym fetch ∙ own in absurd (cc))))

-- a look leaves the connection as its answer says
pub looked-ok : {A E : Type 0} (H : Type 0) (result : Result A E) (whom : Whom) (clock t : ℕ) (ts us : List TenantState) (l new : Line) (w : Wait) (r : Plain) → l.session.stage ≡ BoundTo t (Some w) → IsLookedFor whom clock t w → IsTurn t H ts us
    → (H → (u : ℕ) → kept_of us u ≡ kept_of ts u) → IsMet t H ts us (λ k m. (m ≡ k) × plain.IsAnswer w.head.correlation_id (ready k clock l.number w) r) → (H → IsLookAnswer t clock l.number ts us w r)
    → ((tenant : ℕ) (x : Wait) (reaction : plain.Reaction) → l.session.stage ≡ BoundTo tenant (Some x) → plain.IsAnswer x.head.correlation_id reaction r → OnOk result (new ≡ with_session l (told reaction x.head l.session)))
    → new.number ≡ l.number → without_wait new.session.stage ≡ without_wait l.session.stage → length new.session.unread ≤ length l.session.unread → new.session.limit ≡ l.session.limit
    → (is_quiet r ≡ false → new.session.stage ≡ without_wait l.session.stage)
    → is_err result ≡ false → IsLookedAt H whom clock l.session.stage ts us l new
looked-ok H result whom clock t ts us l new w r stage yours turn stays meets says ok number same unread limit ends good =
    let met = λ (honest : H) (calm : IsCalm (refusals_of ts t) (refusals_of us t)). let h : OnOk result (new.session ≡ woken (kept_of ts t) clock l.number l.session) = met-looked H honest result clock t ts us l new w r stage meets ok calm in from_ok result false (new.session ≡ woken (kept_of ts t) clock l.number l.session) (sym good) refl h in
    subst (λ st. IsLookedAt H whom clock st ts us l new) (sym stage)
    (inr (
      yours,
      record {
        number = number;
        stage = same;
        unread = unread;
        limit = limit;
        turn = turn;
        stays = stays;
        meets = met;
        unready = λ honest b is now. left b is now (is-told honest);
        member = λ honest x at own. members x at own (is-told honest);
      },
    ))
  where
    unready-met : (b : BrokerState) (t : ℕ) (w : Wait) (l new : Line) → l.session.stage ≡ BoundTo t (Some w) → new.session ≡ woken (kept_of b.tenants t) b.clock l.number l.session → IsUnready AnyWait b l.number new.session.stage
    unready-met b t w l new stage is = subst (λ (s : Session). IsUnready AnyWait b l.number s.stage) (sym is) (unready-woken AnyWait b l.number l.session t w stage)

    is-of : (reaction : plain.Reaction) → plain.IsAnswer w.head.correlation_id reaction r → new ≡ with_session l (told reaction w.head l.session)
    is-of reaction answers = from_ok result false (new ≡ with_session l (told reaction w.head l.session)) (sym good) refl (ok t w reaction stage answers)

    is-shut : r ≡ answers.Shut → new ≡ with_session l (shut_down (unanswerable w.head) l.session)
    is-shut e = is-of Shuts (subst (plain.IsAnswer w.head.correlation_id Shuts) (sym e) tt)

    is-told : H → IsLookAnswer t clock l.number ts us w r
    is-told honest = says honest

    left : (b : BrokerState) → b.tenants ≡ ts → b.clock ≡ clock → IsLookAnswer t clock l.number ts us w r → IsUnready AnyWait b l.number new.session.stage
    left b is now (inl says) = unready-met b t w l new stage
        (ap (λ (x : Line). x.session) (is-of (ready (kept_of ts t) clock l.number w) says)
        ∙ (sym (woken-at (kept_of ts t) clock l.number l.session t w stage)
        ∙ (ap (λ k. woken k clock l.number l.session) (ap (λ x. kept_of x t) (sym is)) ∙ ap (λ n. woken (kept_of b.tenants t) n l.number l.session) (sym now))))
    left b is now (inr (inl gone)) = subst (λ (x : Line). IsUnready AnyWait b l.number x.session.stage) (sym (is-shut gone.0)) (shut-unready AnyWait b l.number l.session)
    left b is now (inr (inr refused)) =
        subst (IsUnready AnyWait b l.number) (sym (ends (ap is_quiet refused.reply))) (shut-unready AnyWait b l.number l.session)

    members : (x : Wait) → l.session.stage ≡ BoundTo t (Some x) → is_members x.awaited ≡ true → IsLookAnswer t clock l.number ts us w r → (new.session.stage ≡ l.session.stage) ⊎ (ready (kept_of ts t) clock l.number x ≡ Silent → ⊥)
    members x at own says = subst (λ (y : Wait). (new.session.stage ≡ l.session.stage) ⊎ (ready (kept_of ts t) clock l.number y ≡ Silent → ⊥)) alike (by says)
      where
        alike : w ≡ x
        alike = let both : BoundTo t (Some w) ≡ BoundTo t (Some x) = sym stage ∙ at in cc

        told-stage : (reaction : plain.Reaction) → ready (kept_of ts t) clock l.number w ≡ reaction → plain.IsAnswer w.head.correlation_id reaction r → (new.session.stage ≡ l.session.stage) ⊎ (ready (kept_of ts t) clock l.number w ≡ Silent → ⊥)
        told-stage (Replies reply) e answers = inr (λ none. let no : Replies reply ≡ Silent = sym e ∙ none in absurd (cc))
        told-stage (Waits deadline limit places) e answers = inl (ap (λ (x : Line). x.session.stage) (is-of (Waits deadline limit places) answers))
        told-stage Silent e answers = inl (ap (λ (x : Line). x.session.stage) (is-of Silent answers))
        told-stage Shuts e answers = inr (λ none. let no : Shuts ≡ Silent = sym e ∙ none in absurd (cc))

        by : IsLookAnswer t clock l.number ts us w r → (new.session.stage ≡ l.session.stage) ⊎ (ready (kept_of ts t) clock l.number w ≡ Silent → ⊥)
        by (inl answers) = told-stage (ready (kept_of ts t) clock l.number w) refl answers
        by (inr (inl gone)) = inr (gone.1 (ap (λ (y : Wait). is_members y.awaited) alike ∙ own))
        by (inr (inr refused)) =
            let no : false ≡ true = sym refused.fetch ∙ (ap (λ (y : Wait). is_members y.awaited) alike ∙ own) in absurd (cc)

-- the reply could not be kept: the connection is shut, and a refusal was counted
pub looked-err : (H : Type 0) (whom : Whom) (clock t : ℕ) (ts us vs : List TenantState) (l new : Line) (w : Wait) → l.session.stage ≡ BoundTo t (Some w) → IsLookedFor whom clock t w → IsTurn t H ts us → IsTurn t (Unit {0}) us vs
    → (H → (u : ℕ) → kept_of us u ≡ kept_of ts u) → ((u : ℕ) → kept_of vs u ≡ kept_of us u) → (IsCalm (refusals_of us t) (refusals_of vs t) → ⊥) → new ≡ with_session l (shut_down causes.Memory l.session)
    → new.number ≡ l.number → without_wait new.session.stage ≡ without_wait l.session.stage → length new.session.unread ≤ length l.session.unread → (r : Plain) → (H → IsLookAnswer t clock l.number ts us w r) → (is_quiet r ≡ true → new ≡ l)
    → IsLookedAt H whom clock l.session.stage ts vs l new
looked-err H whom clock t ts us vs l new w stage yours first then stays again counted is number same unread r says quiet =
    subst (λ st. IsLookedAt H whom clock st ts vs l new) (sym stage)
    (inr (
      yours,
      record {
        number = number;
        stage = same;
        unread = unread;
        limit = ap (λ (x : Line). x.session.limit) is;
        turn = turn-then t H H ts us vs (λ u. u) first (turn-sure H t us vs then);
        stays = λ honest u. again u ∙ stays honest u;
        meets = λ honest calm. absurd (counted (calm-right (refusals_of ts t) (refusals_of us t) (refusals_of vs t) (first.grows t) (then.grows t) calm));
        unready = λ honest b e now. subst (λ (x : Line). IsUnready AnyWait b l.number x.session.stage) (sym is) (shut-unready AnyWait b l.number l.session);
        member = λ honest x at own. members x at own (says honest);
      },
    ))
  where
    members : (x : Wait) → l.session.stage ≡ BoundTo t (Some x) → is_members x.awaited ≡ true → IsLookAnswer t clock l.number ts us w r → (new.session.stage ≡ l.session.stage) ⊎ (ready (kept_of ts t) clock l.number x ≡ Silent → ⊥)
    members x at own says = subst (λ (y : Wait). (new.session.stage ≡ l.session.stage) ⊎ (ready (kept_of ts t) clock l.number y ≡ Silent → ⊥)) alike (by says)
      where
        alike : w ≡ x
        alike = let both : BoundTo t (Some w) ≡ BoundTo t (Some x) = sym stage ∙ at in cc

        silent : (a : Plain) → plain.IsAnswer w.head.correlation_id Silent a → is_quiet a ≡ true
        silent (answers.Reply reply) h = absurd h
        silent (answers.Wait deadline limit places) h = absurd h
        silent answers.NoReply h = refl
        silent answers.Shut h = absurd h

        told-stage : (reaction : plain.Reaction) → ready (kept_of ts t) clock l.number w ≡ reaction → plain.IsAnswer w.head.correlation_id reaction r → (new.session.stage ≡ l.session.stage) ⊎ (ready (kept_of ts t) clock l.number w ≡ Silent → ⊥)
        told-stage (Replies reply) e h = inr (λ none. let no : Replies reply ≡ Silent = sym e ∙ none in absurd (cc))
        told-stage (Waits deadline limit places) e h = inr (λ none. let no : Waits deadline limit places ≡ Silent = sym e ∙ none in absurd (cc))
        told-stage Silent e h = inl (ap (λ (y : Line). y.session.stage) (quiet (silent r h)))
        told-stage Shuts e h = inr (λ none. let no : Shuts ≡ Silent = sym e ∙ none in absurd (cc))

        by : IsLookAnswer t clock l.number ts us w r → (new.session.stage ≡ l.session.stage) ⊎ (ready (kept_of ts t) clock l.number w ≡ Silent → ⊥)
        by (inl h) = told-stage (ready (kept_of ts t) clock l.number w) refl h
        by (inr (inl gone)) = inr (gone.1 (ap (λ (y : Wait). is_members y.awaited) alike ∙ own))
        by (inr (inr refused)) =
            let no : false ≡ true = sym refused.fetch ∙ (ap (λ (y : Wait). is_members y.awaited) alike ∙ own) in absurd (cc)
