-- What a turn leaves of the connection that took it and of its place in the queue, and whom it concerns.
use Rattle.std.proofs.Common.{◌≡◌, ◌≢◌, ◌<◌, ℕ, ℤ, List, [], ◌∷◌, length, get_or, Option, Some, None, Result, Ok, Err, OnOk, OnErr, true, false, zero, suc, inl, inr, refl, sym, ◌∙◌, ap, subst, arith}
use Rattle.std.proofs.lemmas.List.Elements.{Contains-append_left, Contains-push, Contains-push_cases}
use Rattle.std.specs.Prelude.{◌++◌, ◌⊎◌, Contains, IsSomeAnd, cond}
use Rattle.std.specs.Result.{is_err}
use Rattle.std.specs.FinMap as fin
use Rattle.std.specs.Cmp.{nat_cmp_total}
use Rattle.std.specs.declared.alloc.Global.{Global}
use Rattle.std.specs.declared.vec.Vec.{Vec}
use Rattle.std.proofs.lemmas.Bool.Decides.{nat_tests}
use Rattle.kb_api_group.specs.Frames.{Front, Whole, Partial, TooSmall, TooLarge}
use Rattle.kb_waits.specs.Queue as queue
use Rattle.kb_waits.specs.Queue.{Queue, AreParked, IsUnder, IsUnderAny}
use Rattle.kb_waits.specs.declared.key.WaitKey.{WaitKey}
use Rattle.kb_waits.proofs.Queues.{get-insert_other, tied-itself}
use Rattle.kb_tenant_state.specs.declared.topic_partition.TopicPartition.{TopicPartition}
use Rattle.kb_tenant_api.specs.Hosted.{Kept, TenantState, kept_of, refusals_of, nothing}
use Rattle.kb_tenant_api.specs.Turns.{IsTurn, IsMet}
use Rattle.kb_tenant.specs.Replies.{Replies, Waits, Silent, Shuts}
use Rattle.kb_tenant.specs.declared.answer.Answer.TheVariants as plain
use Rattle.kb_tenant_api.specs.Replies.{Reaction, Plain, Rebalances, IsAnswer}
use Rattle.kb_tenant_api.specs.declared.answer.Answer.{Answer}
use Rattle.kb_tenant_api.specs.declared.answer.Answer.TheVariants as answers
use Rattle.kb_tenant.specs.declared.node.Node.{Node}
use Rattle.kb_isolation_spec.specs.declared.shut.Shut.TheVariants as causes
use Rattle.kb_isolation_spec.specs.declared.head.Head.{Head}
use Rattle.kb_isolation_spec.specs.Tenant.{Awaited, Wait, Records, Group, reaction_to, asked, kept_after}
use Rattle.kb_isolation_spec.specs.Requests as requests
use Rattle.kb_api_group.specs.declared.api_versions.ApiVersion.{ApiVersion}
use Rattle.kb_isolation_spec.specs.Requests.{Asked, Versions, OtherVersions, Handshake, Authenticate, Another, Malformed}
use Rattle.kb_isolation_spec.specs.Session.{Greeting, Stage, Greets, BoundTo, Session, shut_down, waiting, without_wait, is_free, in_front}
use Rattle.kb_isolation_spec.specs.Greeting.{Setup, greeted, for_tenant, node_of}
use Rattle.kb_isolation_spec.specs.Machine.{Line, after_reaction, after_turn, served_by, served_at, kept_by_turn}
use Rattle.kb_isolation_spec.proofs.Owners.{stage-shut}
use Rattle.kb_isolation_spec.proofs.Quiet.{asked-group, asked-parks}
use Rattle.kb_isolation_spec.proofs.Turns.{free-greeted, free-replied, free-without}
use Rattle.kb_connection.specs.Fronts.{IsOwn, IsAsked, is_tenants, is_tenants_at}
use Rattle.kb_connection.specs.TenantAnswers.{is_wait}
use Rattle.kb_connection.specs.View.{with_session, without_front}
use Rattle.kb_connection.proofs.Fronts.{fewer-behind}
use Rattle.kb_broker.specs.Places.{IsSpent}
use Rattle.kb_tenants.specs.Tenants as tenants
use Rattle.kb_broker.specs.Parked.{key_of, keys_for, keys_of, tenant_key, until, deadline_at, until_of, wait_keys_of, parked_for, AreAllOf, AreAnswered, AreConcerned, AreTheTenants, AreWaitingFor, IsKeyedAt, IsOwnedAt, IsTouchedBy, IsTouchedTurn, IsTouchedTurnBy, IsUnderTenant, IsConcern, IsLeftAmong, IsLeftBy, IsOwnTo}
use Rattle.kb_broker.specs.declared.serving.Touched.{Touched}
use Rattle.kb_broker.specs.declared.serving.Touched.TheVariants as touches
use Rattle.kb_broker.specs.declared.serving.Concerned.{Concerned}
use Rattle.kb_broker.specs.declared.serving.Concerned.TheVariants as concerned
use Rattle.kb_broker.proofs.Handled.{from_ok}
use Rattle.kb_broker.proofs.Parked.{deadline-free}

-- 1. A connection that waits for nothing

pub keyed-none : (ts : List TenantState) (n : ℕ) (st : Stage) (o : Option queue.Wait) → is_free st ≡ true → IsKeyedAt ts n st o
keyed-none ts n (Greets h) o e = tt
keyed-none ts n (BoundTo t None) o e = tt
keyed-none ts n (BoundTo t (Some w)) o e = let no : false ≡ true = e in absurd (cc)

pub owned-none : (st : Stage) (o : Option queue.Wait) → is_free st ≡ true → IsOwnedAt st o
owned-none (Greets h) o e = tt
owned-none (BoundTo t None) o e = tt
owned-none (BoundTo t (Some w)) o e = let no : false ≡ true = e in absurd (cc)

pub owned-shut : (l new : Line) (o : Option queue.Wait) → new ≡ with_session l (shut_down causes.Memory l.session) → IsOwnedAt new.session.stage o
owned-shut l new o is = owned-none new.session.stage o (ap (λ (x : Line). is_free x.session.stage) is ∙ free-without l.session.stage)

-- nobody stands in the queue under its number
pub dated-none : (o : Option queue.Wait) (st : Stage) → o ≡ None → is_free st ≡ true → until_of o ≡ deadline_at st
dated-none o st none free = ap until_of none ∙ sym (deadline-free st free)

own_by : (setup : Setup) (kept : Kept) (clock n : ℕ) (head : Head) (a : Asked) (s : Session) → is_tenants a ≡ false → is_free s.stage ≡ true → is_free (served_by setup kept clock n head a s).stage ≡ true
unfolding served_by
own_by setup kept clock n head Versions s own free = free-replied head _ s free
own_by setup kept clock n head OtherVersions s own free = free-replied head _ s free
own_by setup kept clock n head (Handshake version mechanism) s own free = free-replied head _ s free
own_by setup kept clock n head (Authenticate message) s own free = free-replied head _ s free
own_by setup kept clock n head (Another key version body) s own free = let no : true ≡ false = own in absurd (cc)
own_by setup kept clock n head Malformed s own free = free-without s.stage

own_at : (setup : Setup) (kept : Kept) (clock n : ℕ) (s : Session) (f : Front) → is_tenants_at setup.versions f ≡ false → is_free s.stage ≡ true → is_free (served_at setup kept clock n s f).stage ≡ true
own_at setup kept clock n s (Whole frame rest) own free = let r = requests.request setup.versions frame in own_by setup kept clock n r.head r.asked (record s { unread = rest }) own free
own_at setup kept clock n s TooSmall own free = free-without s.stage
own_at setup kept clock n s TooLarge own free = free-without s.stage
own_at setup kept clock n s Partial own free = free

-- a turn that is a matter of the connection alone waits for nothing
free-own : (setup : Setup) (t : ℕ) (kept : Kept) (clock n : ℕ) (s : Session) → IsOwn setup s → is_free s.stage ≡ true → is_free (after_turn (for_tenant setup t) kept clock n s).stage ≡ true
unfolding after_turn
free-own setup t kept clock n s own free = own_at (for_tenant setup t) kept clock n s (in_front s) own.own free

pub own-free : (setup : Setup) (t : ℕ) (l new : Line) → l.session.stage ≡ BoundTo t None → IsOwn setup l.session → ((tenant : ℕ) (kept : Kept) (clock n : ℕ) → new ≡ with_session l (after_turn (for_tenant setup tenant) kept clock n l.session)) → is_free new.session.stage ≡ true
own-free setup t l new bound own is = ap (λ (x : Line). is_free x.session.stage) (is t nothing 0 0) ∙ free-own setup t nothing 0 0 l.session own (ap is_free bound)

-- it touches nothing of the tenant's
pub own-touched : (setup : Setup) (t clock n : ℕ) (ts : List TenantState) (l new : Line) (places : List TopicPartition) → l.session.stage ≡ BoundTo t None → IsOwn setup l.session → ((tenant : ℕ) (kept : Kept) (clock n : ℕ) → new ≡ with_session l (after_turn (for_tenant setup tenant) kept clock n l.session))
    → IsTouchedTurn setup t clock n ts ts l.session new.session places
own-touched setup t clock n ts l new places bound own is = record {
  session = ap (λ (x : Line). x.session) (is t (kept_of ts t) clock n);
  kept = sym (own.put t (kept_of ts t) clock n);
  own = inr (own-free setup t l new bound own is);
  ready = λ k w apart silent. silent;
}

-- a greeting
pub greeted-free : (setup : Setup) (h : Greeting) (l new : Line) → l.session.stage ≡ Greets h → new ≡ with_session l (greeted setup h l.session) → is_free new.session.stage ≡ true
greeted-free setup h l new greets is = ap (λ (x : Line). is_free x.session.stage) is ∙ free-greeted setup h l.session (ap is_free greets)

-- 2. A tenant's answer

-- the connection was shut before the answer was given
pub spent-refused : (versions : List ApiVersion) (l new : Line) → is_tenants_at versions (in_front l.session) ≡ true → new ≡ with_session l (shut_down causes.Memory l.session) → IsSpent l.session new.session
spent-refused versions l new asks is =
    let some = fewer-behind versions l.session asks in
    let left = ap (λ (x : Line). length x.session.unread) is in
    record { less = omega (arith, some, left); limit = ap (λ (x : Line). x.session.limit) is; stage = λ t w e. ap (λ (x : Line). without_wait x.session.stage) is ∙ stage-shut l.session }

-- in the queue that number alone has changed, to what the answer says
pub record IsParkedBy (q p : Queue) (t n : ℕ) (r : Answer) : Type 0 where
  pub others : (k : ℕ) → k ≢ n → fin.get p k ≡ fin.get q k
  pub own : fin.get p n ≡ parked_for t r

get-insert_own : (q : Queue) (n : ℕ) (w : queue.Wait) → fin.get (fin.insert q n w) n ≡ Some w
get-insert_own q n w = fin.get-insert nat_cmp_total q n w n ∙ ap (λ b. cond b (Some w) (fin.get q n)) (tied-itself n)

-- a connection is put into the queue, where there is memory for it
pub parked-own : {A E : Type 0} (result : Result A E) (q p : Queue) (n deadline : ℕ) (keys : List WaitKey) → OnOk result (p ≡ fin.insert q n (record { deadline = deadline; keys = keys })) → OnOk result (fin.get p n ≡ Some (record { deadline = deadline; keys = keys }))
parked-own (Ok x) q p n deadline keys is = ap (λ y. fin.get y n) is ∙ get-insert_own q n (record { deadline = deadline; keys = keys })
parked-own (Err x) q p n deadline keys is = tt

pub parked-others : {A E : Type 0} (result : Result A E) (q p : Queue) (n : ℕ) (w : queue.Wait) → OnOk result (p ≡ fin.insert q n w) → OnErr result (p ≡ q) → (k : ℕ) → k ≢ n → fin.get p k ≡ fin.get q k
parked-others (Ok x) q p n w is same k ne = ap (λ y. fin.get y k) is ∙ get-insert_other q n k w ne
parked-others (Err x) q p n w is same k ne = ap (λ y. fin.get y k) same

pub parked-by : {A E : Type 0} (result : Result A E) (q p : Queue) (t m n : ℕ) (r : Answer) → m ≡ n → OnOk result (fin.get p m ≡ parked_for t r) → ((k : ℕ) → k ≢ m → fin.get p k ≡ fin.get q k) → is_err result ≡ false → IsParkedBy q p t n r
parked-by result q p t m n r number own others good = record {
  others = λ k ne. others k (λ e. ne (e ∙ number));
  own = ap (fin.get p) (sym number) ∙ from_ok result false (fin.get p m ≡ parked_for t r) (sym good) refl own;
}

-- it is taken out again
pub parked-gone : (q p x : Queue) (t m n : ℕ) (r : Answer) → IsParkedBy q p t n r → m ≡ n → ((k : ℕ) → k ≢ m → fin.get x k ≡ fin.get p k) → (k : ℕ) → k ≢ n → fin.get x k ≡ fin.get q k
parked-gone q p x t m n r parked number gone k ne = gone k (λ e. ne (e ∙ number)) ∙ parked.others k ne

-- where the connection stands in the queue, it waits until then
dated-waiting : (t : ℕ) (st : Stage) (head : Head) (awaited : Awaited) → st ≡ BoundTo t None → deadline_at (waiting (record { head = head; awaited = awaited }) st) ≡ Some (until awaited)
dated-waiting t st head awaited e = ap (λ x. deadline_at (waiting (record { head = head; awaited = awaited }) x)) e

pub dated-answered : {A E : Type 0} (setup : Setup) (result : Result A E) (q p : Queue) (t n : ℕ) (l new : Line) (r : Answer) (key version : ℤ) (head : Head) (body : List ℕ) → IsParkedBy q p t n r → l.session.stage ≡ BoundTo t None → IsAsked setup l.session key version head body
    → ((key version : ℤ) (head : Head) (body : List ℕ) (reaction : Reaction) → IsAsked setup l.session key version head body → IsAnswer head.correlation_id reaction r → OnOk result (new ≡ with_session l (after_reaction reaction head (without_front l.session))))
    → (is_wait r ≡ false → is_free l.session.stage ≡ true → is_free new.session.stage ≡ true) → is_err result ≡ false → until_of (fin.get p n) ≡ deadline_at new.session.stage
dated-answered setup result q p t n l new r key version head body parked bound asks ok free good = ap until_of parked.own ∙ by r ok free
  where
    by : (r : Answer) → ((key version : ℤ) (head : Head) (body : List ℕ) (reaction : Reaction) → IsAsked setup l.session key version head body → IsAnswer head.correlation_id reaction r → OnOk result (new ≡ with_session l (after_reaction reaction head (without_front l.session))))
        → (is_wait r ≡ false → is_free l.session.stage ≡ true → is_free new.session.stage ≡ true) → until_of (parked_for t r) ≡ deadline_at new.session.stage
    by (answers.Plain (plain.Reply reply)) ok free = sym (deadline-free new.session.stage (free refl (ap is_free bound)))
    by (answers.Plain (plain.Wait deadline fetch places)) ok free =
        let reaction : Reaction = Plain (Waits deadline fetch places.items) in
        let is = from_ok result false (new ≡ with_session l (after_reaction reaction head (without_front l.session))) (sym good) refl (ok key version head body reaction asks (refl, refl, refl)) in
        sym (ap (λ (x : Line). deadline_at x.session.stage) is ∙ dated-waiting t l.session.stage head (Records fetch.version fetch.body deadline fetch.limit) bound)
    by (answers.Plain plain.NoReply) ok free = sym (deadline-free new.session.stage (free refl (ap is_free bound)))
    by (answers.Plain plain.Shut) ok free = sym (deadline-free new.session.stage (free refl (ap is_free bound)))
    by answers.Rebalance ok free =
        let is = from_ok result false (new ≡ with_session l (after_reaction Rebalances head (without_front l.session))) (sym good) refl (ok key version head body Rebalances asks tt) in
        sym (ap (λ (x : Line). deadline_at x.session.stage) is ∙ dated-waiting t l.session.stage head Group bound)

-- and it stands there under its tenant
owned-by : (t deadline : ℕ) (places : List TopicPartition) (st : Stage) (o : Option queue.Wait) → o ≡ Some (record { deadline = deadline; keys = keys_for t places }) → without_wait st ≡ BoundTo t None → IsOwnedAt st o
owned-by t deadline places (Greets h) o parked bound = tt
owned-by t deadline places (BoundTo u None) o parked bound = tt
owned-by t deadline places (BoundTo u (Some w)) o parked bound =
    let is : u ≡ t = cc in
    subst (λ v. IsUnderTenant v o) (sym is) (subst (IsUnderTenant t) (sym parked) (0, omega arith, refl))

pub owned-answered : (t : ℕ) (st : Stage) (r : Answer) (o : Option queue.Wait) → o ≡ parked_for t r → without_wait st ≡ BoundTo t None → (is_wait r ≡ false → is_free st ≡ true) → IsOwnedAt st o
owned-answered t st (answers.Plain (plain.Reply reply)) o parked bound free = owned-none st o (free refl)
owned-answered t st (answers.Plain (plain.Wait deadline fetch places)) o parked bound free = owned-by t deadline places.items st o parked bound
owned-answered t st (answers.Plain plain.NoReply) o parked bound free = owned-none st o (free refl)
owned-answered t st (answers.Plain plain.Shut) o parked bound free = owned-none st o (free refl)
owned-answered t st answers.Rebalance o parked bound free = owned-by t (until Group) [] st o parked bound

pub on-ok : {A E : Type 0} (result : Result A E) (P : Type 0) → P → OnOk result P
on-ok (Ok x) P h = h
on-ok (Err x) P h = tt

-- 3. What it then waits for

-- only where nothing was ever refused to the tenant there is something to show
keyed-calm : (us : List TenantState) (t n : ℕ) (st : Stage) (o : Option queue.Wait) → without_wait st ≡ BoundTo t None → (refusals_of us t ≡ 0 → IsKeyedAt us n st o) → IsKeyedAt us n st o
keyed-calm us t n (Greets h) o e k = tt
keyed-calm us t n (BoundTo u None) o e k = tt
keyed-calm us t n (BoundTo u (Some w)) o e k = λ calm silent. let is : u ≡ t = cc in k (ap (refusals_of us) (sym is) ∙ calm) calm silent

-- it stands under what it asks
keyed-waiting : (us : List TenantState) (t n : ℕ) (st : Stage) (w : Wait) (o : Option queue.Wait) → st ≡ BoundTo t None → wait_keys_of o ≡ Some (keys_for t (asked (kept_of us t) w)) → IsKeyedAt us n (waiting w st) o
keyed-waiting us t n st w o bound is = subst (λ x. IsKeyedAt us n (waiting w x) o) (sym bound) (λ calm silent. is)

keyed-by : (node : Node) (us : List TenantState) (t clock n : ℕ) (k : Kept) (key version : ℤ) (head : Head) (body : List ℕ) (s : Session) (is : Reaction) (r : Answer) → reaction_to node k clock n key version body ≡ is → kept_of us t ≡ kept_after node k clock n key version body → s.stage ≡ BoundTo t None
    → IsAnswer head.correlation_id is r → IsKeyedAt us n (after_reaction is head s).stage (parked_for t r)
keyed-by node us t clock n k key version head body s (Plain (Replies reply)) r e kept bound told = keyed-none us n _ (parked_for t r) (free-replied head reply s (ap is_free bound))
keyed-by node us t clock n k key version head body s (Plain (Waits deadline fetch places)) (answers.Plain (plain.Reply reply)) e kept bound told = absurd told
keyed-by node us t clock n k key version head body s (Plain (Waits deadline fetch places)) (answers.Plain (plain.Wait late kept_fetch parts)) e kept bound told =
    let w : Wait = record { head = head; awaited = Records fetch.version fetch.body deadline fetch.limit } in
    keyed-waiting us t n s.stage w (parked_for t (answers.Plain (plain.Wait late kept_fetch parts))) bound
    (ap (λ ps. Some (keys_for t ps)) (told.2 ∙ (asked-parks node k clock n key version body deadline fetch places head e ∙ ap (λ x. asked x w) (sym kept))))
keyed-by node us t clock n k key version head body s (Plain (Waits deadline fetch places)) (answers.Plain plain.NoReply) e kept bound told = absurd told
keyed-by node us t clock n k key version head body s (Plain (Waits deadline fetch places)) (answers.Plain plain.Shut) e kept bound told = absurd told
keyed-by node us t clock n k key version head body s (Plain (Waits deadline fetch places)) answers.Rebalance e kept bound told = absurd told
keyed-by node us t clock n k key version head body s (Plain Silent) r e kept bound told = keyed-none us n _ (parked_for t r) (ap is_free bound)
keyed-by node us t clock n k key version head body s (Plain Shuts) r e kept bound told = keyed-none us n _ (parked_for t r) (free-without s.stage)
keyed-by node us t clock n k key version head body s Rebalances (answers.Plain a) e kept bound told = absurd told
keyed-by node us t clock n k key version head body s Rebalances answers.Rebalance e kept bound told =
    keyed-waiting us t n s.stage (record { head = head; awaited = Group }) (parked_for t answers.Rebalance) bound (ap (λ ps. Some (keys_for t ps)) (sym (asked-group (kept_of us t) head)))

-- the connection that was answered stands in the queue under what it asks
pub keyed-answered : (H : Type 0) → H → (setup : Setup) (t clock n : ℕ) (ts us : List TenantState) (l new : Line) (key version : ℤ) (head : Head) (body : List ℕ) (r : Answer) (o : Option queue.Wait) → l.session.stage ≡ BoundTo t None → IsSpent l.session new.session → IsAsked setup l.session key version head body → IsTurn t H ts us
    → IsMet t H ts us (λ k m. (m ≡ kept_after (node_of setup t) k clock n key version body) × IsAnswer head.correlation_id (reaction_to (node_of setup t) k clock n key version body) r)
    → ((key version : ℤ) (head : Head) (body : List ℕ) (reaction : Reaction) → IsAsked setup l.session key version head body → IsAnswer head.correlation_id reaction r → new ≡ with_session l (after_reaction reaction head (without_front l.session)))
    → o ≡ parked_for t r → IsKeyedAt us n new.session.stage o
keyed-answered H honest setup t clock n ts us l new key version head body r o bound spent asks turn meets ok parked =
    keyed-calm us t n new.session.stage o (spent.stage t None bound ∙ ap without_wait bound)
    (λ none.
    let up = turn.grows t in
    let before : refusals_of ts t ≡ 0 = omega (arith, none, up) in
    let done = meets honest (record { same = none ∙ sym before; below = grind (arith, nat_tests, before) }) in
    let is = ok key version head body (reaction_to (node_of setup t) (kept_of ts t) clock n key version body) asks done.1 in
    subst (IsKeyedAt us n new.session.stage) (sym parked)
    (subst (λ (x : Line). IsKeyedAt us n x.session.stage (parked_for t r)) (sym is) (keyed-by (node_of setup t) us t clock n (kept_of ts t) key version head body (without_front l.session) (reaction_to (node_of setup t) (kept_of ts t) clock n key version body) r refl done.0 bound done.1)))

-- 4. Whom a turn concerns

-- what the tenant was asked is the turn
pub turned-touched : (H : Type 0) (setup : Setup) (t clock n : ℕ) (ts us : List TenantState) (s r : Session) (touched : Touched) → (H → IsTouchedBy touched t clock ts us)
    → IsMet t H ts us (λ k l. (r ≡ after_turn (for_tenant setup t) k clock n s) × (l ≡ kept_by_turn (for_tenant setup t) k clock n (in_front s))) → H → IsTouchedTurnBy touched setup t clock n ts us s r
turned-touched H setup t clock n ts us s r (touches.Partitions places) touched meets honest =
    let h = touched honest in
    let both = meets honest h.calm in
    record { session = both.0; kept = both.1; own = inl h.none; ready = h.ready }
turned-touched H setup t clock n ts us s r touches.Groups touched meets honest = touched honest
turned-touched H setup t clock n ts us s r touches.Unknown touched meets honest = tt

contains-key : (t : ℕ) (places : List TopicPartition) (place : TopicPartition) → Contains places place → Contains (keys_of t places) (key_of t place)
contains-key t [] place c = absurd (let h = c.1 in omega (arith, h))
contains-key t (x ∷ xs) place c = at c.0 (contains-key t xs place) c.1 c.2
  where
    at : (i : ℕ) → (Contains xs place → Contains (keys_of t xs) (key_of t place)) → i < suc (length xs) → get_or (x ∷ xs) i place ≡ place → Contains (keys_of t (x ∷ xs)) (key_of t place)
    at zero rest lt is = (0, omega arith, ap (key_of t) is)
    at (suc i) rest lt is = let there = rest (i, omega (arith, lt), is) in (suc there.0, (let h = there.1 in omega (arith, h)), there.2)

under-key : (t : ℕ) (places : List TopicPartition) (place : TopicPartition) (o : Option queue.Wait) → wait_keys_of o ≡ Some (keys_for t places) → Contains places place → IsSomeAnd o (IsUnder (key_of t place))
under-key t places place None e c = absurd (cc)
under-key t places place (Some w) e c =
    let is : w.keys ≡ keys_for t places = cc in
    let there = contains-key t places place c in
    subst (λ keys. Contains keys (key_of t place)) (sym is) (suc there.0, (let h = there.1 in omega (arith, h)), there.2)

nowhere : (place : TopicPartition) → Contains [] place → ⊥
nowhere place c = let h = c.1 in omega (arith, h)

-- those that stand under the partitions, and the one of that number
pub concerned-touched : (t n : ℕ) (ts : List TenantState) (q : Queue) (places : Vec TopicPartition Global) (ns ms : List ℕ) → refusals_of ts t ≡ 0 → AreParked q (IsUnderAny (keys_of t places.items)) ns → ms ≡ ns ++ n ∷ [] → AreConcerned t n ts q (touches.Partitions places) ms
concerned-touched t n ts q places ns ms calm parked is = inl (record {
  calm = calm;
  own = subst (λ ks. Contains ks n) (sym is) (Contains-push ns n);
  under = λ k place touches under. subst (λ ks. Contains ks k) (sym is) (Contains-append_left ns (n ∷ []) k ((parked.exactly k).1 (any-key (fin.get q k) place touches under)));
})
  where
    any-key : (o : Option queue.Wait) (place : TopicPartition) → Contains places.items place → IsSomeAnd o (IsUnder (key_of t place)) → IsSomeAnd o (IsUnderAny (keys_of t places.items))
    any-key None place touches under = absurd under
    any-key (Some w) place touches under = let there = contains-key t places.items place touches in (there.0, key_of t place, there.1, there.2, under)

-- those that stand under the tenant, and the one of that number
pub concerned-all : (t n : ℕ) (ts : List TenantState) (q : Queue) (touched : Touched) (ns ms : List ℕ) → (touched ≡ touches.Groups → ⊥) → AreParked q (IsUnder (tenant_key t)) ns → ms ≡ ns ++ n ∷ [] → AreConcerned t n ts q touched ms
concerned-all t n ts q touched ns ms no-group parked is = by touched no-group
  where
    into : (k : ℕ) → Contains ns k ⊎ (n ≡ k) → IsUnderTenant t (fin.get q k) ⊎ (n ≡ k)
    into k (inl there) = inl ((parked.exactly k).0 there)
    into k (inr e) = inr e

    back : (k : ℕ) → IsUnderTenant t (fin.get q k) ⊎ (n ≡ k) → Contains (ns ++ n ∷ []) k
    back k (inl under) = Contains-append_left ns (n ∷ []) k ((parked.exactly k).1 under)
    back k (inr e) = subst (Contains (ns ++ n ∷ [])) e (Contains-push ns n)

    all : AreTheTenants t n q ms
    all = subst (AreTheTenants t n q) (sym is) (λ k. (λ c. into k (Contains-push_cases ns n k c), back k))

    by : (touched : Touched) → (touched ≡ touches.Groups → ⊥) → AreConcerned t n ts q touched ms
    by (touches.Partitions places) no-group = inr all
    by touches.Groups no-group = absurd (no-group refl)
    by touches.Unknown no-group = all

-- those that wait for the partitions, and the one of that number
pub concerned-waiting : (t n : ℕ) (ts : List TenantState) (q : Queue) (places : Vec TopicPartition Global) (ns ms : List ℕ) → AreWaitingFor t ts q places.items ns → ms ≡ ns ++ n ∷ [] → AreConcerned t n ts q (touches.Partitions places) ms
concerned-waiting t n ts q places ns ms (inl h) is = concerned-touched t n ts q places ns ms h.0 h.1 is
concerned-waiting t n ts q places ns ms (inr h) is = concerned-all t n ts q (touches.Partitions places) ns ms (λ e. absurd (cc)) h is

-- before the turn the others stood there too
all-of : (t n : ℕ) (q p : Queue) (ns : List ℕ) → ((k : ℕ) → k ≢ n → fin.get p k ≡ fin.get q k) → AreTheTenants t n p ns → AreAllOf t n q ns
all-of t n q p ns others h = record {
  own = (h n).1 (inr refl);
  others = λ k ne under. (h k).1 (inl (subst (IsUnderTenant t) (sym (others k ne)) under));
}

-- the connection that took the turn is among those that are concerned
pub own-concern : (c : Concerned) (t n : ℕ) (ts : List TenantState) (q : Queue) (touched : Touched) → IsConcern c t n ts q touched → IsOwnTo c n
own-concern concerned.Nobody t n ts q touched concern = tt
own-concern (concerned.All u) t n ts q touched concern = tt
own-concern (concerned.These u ns) t n ts q touches.Unknown concern = (concern.1 n).1 (inr refl)
own-concern (concerned.These u ns) t n ts q touches.Groups concern = subst (λ ks. Contains ks n) (sym concern.1) (Contains-push (tenants.answered_connections (kept_of ts t).groups) n)
own-concern (concerned.These u ns) t n ts q (touches.Partitions places) concern = by concern.1
  where
    by : AreConcerned t n ts q (touches.Partitions places) ns.items → Contains ns.items n
    by (inl under) = under.own
    by (inr all) = (all n).1 (inr refl)

-- what is left to be looked at after it
pub left-by : (H : Type 0) → H → (c : Concerned) (setup : Setup) (t clock n : ℕ) (q p : Queue) (ts us : List TenantState) (s r : Session) (st : Stage) (touched : Touched) → st ≡ BoundTo t None → ((k : ℕ) → k ≢ n → fin.get p k ≡ fin.get q k)
    → IsConcern c t n us p touched → (H → IsTouchedTurnBy touched setup t clock n ts us s r) → IsLeftBy c setup clock st n q ts us s r
left-by H honest c setup t clock n q p ts us s r st touched bound others concern turn = subst (λ x. IsLeftBy c setup clock x n q ts us s r) (sym bound) (by c touched concern turn)
  where
    touching : (places : Vec TopicPartition Global) (ns : List ℕ) → IsTouchedTurn setup t clock n ts us s r places.items → AreConcerned t n us p (touches.Partitions places) ns → IsLeftAmong setup t clock n q ts us s r ns
    touching places ns h (inl c) = inl (record {
      session = h.session;
      kept = h.kept;
      calm = c.calm;
      own = c.own;
      others = λ k w ne apart parked silent. h.ready k w
          (λ place asks touches. apart (c.under k place touches (under-key t (asked (kept_of ts t) w) place (fin.get p k) (ap wait_keys_of (others k ne) ∙ parked) asks)))
          silent;
    })
    touching places ns h (inr c) = inr (inl (all-of t n q p ns others c))

    by : (c : Concerned) (touched : Touched) → IsConcern c t n us p touched → (H → IsTouchedTurnBy touched setup t clock n ts us s r) → IsLeftBy c setup clock (BoundTo t None) n q ts us s r
    by concerned.Nobody touches.Groups concern turn = absurd concern
    by concerned.Nobody touches.Unknown concern turn = absurd concern
    by concerned.Nobody (touches.Partitions places) concern turn =
        let h = turn honest in
        record { session = h.session; kept = h.kept; own = h.own; others = none concern }
      where
        none : (places.items ≡ []) ⊎ AreWaitingFor t us p places.items [] → IsLeftAmong setup t clock n q ts us s r (n ∷ [])
        none (inl e) = inr (inr (record {
          own = (0, omega arith, refl);
          others = λ k w ne apart. (turn honest).ready k w (λ place asks touches. nowhere place (subst (λ ps. Contains ps place) e touches));
        }))
        none (inr waiting) = touching places (n ∷ []) (turn honest) (concerned-waiting t n us p places [] (n ∷ []) waiting refl)
    by (concerned.These u ns) touches.Unknown concern turn = subst (λ x. IsLeftBy (concerned.These x ns) setup clock (BoundTo t None) n q ts us s r) (sym concern.0) (inr (inl (all-of t n q p ns.items others concern.1)))
    by (concerned.These u ns) touches.Groups concern turn = subst (λ x. IsLeftBy (concerned.These x ns) setup clock (BoundTo t None) n q ts us s r) (sym concern.0) (inr (inr these))
      where
        told : List ℕ
        told = tenants.answered_connections (kept_of us t).groups

        these : AreAnswered t clock n ts us ns.items
        these = record {
          own = subst (λ ks. Contains ks n) (sym concern.1) (Contains-push told n);
          others = λ k w ne apart. (turn honest).ready k w (λ c. apart (subst (λ ks. Contains ks k) (sym concern.1) (Contains-append_left told (n ∷ []) k c)));
        }
    by (concerned.These u ns) (touches.Partitions places) concern turn = subst (λ x. IsLeftBy (concerned.These x ns) setup clock (BoundTo t None) n q ts us s r) (sym concern.0) (touching places ns.items (turn honest) concern.1)
    by (concerned.All u) touched concern turn = tt
