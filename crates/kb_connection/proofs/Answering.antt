-- What a tenant's answer makes of its connection.
use Rattle.std.proofs.Common.{◌≡◌, ◌<◌, ◌≤◌, ◌⊎◌, inl, inr, ℕ, ℤ, List, pos, length, ◌++◌, length-append, Bool, true, false, if◌then◌else◌, Some, refl, sym, ap}
use Rattle.std.proofs.Common.{◌∙◌, subst, arith, nat_lt, Result, Ok, Err, OnOk, OnErr, Global}
use Rattle.std.proofs.lemmas.Bool.Decides.{nat_tests}
use Rattle.std.specs.declared.vec.Vec.{Vec}
use Rattle.kb_tenant_state.specs.declared.topic_partition.TopicPartition.{TopicPartition}
use Rattle.kb_api_group.specs.FrameStream.{behind}
use Rattle.kb_api_group.specs.declared.api_versions.ApiVersion.{ApiVersion}
use Rattle.kb_wire.specs.Codec.{int, int32}
use Rattle.kb_tenant.specs.Replies.{Reaction, Replies, Waits, Silent, Shuts, IsAnswer, framed, reply_size}
use Rattle.kb_tenant.specs.declared.answer.Answer.{Answer}
use Rattle.kb_tenant.specs.declared.answer.Answer.TheVariants as answers
use Rattle.kb_tenant_api.specs.Replies as service
use Rattle.kb_tenant_api.specs.Replies.{Plain, Rebalances}
use Rattle.kb_tenant_api.specs.declared.answer.Answer.{Answer as AnyAnswer}
use Rattle.kb_tenant_api.specs.declared.answer.Answer.TheVariants as any
use Rattle.kb_isolation_spec.specs.declared.shut.Shut.TheVariants as causes
use Rattle.kb_isolation_spec.specs.declared.head.Head.{Head}
use Rattle.kb_isolation_spec.specs.Greeting.{Setup}
use Rattle.kb_isolation_spec.specs.Tenant.{Awaited, Records, Group, Wait}
use Rattle.kb_isolation_spec.specs.Session.{Stage, Greets, BoundTo, Session, shut_down, replied, throttled, unanswerable, waiting, without_wait, is_free, in_front}
use Rattle.kb_isolation_spec.proofs.Laws.{replied-le}
use Rattle.kb_isolation_spec.specs.Machine.{Line, after_reaction, plainly, told}
use Rattle.kb_isolation_spec.proofs.Owners.{stage-replied, stage-shut}
use Rattle.kb_isolation_spec.proofs.RequestLimits.{limit-replied}
use Rattle.kb_isolation_spec.proofs.Turns.{free-replied, free-without}
use Rattle.kb_connection.specs.Fronts.{IsAsked, head_at, is_tenants_at}
use Rattle.kb_connection.specs.TenantAnswers.{with_answer, answered_again, body_of, with_final_answer, given_reply, is_quiet, parked}
use Rattle.kb_connection.specs.View.{with_session, without_front}
use Rattle.kb_tenant.specs.FetchWait.{FetchWait}
use Rattle.kb_connection.proofs.Fronts.{fewer-behind, head_asked}

-- 1. A reply

-- a whole reply is its size, its correlation id and its body
body_framed : (id : ℤ) (body : List ℕ) → body_of (framed id body) ≡ body
unfolding framed int
body_framed id body = refl

-- its size fits an INT32
small_is : (id : ℤ) (body : List ℕ) (reply : Vec ℕ Global) → IsAnswer id (Replies body) (answers.Reply reply) → nat_lt 2147483647 (reply_size body) ≡ false
small_is id body reply h = grind (arith, nat_tests, h.0)

given_as : (t : Bool) (x y z : Session) → (t ≡ true → x ≡ z) → (t ≡ false → y ≡ z) → (if t then x else y) ≡ z
given_as true x y z f g = f refl
given_as false x y z f g = g refl

plain_is : (head : Head) (body reply : List ℕ) (s : Session) → head.is_throttled ≡ false → nat_lt 2147483647 (reply_size body) ≡ false → reply ≡ framed head.correlation_id body → record s { output = s.output ++ reply } ≡ replied head body s
unfolding replied
plain_is head body reply s plain small is = rw (plain, small, is) refl

reply_is : (head : Head) (body : List ℕ) (reply : Vec ℕ Global) (s : Session) → IsAnswer head.correlation_id (Replies body) (answers.Reply reply) → given_reply head reply.items s ≡ replied head body s
reply_is head body reply s h =
    given_as head.is_throttled (replied head (body_of reply.items) s) (record s { output = s.output ++ reply.items }) (replied head body s)
    (λ e. ap (λ b. replied head b s) (ap body_of h.1 ∙ body_framed head.correlation_id body))
    (λ e. plain_is head body reply.items s e (small_is head.correlation_id body reply h) h.1)

-- a throttle time makes it no shorter
no-shorter : (head : Head) (body : List ℕ) → length body ≤ length (throttled head body)
no-shorter head body = by head.is_throttled
  where
    by : (t : Bool) → length body ≤ length (if t then int32.written (pos 0) ++ body else body)
    by true = omega (arith, length-append (int32.written (pos 0)) body)
    by false = omega arith

-- its size does not fit
long_is : (head : Head) (body : List ℕ) (s : Session) → IsAnswer head.correlation_id (Replies body) answers.Shut → shut_down (unanswerable head) s ≡ replied head body s
unfolding replied
long_is head body s h =
    let longer = no-shorter head body in
    let long : nat_lt 2147483647 (reply_size (throttled head body)) ≡ true = grind (arith, nat_tests, h, longer) in
    rw long refl

-- what a reply leaves of the connection
unread_reply : (head : Head) (reply : List ℕ) (s : Session) → length (given_reply head reply s).unread ≤ length s.unread
unread_reply head reply s = by head.is_throttled
  where
    by : (t : Bool) → length (let x : Session = if t then replied head (body_of reply) s else record s { output = s.output ++ reply } in x).unread ≤ length s.unread
    by true = replied-le head (body_of reply) s
    by false = omega arith

free_reply : (head : Head) (reply : List ℕ) (s : Session) → is_free s.stage ≡ true → is_free (given_reply head reply s).stage ≡ true
free_reply head reply s free = by head.is_throttled
  where
    by : (t : Bool) → is_free (let x : Session = if t then replied head (body_of reply) s else record s { output = s.output ++ reply } in x).stage ≡ true
    by true = free-replied head (body_of reply) s free
    by false = free

stage_reply : (head : Head) (reply : List ℕ) (s : Session) → without_wait (given_reply head reply s).stage ≡ without_wait s.stage
stage_reply head reply s = by head.is_throttled
  where
    by : (t : Bool) → without_wait (let x : Session = if t then replied head (body_of reply) s else record s { output = s.output ++ reply } in x).stage ≡ without_wait s.stage
    by true = stage-replied head (body_of reply) s
    by false = refl

-- 2. To the request in front, but for a wait; s is the connection without it

abbrev pub IsNoWait : Answer → Type 0
IsNoWait answer = (deadline : ℕ) (fetch : FetchWait) (keys : Vec TopicPartition Global) → answer ≡ answers.Wait deadline fetch keys → ⊥

answer_is : (head : Head) (version : ℤ) (body : List ℕ) (reaction : Reaction) (answer : Answer) (s : Session) → IsNoWait answer → IsAnswer head.correlation_id reaction answer → with_final_answer head answer s ≡ plainly reaction head s
answer_is head version body (Replies reply) (answers.Reply r) s no_wait h = reply_is head reply r s h
answer_is head version body (Replies reply) (answers.Wait d x k) s no_wait h = absurd h
answer_is head version body (Replies reply) answers.NoReply s no_wait h = absurd h
answer_is head version body (Replies reply) answers.Shut s no_wait h = long_is head reply s h
answer_is head version body (Waits until fetch places) (answers.Reply r) s no_wait h = absurd h
answer_is head version body (Waits until fetch places) (answers.Wait d x k) s no_wait h = absurd (no_wait d x k refl)
answer_is head version body (Waits until fetch places) answers.NoReply s no_wait h = absurd h
answer_is head version body (Waits until fetch places) answers.Shut s no_wait h = absurd h
answer_is head version body Silent (answers.Reply r) s no_wait h = absurd h
answer_is head version body Silent (answers.Wait d x k) s no_wait h = absurd h
answer_is head version body Silent answers.NoReply s no_wait h = refl
answer_is head version body Silent answers.Shut s no_wait h = absurd h
answer_is head version body Shuts (answers.Reply r) s no_wait h = absurd h
answer_is head version body Shuts (answers.Wait d x k) s no_wait h = absurd h
answer_is head version body Shuts answers.NoReply s no_wait h = absurd h
answer_is head version body Shuts answers.Shut s no_wait h = refl

served_is : (head : Head) (version : ℤ) (body : List ℕ) (reaction : service.Reaction) (answer : Answer) (s : Session) → IsNoWait answer → service.IsAnswer head.correlation_id reaction (any.Plain answer) → with_final_answer head answer s ≡ after_reaction reaction head s
served_is head version body (Plain reaction) answer s no_wait h = answer_is head version body reaction answer s no_wait h
served_is head version body Rebalances answer s no_wait h = absurd h

pub gives : {E : Type 0} (setup : Setup) (result : Result (Unit {0}) E) (l m new : Line) (key version : ℤ) (head first : Head) (body : List ℕ) (reaction : service.Reaction) (all : AnyAnswer) (answer : Answer) → all ≡ any.Plain answer → IsNoWait answer → m ≡ with_session l (without_front l.session)
    → ((versions : List ApiVersion) → first ≡ head_at versions (in_front l.session))
    → OnOk result (new ≡ with_session m (with_final_answer first answer m.session)) → IsAsked setup l.session key version head body → service.IsAnswer head.correlation_id reaction all
    → OnOk result (new ≡ with_session l (after_reaction reaction head (without_front l.session)))
gives setup (Ok u) l m new key version head first body reaction all answer is no_wait left stands done asks h =
    done ∙ ap (λ (x : Line). with_session x (with_final_answer first answer x.session)) left
    ∙ ap (λ (x : Head). with_session l (with_final_answer x answer (without_front l.session))) (stands setup.versions ∙ head_asked setup l.session key version head body asks)
    ∙ ap (with_session l) (served_is head version body reaction answer (without_front l.session) no_wait (subst (service.IsAnswer head.correlation_id reaction) is h))
gives setup (Err fault) l m new key version head first body reaction all answer is no_wait left stands done asks h = tt

-- 3. The request's bytes are gone

less : (versions : List ApiVersion) (l new : Line) → is_tenants_at versions (in_front l.session) ≡ true → length new.session.unread ≤ length (behind (in_front l.session) l.session.unread) → length new.session.unread < length l.session.unread
less versions l new asks few = let fewer = fewer-behind versions l.session asks in omega arith

unread_parked : (head : Head) (awaited : Awaited) (s : Session) → (parked head awaited s).unread ≡ s.unread
unread_parked head awaited s = by s.shut
  where
    by : (shut : Bool) → (let x : Session = if shut then s else record s { stage = waiting (record { head = head; awaited = awaited }) s.stage } in x).unread ≡ s.unread
    by true = refl
    by false = refl

pub less_parked : (versions : List ApiVersion) (l new : Line) (head : Head) (awaited : Awaited) → new ≡ with_session l (parked head awaited (without_front l.session))
    → is_tenants_at versions (in_front l.session) ≡ true → length new.session.unread < length l.session.unread
less_parked versions l new head awaited ok asks = less versions l new asks (omega (arith, ap (λ (x : Line). length x.session.unread) ok, ap length (unread_parked head awaited (without_front l.session))))

pub unread_given : (head : Head) (answer : Answer) (s : Session) → length (with_final_answer head answer s).unread ≤ length s.unread
unread_given head (answers.Reply reply) s = unread_reply head reply.items s
unread_given head (answers.Wait deadline fetch keys) s = omega arith
unread_given head answers.NoReply s = omega arith
unread_given head answers.Shut s = omega arith

pub stage_given : (head : Head) (answer : Answer) (s : Session) → without_wait (with_final_answer head answer s).stage ≡ without_wait s.stage
stage_given head (answers.Reply reply) s = stage_reply head reply.items s
stage_given head (answers.Wait deadline fetch keys) s = refl
stage_given head answers.NoReply s = refl
stage_given head answers.Shut s = stage-shut s

pub less_given : {E : Type 0} (versions : List ApiVersion) (result : Result (Unit {0}) E) (l m new : Line) (head : Head) (answer : Answer) → m ≡ with_session l (without_front l.session) → OnOk result (new ≡ with_session m (with_final_answer head answer m.session))
    → OnErr result (new ≡ with_session m (shut_down causes.Memory m.session)) → is_tenants_at versions (in_front l.session) ≡ true → length new.session.unread < length l.session.unread
less_given versions (Ok u) l m new head answer left ok err asks =
    less versions l new asks (omega (arith, ap (λ (x : Line). length x.session.unread) ok, unread_given head answer m.session, ap (λ (x : Line). length x.session.unread) left))
less_given versions (Err fault) l m new head answer left ok err asks = less versions l new asks (omega (arith, ap (λ (x : Line). length x.session.unread) err))

-- 4. What is no wait leaves it waiting for nothing

free_after : (head : Head) (answer : Answer) (s : Session) → is_free s.stage ≡ true → is_free (with_final_answer head answer s).stage ≡ true
free_after head (answers.Reply reply) s free = free_reply head reply.items s free
free_after head (answers.Wait deadline fetch keys) s free = free
free_after head answers.NoReply s free = free
free_after head answers.Shut s free = free-without s.stage

pub free_given : {E : Type 0} (result : Result (Unit {0}) E) (l m new : Line) (head : Head) (answer : Answer) → m ≡ with_session l (without_front l.session) → OnOk result (new ≡ with_session m (with_final_answer head answer m.session))
    → OnErr result (new ≡ with_session m (shut_down causes.Memory m.session)) → is_free l.session.stage ≡ true → is_free new.session.stage ≡ true
free_given (Ok u) l m new head answer left ok err free = ap (λ (x : Line). is_free x.session.stage) ok ∙ free_after head answer m.session (ap (λ (x : Line). is_free x.session.stage) left ∙ free)
free_given (Err fault) l m new head answer left ok err free = ap (λ (x : Line). is_free x.session.stage) err ∙ free-without m.session.stage

-- 5. To a request that waits

-- a reply ends the wait
ended_is : (head : Head) (reaction : Reaction) (reply : Vec ℕ Global) (s : Session) → IsAnswer head.correlation_id reaction (answers.Reply reply) → with_final_answer head (answers.Reply reply) (record s { stage = without_wait s.stage }) ≡ told reaction head s
ended_is head (Replies body) reply s h = reply_is head body reply (record s { stage = without_wait s.stage }) h
ended_is head (Waits until fetch places) reply s h = absurd h
ended_is head Silent reply s h = absurd h
ended_is head Shuts reply s h = absurd h

pub ends : {E : Type 0} (result : Result (Unit {0}) E) (l m new : Line) (tenant : ℕ) (wait : Wait) (head : Head) (reaction : Reaction) (answer : Answer) (reply : Vec ℕ Global) → answer ≡ answers.Reply reply → m ≡ with_session l (record l.session { stage = without_wait l.session.stage })
    → ((t : ℕ) (w : Wait) → l.session.stage ≡ BoundTo t (Some w) → head ≡ w.head)
    → OnOk result (new ≡ with_session m (with_final_answer head answer m.session)) → l.session.stage ≡ BoundTo tenant (Some wait) → IsAnswer wait.head.correlation_id reaction answer → OnOk result (new ≡ with_session l (told reaction wait.head l.session))
ends (Ok u) l m new tenant wait head reaction answer reply is left awaits done waits h =
    done ∙ ap (λ (x : Line). with_session x (with_final_answer head answer x.session)) left ∙ ap (λ a. with_session l (with_final_answer head a (record l.session { stage = without_wait l.session.stage }))) is
    ∙ ap (λ (x : Head). with_session l (with_final_answer x (answers.Reply reply) (record l.session { stage = without_wait l.session.stage }))) (awaits tenant wait waits)
    ∙ ap (with_session l) (ended_is wait.head reaction reply l.session (subst (IsAnswer wait.head.correlation_id reaction) is h))
ends (Err fault) l m new tenant wait head reaction answer reply is left awaits done waits h = tt

-- and no other answer does
abbrev pub IsNoReply : Answer → Type 0
IsNoReply answer = (reply : Vec ℕ Global) → answer ≡ answers.Reply reply → ⊥

told_is : (head : Head) (reaction : Reaction) (answer : Answer) (s : Session) → IsNoReply answer → IsAnswer head.correlation_id reaction answer → with_final_answer head answer s ≡ told reaction head s
told_is head reaction (answers.Reply r) s no_reply h = absurd (no_reply r refl)
told_is head (Replies reply) (answers.Wait d x k) s no_reply h = absurd h
told_is head (Replies reply) answers.NoReply s no_reply h = absurd h
told_is head (Replies reply) answers.Shut s no_reply h = ap (λ st. record (shut_down (unanswerable head) s) { stage = st }) (sym (stage-shut s)) ∙ long_is head reply (record s { stage = without_wait s.stage }) h
told_is head (Waits until fetch places) (answers.Wait d x k) s no_reply h = refl
told_is head (Waits until fetch places) answers.NoReply s no_reply h = absurd h
told_is head (Waits until fetch places) answers.Shut s no_reply h = absurd h
told_is head Silent (answers.Wait d x k) s no_reply h = absurd h
told_is head Silent answers.NoReply s no_reply h = refl
told_is head Silent answers.Shut s no_reply h = absurd h
told_is head Shuts (answers.Wait d x k) s no_reply h = absurd h
told_is head Shuts answers.NoReply s no_reply h = absurd h
told_is head Shuts answers.Shut s no_reply h = refl

pub tells : {E : Type 0} (result : Result (Unit {0}) E) (l m new : Line) (tenant : ℕ) (wait : Wait) (head : Head) (reaction : Reaction) (answer : Answer) → IsNoReply answer → m ≡ l
    → ((t : ℕ) (w : Wait) → l.session.stage ≡ BoundTo t (Some w) → head ≡ w.head)
    → OnOk result (new ≡ with_session m (with_final_answer head answer m.session)) → l.session.stage ≡ BoundTo tenant (Some wait) → IsAnswer wait.head.correlation_id reaction answer → OnOk result (new ≡ with_session l (told reaction wait.head l.session))
tells (Ok u) l m new tenant wait head reaction answer no_reply left awaits done waits h =
    done ∙ ap (λ (x : Line). with_session x (with_final_answer head answer x.session)) left
    ∙ ap (λ (x : Head). with_session l (with_final_answer x answer l.session)) (awaits tenant wait waits)
    ∙ ap (with_session l) (told_is wait.head reaction answer l.session no_reply h)
tells (Err fault) l m new tenant wait head reaction answer no_reply left awaits done waits h = tt

-- 6. Whatever the answer is

-- to a request that stands in front, but for a wait
abbrev PutsOut : {E : Type 0} → Head → Result (Unit {0}) E → Line → Line → ℤ → List ℕ → AnyAnswer → Type 0
PutsOut head result l new version body answer = OnOk result (new ≡ with_session l (with_answer head answer (without_front l.session)))

given_answered : (head : Head) (version : ℤ) (body : List ℕ) (answer : Answer) (s : Session) → IsNoWait answer → with_final_answer head answer s ≡ with_answer head (any.Plain answer) s
given_answered head version body (answers.Reply reply) s no_wait = refl
given_answered head version body (answers.Wait deadline fetch keys) s no_wait = absurd (no_wait deadline fetch keys refl)
given_answered head version body answers.NoReply s no_wait = refl
given_answered head version body answers.Shut s no_wait = refl

puts : {E : Type 0} (result : Result (Unit {0}) E) (l m new : Line) (head : Head) (version : ℤ) (body : List ℕ) (answer : Answer) → IsNoWait answer → m ≡ with_session l (without_front l.session)
    → OnOk result (new ≡ with_session m (with_final_answer head answer m.session)) → PutsOut head result l new version body (any.Plain answer)
puts (Ok u) l m new head version body answer no_wait left done =
    done ∙ ap (λ (x : Line). with_session x (with_final_answer head answer x.session)) left
    ∙ ap (with_session l) (given_answered head version body answer (without_front l.session) no_wait)
puts (Err fault) l m new head version body answer no_wait left done = tt

pub puts_given : {E : Type 0} (setup : Setup) (result : Result (Unit {0}) E) (l m new : Line) (key version : ℤ) (head first : Head) (body : List ℕ) (all : AnyAnswer) (answer : Answer)
    → all ≡ any.Plain answer → IsNoWait answer → m ≡ with_session l (without_front l.session)
    → ((versions : List ApiVersion) → first ≡ head_at versions (in_front l.session))
    → OnOk result (new ≡ with_session m (with_final_answer first answer m.session)) → IsAsked setup l.session key version head body
    → OnOk result (new ≡ with_session l (with_answer head all (without_front l.session)))
puts_given setup result l m new key version head first body all answer is no_wait left stands done asks =
    subst (λ (x : Head). PutsOut x result l new version body all) (stands setup.versions ∙ head_asked setup l.session key version head body asks)
    (subst (PutsOut first result l new version body) (sym is) (puts result l m new first version body answer no_wait left done))

-- and where it is to wait for records, or for its group
open_parked : (head : Head) (awaited : Awaited) (s : Session) → s.shut ≡ false → parked head awaited s ≡ record s { stage = waiting (record { head = head; awaited = awaited }) s.stage }
open_parked head awaited s is_open = ap (λ (shut : Bool). (let x : Session = if shut then s else record s { stage = waiting (record { head = head; awaited = awaited }) s.stage } in x)) is_open

pub parked_is : (setup : Setup) (l new : Line) (key version : ℤ) (head : Head) (body : List ℕ) (awaited : Awaited)
    → ((versions : List ApiVersion) → new ≡ with_session l (parked (head_at versions (in_front l.session)) awaited (without_front l.session)))
    → ((versions : List ApiVersion) → is_tenants_at versions (in_front l.session) ≡ true → l.session.shut ≡ false)
    → IsAsked setup l.session key version head body
    → new ≡ with_session l (record (without_front l.session) { stage = waiting (record { head = head; awaited = awaited }) l.session.stage })
parked_is setup l new key version head body awaited done unshut asks =
    done setup.versions ∙ ap (λ (x : Head). with_session l (parked x awaited (without_front l.session))) (head_asked setup l.session key version head body asks)
    ∙ ap (with_session l) (open_parked head awaited (without_front l.session) (unshut setup.versions asks.tenants))

waiting_is : (wait : Wait) (st : Stage) → without_wait (waiting wait st) ≡ without_wait st
waiting_is wait (Greets greeting) = refl
waiting_is wait (BoundTo tenant earlier) = refl

pub stage_parked : (l new : Line) (head : Head) (awaited : Awaited) → new ≡ with_session l (parked head awaited (without_front l.session)) → without_wait new.session.stage ≡ without_wait l.session.stage
stage_parked l new head awaited ok = ap (λ (x : Line). without_wait x.session.stage) ok ∙ by l.session.shut
  where
    s : Session
    s = without_front l.session

    by : (shut : Bool) → without_wait (let x : Session = if shut then s else record s { stage = waiting (record { head = head; awaited = awaited }) s.stage } in x).stage ≡ without_wait s.stage
    by true = refl
    by false = waiting_is (record { head = head; awaited = awaited }) s.stage

-- it is what the reaction says
wait_is : (head : Head) (reaction : service.Reaction) (deadline : ℕ) (fetch : FetchWait) (keys : Vec TopicPartition Global) (s : Session) → service.IsAnswer head.correlation_id reaction (any.Plain (answers.Wait deadline fetch keys))
    → record s { stage = waiting (record { head = head; awaited = Records fetch.version fetch.body deadline fetch.limit }) s.stage } ≡ after_reaction reaction head s
wait_is head (Plain (Replies reply)) deadline fetch keys s h = absurd h
wait_is head (Plain (Waits until asked places)) deadline fetch keys s h =
    ap (λ (d : ℕ). record s { stage = waiting (record { head = head; awaited = Records fetch.version fetch.body d fetch.limit }) s.stage }) h.0
    ∙ ap (λ (f : FetchWait). record s { stage = waiting (record { head = head; awaited = Records f.version f.body until f.limit }) s.stage }) h.1
wait_is head (Plain Silent) deadline fetch keys s h = absurd h
wait_is head (Plain Shuts) deadline fetch keys s h = absurd h
wait_is head Rebalances deadline fetch keys s h = absurd h

group_is : (head : Head) (reaction : service.Reaction) (s : Session) → service.IsAnswer head.correlation_id reaction any.Rebalance
    → record s { stage = waiting (record { head = head; awaited = Group }) s.stage } ≡ after_reaction reaction head s
group_is head (Plain reaction) s h = absurd h
group_is head Rebalances s h = refl

-- a wait for records, or for the group
pub gives_records : (l new : Line) (head : Head) (reaction : service.Reaction) (deadline : ℕ) (fetch : FetchWait) (keys : Vec TopicPartition Global) (all : AnyAnswer) → all ≡ any.Plain (answers.Wait deadline fetch keys)
    → new ≡ with_session l (record (without_front l.session) { stage = waiting (record { head = head; awaited = Records fetch.version fetch.body deadline fetch.limit }) l.session.stage })
    → service.IsAnswer head.correlation_id reaction all → new ≡ with_session l (after_reaction reaction head (without_front l.session))
gives_records l new head reaction deadline fetch keys all is done h =
    done ∙ ap (with_session l) (wait_is head reaction deadline fetch keys (without_front l.session) (subst (service.IsAnswer head.correlation_id reaction) is h))

pub gives_group : (l new : Line) (head : Head) (reaction : service.Reaction) (all : AnyAnswer) → all ≡ any.Rebalance
    → new ≡ with_session l (record (without_front l.session) { stage = waiting (record { head = head; awaited = Group }) l.session.stage })
    → service.IsAnswer head.correlation_id reaction all → new ≡ with_session l (after_reaction reaction head (without_front l.session))
gives_group l new head reaction all is done h =
    done ∙ ap (with_session l) (group_is head reaction (without_front l.session) (subst (service.IsAnswer head.correlation_id reaction) is h))

-- the same of the answer itself
pub puts_records : (l new : Line) (head : Head) (deadline : ℕ) (fetch : FetchWait) (keys : Vec TopicPartition Global) (all : AnyAnswer) → all ≡ any.Plain (answers.Wait deadline fetch keys)
    → new ≡ with_session l (record (without_front l.session) { stage = waiting (record { head = head; awaited = Records fetch.version fetch.body deadline fetch.limit }) l.session.stage })
    → new ≡ with_session l (with_answer head all (without_front l.session))
puts_records l new head deadline fetch keys all is done = done ∙ ap (λ (a : AnyAnswer). with_session l (with_answer head a (without_front l.session))) (sym is)

pub puts_group : (l new : Line) (head : Head) (all : AnyAnswer) → all ≡ any.Rebalance
    → new ≡ with_session l (record (without_front l.session) { stage = waiting (record { head = head; awaited = Group }) l.session.stage })
    → new ≡ with_session l (with_answer head all (without_front l.session))
puts_group l new head all is done = done ∙ ap (λ (a : AnyAnswer). with_session l (with_answer head a (without_front l.session))) (sym is)

-- to a request that waits: a reply, which ends the wait
again_reply : (head : Head) (answer : Answer) (reply : Vec ℕ Global) (s : Session) → answer ≡ answers.Reply reply → with_final_answer head answer (record s { stage = without_wait s.stage }) ≡ answered_again head answer s
again_reply head answer reply s is =
    let Is : Answer → Type 0 = λ a. with_final_answer head a (record s { stage = without_wait s.stage }) ≡ answered_again head a s in
    subst Is (sym is) refl

pub puts_ending : {E : Type 0} (result : Result (Unit {0}) E) (l m new : Line) (tenant : ℕ) (wait : Wait) (head : Head) (answer : Answer) (reply : Vec ℕ Global) → answer ≡ answers.Reply reply
    → m ≡ with_session l (record l.session { stage = without_wait l.session.stage })
    → ((t : ℕ) (w : Wait) → l.session.stage ≡ BoundTo t (Some w) → head ≡ w.head)
    → OnOk result (new ≡ with_session m (with_final_answer head answer m.session)) → l.session.stage ≡ BoundTo tenant (Some wait)
    → OnOk result (new ≡ with_session l (answered_again wait.head answer l.session))
puts_ending (Ok u) l m new tenant wait head answer reply is left awaits done waits =
    done ∙ ap (λ (x : Line). with_session x (with_final_answer head answer x.session)) left
    ∙ ap (λ (x : Head). with_session l (with_final_answer x answer (record l.session { stage = without_wait l.session.stage }))) (awaits tenant wait waits)
    ∙ ap (with_session l) (again_reply wait.head answer reply l.session is)
puts_ending (Err fault) l m new tenant wait head answer reply is left awaits done waits = tt

-- and any other answer
again_other : (head : Head) (answer : Answer) (s : Session) → IsNoReply answer → with_final_answer head answer s ≡ answered_again head answer s
again_other head (answers.Reply reply) s no_reply = absurd (no_reply reply refl)
again_other head (answers.Wait deadline fetch keys) s no_reply = refl
again_other head answers.NoReply s no_reply = refl
again_other head answers.Shut s no_reply = refl

pub puts_told : {E : Type 0} (result : Result (Unit {0}) E) (l m new : Line) (tenant : ℕ) (wait : Wait) (head : Head) (answer : Answer) → IsNoReply answer → m ≡ l
    → ((t : ℕ) (w : Wait) → l.session.stage ≡ BoundTo t (Some w) → head ≡ w.head)
    → OnOk result (new ≡ with_session m (with_final_answer head answer m.session)) → l.session.stage ≡ BoundTo tenant (Some wait)
    → OnOk result (new ≡ with_session l (answered_again wait.head answer l.session))
puts_told (Ok u) l m new tenant wait head answer no_reply left awaits done waits =
    done ∙ ap (λ (x : Line). with_session x (with_final_answer head answer x.session)) left
    ∙ ap (λ (x : Head). with_session l (with_final_answer x answer l.session)) (awaits tenant wait waits)
    ∙ ap (with_session l) (again_other wait.head answer l.session no_reply)
puts_told (Err fault) l m new tenant wait head answer no_reply left awaits done waits = tt

-- 7. What is left of the stage

-- the turn of a request leaves the connection its tenant's
pub stage_kept : {E : Type 0} (result : Result (Unit {0}) E) (l m new : Line) (head : Head) (answer : Answer)
    → m ≡ with_session l (without_front l.session) → OnOk result (new ≡ with_session m (with_final_answer head answer m.session))
    → OnErr result (new ≡ with_session m (shut_down causes.Memory m.session)) → without_wait new.session.stage ≡ without_wait l.session.stage
stage_kept (Ok u) l m new head answer left ok err =
    ap (λ (x : Line). without_wait x.session.stage) ok ∙ stage_given head answer m.session ∙ ap (λ (x : Line). without_wait x.session.stage) left
stage_kept (Err fault) l m new head answer left ok err =
    ap (λ (x : Line). without_wait x.session.stage) err ∙ stage-shut m.session ∙ ap (λ (x : Line). without_wait x.session.stage) left

wait-less : (st : Stage) → without_wait (without_wait st) ≡ without_wait st
wait-less (Greets greeting) = refl
wait-less (BoundTo tenant wait) = refl

replied_rests : (head : Head) (body : List ℕ) (s : Session) → without_wait s.stage ≡ s.stage → (replied head body s).stage ≡ s.stage
unfolding replied
replied_rests head body s rests = by (nat_lt 2147483647 (reply_size (throttled head body))) (framed head.correlation_id (throttled head body))
  where
    by : (t : Bool) (bytes : List ℕ) → (let x : Session = if t then shut_down (unanswerable head) s else record s { output = s.output ++ bytes } in x).stage ≡ s.stage
    by true bytes = rests
    by false bytes = refl

given_rests : (head : Head) (reply : List ℕ) (s : Session) → without_wait s.stage ≡ s.stage → (given_reply head reply s).stage ≡ s.stage
given_rests head reply s rests = by head.is_throttled
  where
    by : (t : Bool) → (let x : Session = if t then replied head (body_of reply) s else record s { output = s.output ++ reply } in x).stage ≡ s.stage
    by true = replied_rests head (body_of reply) s rests
    by false = refl

-- a reply, also one that could not be kept, ends the wait
pub stage_ended : {E : Type 0} (result : Result (Unit {0}) E) (l m new : Line) (head : Head) (answer : Answer) (reply : Vec ℕ Global)
    → answer ≡ answers.Reply reply → m ≡ with_session l (record l.session { stage = without_wait l.session.stage })
    → OnOk result (new ≡ with_session m (with_final_answer head answer m.session)) → OnErr result (new ≡ with_session m (shut_down causes.Memory m.session))
    → new.session.stage ≡ without_wait l.session.stage
stage_ended (Ok u) l m new head answer reply is left ok err =
    let rests : without_wait m.session.stage ≡ m.session.stage =
    ap (λ (x : Line). without_wait x.session.stage) left ∙ (wait-less l.session.stage ∙ sym (ap (λ (x : Line). x.session.stage) left)) in
    ap (λ (x : Line). x.session.stage) ok ∙ (ap (λ a. (with_final_answer head a m.session).stage) is
    ∙ (given_rests head reply.items m.session rests ∙ ap (λ (x : Line). x.session.stage) left))
stage_ended (Err fault) l m new head answer reply is left ok err =
    ap (λ (x : Line). x.session.stage) err ∙ (ap (λ (x : Line). without_wait x.session.stage) left ∙ wait-less l.session.stage)

given_quiet : (head : Head) (answer : Answer) (s : Session) → IsNoReply answer → ((with_final_answer head answer s).stage ≡ s.stage) ⊎ ((with_final_answer head answer s).stage ≡ without_wait s.stage)
given_quiet head (answers.Reply reply) s none = absurd (none reply refl)
given_quiet head (answers.Wait deadline fetch keys) s none = inl refl
given_quiet head answers.NoReply s none = inl refl
given_quiet head answers.Shut s none = inr refl

given_loud : (head : Head) (answer : Answer) (s : Session) → IsNoReply answer → is_quiet answer ≡ false → (with_final_answer head answer s).stage ≡ without_wait s.stage
given_loud head (answers.Reply reply) s none loud = absurd (none reply refl)
given_loud head (answers.Wait deadline fetch keys) s none loud = cc
given_loud head answers.NoReply s none loud = cc
given_loud head answers.Shut s none loud = refl

-- any other answer leaves the wait, or ends it too
pub stage_told : {E : Type 0} (result : Result (Unit {0}) E) (l m new : Line) (head : Head) (answer : Answer) → IsNoReply answer → m ≡ l
    → OnOk result (new ≡ with_session m (with_final_answer head answer m.session)) → OnErr result (new ≡ with_session m (shut_down causes.Memory m.session))
    → (new.session.stage ≡ l.session.stage) ⊎ (new.session.stage ≡ without_wait l.session.stage)
stage_told (Ok u) l m new head answer none left ok err =
    subst (λ (x : Line). (x.session.stage ≡ l.session.stage) ⊎ (x.session.stage ≡ without_wait l.session.stage))
    (sym (ok ∙ ap (λ (x : Line). with_session x (with_final_answer head answer x.session)) left)) (given_quiet head answer l.session none)
stage_told (Err fault) l m new head answer none left ok err =
    inr (ap (λ (x : Line). x.session.stage) err ∙ ap (λ (x : Line). without_wait x.session.stage) left)

pub stage_loud : {E : Type 0} (result : Result (Unit {0}) E) (l m new : Line) (head : Head) (answer : Answer) → IsNoReply answer → m ≡ l
    → OnOk result (new ≡ with_session m (with_final_answer head answer m.session)) → OnErr result (new ≡ with_session m (shut_down causes.Memory m.session))
    → is_quiet answer ≡ false → new.session.stage ≡ without_wait l.session.stage
stage_loud (Ok u) l m new head answer none left ok err loud =
    ap (λ (x : Line). x.session.stage) ok ∙ (given_loud head answer m.session none loud ∙ ap (λ (x : Line). without_wait x.session.stage) left)
stage_loud (Err fault) l m new head answer none left ok err loud =
    ap (λ (x : Line). x.session.stage) err ∙ ap (λ (x : Line). without_wait x.session.stage) left

-- who was woken has no more unread bytes than before
pub unread_woken : {E : Type 0} (result : Result (Unit {0}) E) (l m new : Line) (head : Head) (answer : Answer) → m.session.unread ≡ l.session.unread
    → OnOk result (new ≡ with_session m (with_final_answer head answer m.session)) → OnErr result (new ≡ with_session m (shut_down causes.Memory m.session))
    → length new.session.unread ≤ length l.session.unread
unread_woken (Ok u) l m new head answer left ok err =
    omega (arith, ap (λ (x : Line). length x.session.unread) ok, unread_given head answer m.session, ap length left)
unread_woken (Err fault) l m new head answer left ok err = omega (arith, ap (λ (x : Line). length x.session.unread) err)

-- 8. What is left of the limit of a request

limit_reply : (head : Head) (reply : List ℕ) (s : Session) → (given_reply head reply s).limit ≡ s.limit
limit_reply head reply s = by head.is_throttled
  where
    by : (t : Bool) → (let x : Session = if t then replied head (body_of reply) s else record s { output = s.output ++ reply } in x).limit ≡ s.limit
    by true = limit-replied head (body_of reply) s
    by false = refl

limit_given : (head : Head) (answer : Answer) (s : Session) → (with_final_answer head answer s).limit ≡ s.limit
limit_given head (answers.Reply reply) s = limit_reply head reply.items s
limit_given head (answers.Wait deadline fetch keys) s = refl
limit_given head answers.NoReply s = refl
limit_given head answers.Shut s = refl

limit_parked : (head : Head) (awaited : Awaited) (s : Session) → (parked head awaited s).limit ≡ s.limit
limit_parked head awaited s = by s.shut
  where
    by : (shut : Bool) → (let x : Session = if shut then s else record s { stage = waiting (record { head = head; awaited = awaited }) s.stage } in x).limit ≡ s.limit
    by true = refl
    by false = refl

-- no answer changes it
pub same_limit : {E : Type 0} (result : Result (Unit {0}) E) (l m new : Line) (head : Head) (answer : Answer) → m.session.limit ≡ l.session.limit
    → OnOk result (new ≡ with_session m (with_final_answer head answer m.session)) → OnErr result (new ≡ with_session m (shut_down causes.Memory m.session))
    → new.session.limit ≡ l.session.limit
same_limit (Ok u) l m new head answer left ok err = ap (λ (x : Line). x.session.limit) ok ∙ (limit_given head answer m.session ∙ left)
same_limit (Err fault) l m new head answer left ok err = ap (λ (x : Line). x.session.limit) err ∙ left

pub same_limit_parked : (l new : Line) (head : Head) (awaited : Awaited) → new ≡ with_session l (parked head awaited (without_front l.session)) → new.session.limit ≡ l.session.limit
same_limit_parked l new head awaited ok = ap (λ (x : Line). x.session.limit) ok ∙ limit_parked head awaited (without_front l.session)
