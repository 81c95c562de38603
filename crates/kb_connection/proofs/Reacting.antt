-- What a reply and a change beside it come to together.
use Rattle.std.proofs.Common.{◌≡◌, ℕ, List, ◌++◌, true, false, None, Some, refl, sym, ap, ◌∙◌, nat_lt, if◌then◌else◌, Result, Ok, Err, OnOk, codes}
use Rattle.kb_wire.specs.declared.error_code.ErrorCode.TheVariants as errors
use Rattle.kb_tenant.specs.Replies.{framed, reply_size}
use Rattle.kb_isolation_spec.specs.declared.shut.Shut.TheVariants as causes
use Rattle.kb_isolation_spec.specs.declared.head.Head.{Head}
use Rattle.kb_isolation_spec.specs.declared.login.Known.{Known}
use Rattle.kb_isolation_spec.specs.Session.{Stage, Greets, Session, shut_down, replied, throttled, without_wait, unanswerable}
use Rattle.kb_isolation_spec.specs.Greeting.{Setup, bound, failed, handshake_reply, authenticate_reply}
use Rattle.kb_isolation_spec.specs.Machine.{Line}
use Rattle.kb_connection.specs.declared.greeting.Greeting.{Greeting}
use Rattle.kb_connection.specs.declared.reaction.Reaction.{Reaction}
use Rattle.kb_connection.specs.declared.reaction.Reaction.TheVariants as reactions
use Rattle.kb_connection.specs.View.{greeting_of, with_session}
use Rattle.kb_connection.specs.Reactions.{reacted}

-- a stage without a wait may be set before the reply or after it
staged : (head : Head) (body : List ℕ) (s : Session) (stage : Stage) → without_wait stage ≡ stage → record (replied head body s) { stage = stage } ≡ replied head body (record s { stage = stage })
unfolding replied
staged head body s stage free =
    elim (nat_lt 2147483647 (reply_size (throttled head body))) as (λ t. record (if t then shut_down (unanswerable head) s else record s { output = s.output ++ framed head.correlation_id (throttled head body) }) { stage = stage } ≡ (if t then shut_down (unanswerable head) (record s { stage = stage }) else record (record s { stage = stage }) { output = s.output ++ framed head.correlation_id (throttled head body) }))
    [ true ↦ ap (λ x. record (shut_down (unanswerable head) s) { stage = x }) (sym free) | false ↦ refl ]

-- a reply, and then the stage
restaged : (l new : Line) (head back : Head) (sent body : List ℕ) (stage : Stage) → without_wait stage ≡ stage → back ≡ head → new ≡ with_session l (replied back sent l.session) → sent ≡ body → with_session new (record new.session { stage = stage }) ≡ with_session l (replied head body (record l.session { stage = stage }))
restaged l new head back sent body stage free one is same =
    ap (λ (n : Line). with_session n (record n.session { stage = stage })) is
    ∙ ap (with_session l) (staged back sent l.session stage free)
    ∙ ap (λ i. with_session l (replied i sent (record l.session { stage = stage }))) one
    ∙ ap (λ b. with_session l (replied head b (record l.session { stage = stage }))) same

pub accepts : (setup : Setup) (reaction : Reaction) (greeting : Greeting) (l new : Line) (head back : Head) (sent : List ℕ) → back ≡ head → reaction ≡ reactions.Accepts greeting → new ≡ with_session l (replied back sent l.session) → sent ≡ handshake_reply errors.None → with_session new (record new.session { stage = Greets (greeting_of greeting) }) ≡ with_session l (reacted setup reaction head l.session)
accepts setup reaction greeting l new head back sent one is done same =
    restaged l new head back sent (handshake_reply errors.None) (Greets (greeting_of greeting)) refl one done same ∙ ap (λ r. with_session l (reacted setup r head l.session)) (sym is)

-- a user may be bound, or a login fail, before the reply or after it
bound-replied : (head : Head) (body : List ℕ) (s : Session) (known : Known) → bound known (replied head body s) ≡ replied head body (bound known s)
unfolding replied
bound-replied head body s known =
    elim (nat_lt 2147483647 (reply_size (throttled head body))) as (λ t. bound known (if t then shut_down (unanswerable head) s else record s { output = s.output ++ framed head.correlation_id (throttled head body) }) ≡ (if t then shut_down (unanswerable head) (bound known s) else record (bound known s) { output = s.output ++ framed head.correlation_id (throttled head body) }))
    [ true ↦ refl | false ↦ refl ]

failed-replied : (head : Head) (body : List ℕ) (s : Session) (name : List ℕ) → failed name (replied head body s) ≡ replied head body (failed name s)
unfolding replied
failed-replied head body s name =
    elim (nat_lt 2147483647 (reply_size (throttled head body))) as (λ t. failed name (if t then shut_down (unanswerable head) s else record s { output = s.output ++ framed head.correlation_id (throttled head body) }) ≡ (if t then shut_down (unanswerable head) (failed name s) else record (failed name s) { output = s.output ++ framed head.correlation_id (throttled head body) }))
    [ true ↦ refl | false ↦ refl ]

pub logs_in : (setup : Setup) (reaction : Reaction) (known : Known) (l mid new : Line) (head back : Head) (sent : List ℕ) → back ≡ head → reaction ≡ reactions.LogsIn known → mid ≡ with_session l (replied back sent l.session) → sent ≡ authenticate_reply errors.None None → new ≡ with_session mid (bound known mid.session) → new ≡ with_session l (reacted setup reaction head l.session)
logs_in setup reaction known l mid new head back sent one is done same binds =
    binds ∙ ap (λ (m : Line). with_session m (bound known m.session)) done
    ∙ ap (with_session l) (bound-replied back sent l.session known)
    ∙ ap (λ i. with_session l (replied i sent (bound known l.session))) one
    ∙ ap (λ b. with_session l (replied head b (bound known l.session))) same
    ∙ ap (λ r. with_session l (reacted setup r head l.session)) (sym is)

pub illegal : {E : Type 0} (setup : Setup) (reaction : Reaction) (result : Result (Unit {0}) E) (l new : Line) (head back : Head) (sent text : List ℕ) → back ≡ head → reaction ≡ reactions.IllegalState → text ≡ codes "illegal SASL state" → sent ≡ authenticate_reply errors.IllegalSaslState (Some text) → OnOk result (new ≡ with_session l (replied back sent l.session)) → OnOk result (new ≡ with_session l (reacted setup reaction head l.session))
illegal setup reaction (Ok u) l new head back sent text one is words same done =
    done ∙ ap (λ i. with_session l (replied i sent l.session)) one ∙ ap (λ b. with_session l (replied head b l.session)) (same ∙ ap (λ t. authenticate_reply errors.IllegalSaslState (Some t)) words) ∙ ap (λ r. with_session l (reacted setup r head l.session)) (sym is)
illegal setup reaction (Err e) l new head back sent text one is words same done = tt

pub denies : (setup : Setup) (reaction : Reaction) (name : List ℕ) (l mid new : Line) (head back : Head) (sent text : List ℕ) → back ≡ head → reaction ≡ reactions.Denies name → text ≡ codes "authentication failed" → sent ≡ authenticate_reply errors.SaslAuthenticationFailed (Some text) → mid ≡ with_session l (replied back sent l.session) → new ≡ with_session mid (shut_down causes.Denied (failed name mid.session)) → new ≡ with_session l (reacted setup reaction head l.session)
denies setup reaction name l mid new head back sent text one is words same done shut =
    shut ∙ ap (λ (m : Line). with_session m (shut_down causes.Denied (failed name m.session))) done
    ∙ ap (λ x. with_session l (shut_down causes.Denied x)) (failed-replied back sent l.session name)
    ∙ ap (λ i. with_session l (shut_down causes.Denied (replied i sent (failed name l.session)))) one
    ∙ ap (λ b. with_session l (shut_down causes.Denied (replied head b (failed name l.session)))) (same ∙ ap (λ t. authenticate_reply errors.SaslAuthenticationFailed (Some t)) words)
    ∙ ap (λ r. with_session l (reacted setup r head l.session)) (sym is)
