-- A fetch is answered with whole batches, at once and after a wait.
use Rattle.std.proofs.Common.{◌≡◌, ℕ, ℤ, List, Option, Some, Ok, refl, sym, ◌∙◌, ap, subst, inl, inr}
use Rattle.kb_wire.specs.declared.api_key.TheConstants.{FETCH}
use Rattle.kb_api_group.specs.Frames.{Whole}
use Rattle.kb_api_data.specs.declared.fetch.FetchRequest.{FetchRequest}
use Rattle.kb_tenant.specs.Batches.{HasSmallLogs, HoldsBatches}
use Rattle.kb_tenant.specs.Fetch.{asked_fetch}
use Rattle.kb_tenant_api.specs.Hosted.{Kept}
use Rattle.kb_tenant.specs.Replies as tenant
use Rattle.kb_tenant.specs.Replies.{Replies, Waits, Silent, Shuts}
use Rattle.kb_tenant_api.specs.Replies.{Reaction, Plain, Rebalances}
use Rattle.kb_tenant.proofs.Batches.{looked-holds}
use Rattle.kb_tenant_api.proofs.Laws.{served-holds}
use Rattle.kb_isolation_spec.specs.declared.head.Head.{Head}
use Rattle.kb_isolation_spec.specs.Requests.{Another, request}
use Rattle.kb_isolation_spec.specs.Tenant.{Wait, Records, reaction_to, ready}
use Rattle.kb_isolation_spec.specs.Session.{BoundTo, Session, without_wait, in_front}
use Rattle.kb_isolation_spec.specs.Greeting.{Setup}
use Rattle.kb_isolation_spec.specs.Machine.{after_reaction, served_by, served_at, after_turn, told, woken_by, woken}
use Rattle.kb_isolation_spec.specs.Fetches.{GetsBatches}

answer-holds : (setup : Setup) (kept : Kept) (clock n : ℕ) (version : ℤ) (body reply : List ℕ) (r : FetchRequest) → HasSmallLogs kept.world → asked_fetch version body ≡ Ok r → reaction_to setup.node kept clock n FETCH version body ≡ Plain (Replies reply) → HoldsBatches version kept.world r reply
unfolding reaction_to
answer-holds setup kept clock n version body reply r small read e = served-holds setup.node kept.world clock kept.groups n version body reply r small read e

ready-holds : (kept : Kept) (clock n : ℕ) (head : Head) (version : ℤ) (body : List ℕ) (deadline : ℕ) (limit : Option ℕ) (reply : List ℕ) (r : FetchRequest) → HasSmallLogs kept.world → asked_fetch version body ≡ Ok r
    → ready kept clock n (record { head = head; awaited = Records version body deadline limit }) ≡ Replies reply → HoldsBatches version kept.world r reply
unfolding ready
ready-holds kept clock n head version body deadline limit reply r small read e = looked-holds kept.world clock deadline version limit body reply r small read e

answered_by : (setup : Setup) (kept : Kept) (clock n : ℕ) (head : Head) (version : ℤ) (body : List ℕ) (s : Session) (r : FetchRequest) → HasSmallLogs kept.world → asked_fetch version body ≡ Ok r → (x : Reaction) → reaction_to setup.node kept clock n FETCH version body ≡ x → GetsBatches kept.world version r head s (after_reaction x head s)
answered_by setup kept clock n head version body s r small read (Plain (Replies reply)) e = inl (reply, answer-holds setup kept clock n version body reply r small read e, refl)
answered_by setup kept clock n head version body s r small read (Plain (Waits deadline limit places)) e = inr refl
answered_by setup kept clock n head version body s r small read (Plain Silent) e = inr refl
answered_by setup kept clock n head version body s r small read (Plain Shuts) e = inr refl
answered_by setup kept clock n head version body s r small read Rebalances e = inr refl

-- a fetch that takes its turn
pub served-batches : (setup : Setup) (kept : Kept) (clock n : ℕ) (s : Session) (frame rest : List ℕ) (version : ℤ) (body : List ℕ) (r : FetchRequest) → HasSmallLogs kept.world → in_front s ≡ Whole frame rest → (request setup.versions frame).asked ≡ Another FETCH version body → asked_fetch version body ≡ Ok r
    → GetsBatches kept.world version r (request setup.versions frame).head (record s { unread = rest }) (after_turn setup kept clock n s)
unfolding after_turn served_by
served-batches setup kept clock n s frame rest version body r small at asks read =
    let head = (request setup.versions frame).head in
    let from : Session = record s { unread = rest } in
    let is : served_at setup kept clock n s (in_front s) ≡ after_reaction (reaction_to setup.node kept clock n FETCH version body) head from =
    ap (served_at setup kept clock n s) at ∙ ap (λ a. served_by setup kept clock n head a from) asks in
    subst (GetsBatches kept.world version r head from) (sym is) (answered_by setup kept clock n head version body from r small read (reaction_to setup.node kept clock n FETCH version body) refl)

told_by : (kept : Kept) (clock n : ℕ) (head : Head) (version : ℤ) (body : List ℕ) (deadline : ℕ) (limit : Option ℕ) (s : Session) (r : FetchRequest) → HasSmallLogs kept.world → asked_fetch version body ≡ Ok r → (x : tenant.Reaction)
    → ready kept clock n (record { head = head; awaited = Records version body deadline limit }) ≡ x → GetsBatches kept.world version r head (record s { stage = without_wait s.stage }) (told x head s)
told_by kept clock n head version body deadline limit s r small read (Replies reply) e = inl (reply, ready-holds kept clock n head version body deadline limit reply r small read e, refl)
told_by kept clock n head version body deadline limit s r small read (Waits until kept_limit places) e = inr refl
told_by kept clock n head version body deadline limit s r small read Silent e = inr refl
told_by kept clock n head version body deadline limit s r small read Shuts e = inr refl

-- a fetch that waited
pub woken-batches : (kept : Kept) (clock n tenant : ℕ) (s : Session) (head : Head) (version : ℤ) (body : List ℕ) (deadline : ℕ) (limit : Option ℕ) (r : FetchRequest) → HasSmallLogs kept.world
    → s.stage ≡ BoundTo tenant (Some (record { head = head; awaited = Records version body deadline limit })) → asked_fetch version body ≡ Ok r
    → GetsBatches kept.world version r head (record s { stage = without_wait s.stage }) (woken kept clock n s)
unfolding woken_by
woken-batches kept clock n tenant s head version body deadline limit r small waits read =
    let from : Session = record s { stage = without_wait s.stage } in
    let wait : Wait = record { head = head; awaited = Records version body deadline limit } in
    let is : woken kept clock n s ≡ told (ready kept clock n wait) head s = ap (woken_by kept clock n s) waits in
    subst (GetsBatches kept.world version r head from) (sym is) (told_by kept clock n head version body deadline limit s r small read (ready kept clock n wait) refl)
