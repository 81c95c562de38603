-- The truth of an answer, carried to the output of the connection that asked.
use Rattle.std.proofs.Common.{◌≡◌, ◌≤◌, ◌+◌, ◌^◌, ◌⊎◌, ℕ, ℤ, List, Some, None, true, false, inl, inr, refl, sym, ap, subst, ◌∙◌}
use Rattle.kb_tenant_state.specs.declared.topic_partition.TopicPartition.{TopicPartition}
use Rattle.kb_tenant.specs.declared.answer.Answer.{Answer as Plain}
use Rattle.kb_tenant_api.specs.Hosted.{Kept, TenantState, kept_of}
use Rattle.kb_tenant_api.specs.declared.answer.Answer.{Answer}
use Rattle.kb_isolation_spec.specs.declared.shut.Shut.TheVariants as causes
use Rattle.kb_isolation_spec.specs.declared.head.Head.{Head}
use Rattle.kb_isolation_spec.specs.Greeting.{Setup, greeted, for_tenant, node_of}
use Rattle.kb_isolation_spec.specs.Machine.{Line, after_turn}
use Rattle.kb_isolation_spec.specs.Session.{Greeting, Stage, Greets, BoundTo, Session, shut_down}
use Rattle.kb_isolation_spec.specs.Tenant.{Wait}
use Rattle.kb_connection.specs.Fronts.{IsAsked, IsOwn}
use Rattle.kb_connection.specs.TenantAnswers.{answered_again}
use Rattle.kb_connection.specs.View.{with_session}
use Rattle.kb_broker.specs.Places.{IsDoneOrShut, IsLookAnswer, IsPutOut, IsToldAgain, IsToldAt, IsToldTruth, IsTrueAnswer, IsUnasked, TellsAwaited, TellsMember}

-- 1. What is put out

-- a connection that was shut has no answer, whichever was meant for it
pub put-shut : (defined : Session) (l m : Line) → m ≡ with_session l (shut_down causes.Memory l.session) → IsDoneOrShut defined l.session m.session
put-shut defined l m is = inr (ap (λ (x : Line). x.session) is)

-- and any other has what is defined
pub put-done : (defined : Session) (l m : Line) → m ≡ with_session l defined → IsDoneOrShut defined l.session m.session
put-done defined l m is = inl (ap (λ (x : Line). x.session) is)

-- 2. A request's answer

module _ (failed : Type 0) (full : ℕ → Type 0) (setup : Setup) (clock n t : ℕ) (ts : List TenantState) where
  -- of a connection that was shut before anything was asked
  pub told-shut : (l m : Line) → m ≡ with_session l (shut_down causes.Memory l.session)
      → IsToldAt failed full setup clock n (BoundTo t None) ts ts l.session m.session
  told-shut l m is = record {
    asked = λ key version head body asks. inr (refl, ap (λ (x : Line). x.session) is);
    own = λ own. inr (ap (λ (x : Line). x.session) is);
    stays = λ own. refl;
  }

  -- of what is a matter of the connection alone its tenant is asked nothing
  pub told-own : (l m : Line) → IsOwn setup l.session → m ≡ with_session l (after_turn (for_tenant setup t) (kept_of ts t) clock n l.session)
      → IsToldAt failed full setup clock n (BoundTo t None) ts ts l.session m.session
  told-own l m own is = record {
    asked = λ key version head body asks. let no : true ≡ false = sym asks.tenants ∙ own.own in absurd (cc);
    own = λ owns. inl (ap (λ (x : Line). x.session) is);
    stays = λ owns. refl;
  }

  -- only one request stands in front
  pub told-asked : (us : List TenantState) (s r : Session) (key version : ℤ) (head : Head) (body : List ℕ) (touched : List TopicPartition)
      (answer : Answer) → IsAsked setup s key version head body
      → IsTrueAnswer failed (full t) (node_of setup t) clock n key version head.correlation_id body (kept_of ts t) (kept_of us t) touched answer
      → IsPutOut head answer s r → IsToldAt failed full setup clock n (BoundTo t None) ts us s r
  told-asked us s r key version head body touched answer asked is_true put_out = record {
    asked = λ key' version' head' body' asks.
        let both : Some (head, key, version, body) ≡ Some (head', key', version', body') = sym asked.asked ∙ asks.asked in
        let same : (head, key, version, body) ≡ (head', key', version', body') = cc in
        let Told : Head × ℤ × ℤ × List ℕ → Type 0 =
        λ q. IsToldTruth failed (full t) (node_of setup t) clock n q.1 q.2 q.0 q.3 (kept_of ts t) (kept_of us t) s r in
        inl (subst Told same (record { answer = answer; touched = touched; is_true = is_true; put_out = put_out }));
    own = λ own. let no : true ≡ false = sym asked.tenants ∙ own.own in absurd (cc);
    stays = λ own. let no : true ≡ false = sym asked.tenants ∙ own.own in absurd (cc);
  }

-- 3. A turn

-- one that greets comes to what is defined, or is shut
pub told-greeted : (failed : Type 0) (full : ℕ → Type 0) (setup : Setup) (clock n : ℕ) (ts : List TenantState) (l m : Line)
    (greeting : Greeting) → l.session.stage ≡ Greets greeting
    → (m ≡ with_session l (greeted setup greeting l.session)) ⊎ (m ≡ with_session l (shut_down causes.Memory l.session))
    → IsToldAt failed full setup clock n l.session.stage ts ts l.session m.session
told-greeted failed full setup clock n ts l m greeting greets (inl is) =
    subst (λ st. IsToldAt failed full setup clock n st ts ts l.session m.session) (sym greets) (inl (ap (λ (x : Line). x.session) is))
told-greeted failed full setup clock n ts l m greeting greets (inr is) =
    subst (λ st. IsToldAt failed full setup clock n st ts ts l.session m.session) (sym greets) (inr (ap (λ (x : Line). x.session) is))

-- after a refusal that was counted the tenants keep what they kept, and no catalog's log has recorded more
pub told-counted : (failed : Type 0) (before after : ℕ → ℕ) (setup : Setup) (clock n t : ℕ) (ts us vs : List TenantState) (s r : Session)
    → ((u : ℕ) → after u ≡ before u) → ((u : ℕ) → kept_of vs u ≡ kept_of us u)
    → IsToldAt failed (λ u. 2 ^ 63 ≤ before u + 1) setup clock n (BoundTo t None) ts us s r
    → IsToldAt failed (λ u. 2 ^ 63 ≤ after u + 1) setup clock n (BoundTo t None) ts vs s r
told-counted failed before after setup clock n t ts us vs s r commands stays told = record {
  asked = λ key version head body asks.
      let Told : ℕ → Kept → Type 0 =
      λ commands l. IsToldTruth failed (2 ^ 63 ≤ commands + 1) (node_of setup t) clock n key version head body (kept_of ts t) l s r
      ⊎ IsUnasked (kept_of ts t) l s r in
      subst (λ count. Told count (kept_of vs t)) (sym (commands t))
      (subst (λ l. Told (before t) l) (sym (stays t)) (told.asked key version head body asks));
  own = told.own;
  stays = λ own. stays t ∙ told.stays own;
}

-- 4. A look

-- a member is told what its group told it, or its connection is shut: only a fetch has a reply that says what was refused
pub member-answered : (clock n t : ℕ) (ts us : List TenantState) (w : Wait) (answer : Plain) → IsLookAnswer t clock n ts us w answer
    → TellsMember clock n (kept_of ts t) w answer
member-answered clock n t ts us w answer (inl told) = λ members. inl told
member-answered clock n t ts us w answer (inr (inl shut)) = λ members. inr shut.0
member-answered clock n t ts us w answer (inr (inr refused)) = λ members.
    let no : true ≡ false = sym members ∙ refused.fetch in absurd (cc)

-- what waited was told
pub again-told : (failed : Type 0) (clock n t : ℕ) (ts : List TenantState) (st : Stage) (w : Wait) (s r : Session) (answer : Plain)
    → st ≡ BoundTo t (Some w) → TellsAwaited failed w.head.correlation_id clock (kept_of ts t) w.awaited answer
    → TellsMember clock n (kept_of ts t) w answer → IsDoneOrShut (answered_again w.head answer s) s r → IsToldAgain failed clock n st ts s r
again-told failed clock n t ts st w s r answer waits told member put_out =
    subst (λ x. IsToldAgain failed clock n x ts s r) (sym waits) (inr (answer, (told, (member, put_out))))
