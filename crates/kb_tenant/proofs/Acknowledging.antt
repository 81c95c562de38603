-- Entries that are told one after another, whatever memory and the store refuse.
use Rattle.std.proofs.Common.{◌≡◌, ◌∙◌, sym, ap, refl, subst, ℕ, suc, ℤ, ◌+◌, ◌<◌, ◌≤◌, ◌⊎◌, Bool, true, List, [], ◌∷◌, ◌++◌, length, take, get_or, Option, append_assoc, append-nil, arith, inl, inr, ⊎_elim, w32}
use Rattle.std.specs.Prelude.{pos, Err, Ok}
use Rattle.std.specs.List.{flat_map}
use Rattle.std.proofs.lemmas.List.{take_all, take_more}
use Rattle.std.proofs.lemmas.Grind.{flat_map-append}
use Rattle.kb_wire.specs.Codec.{count, int32, string, whole}
use Rattle.kb_api_data.specs.Layouts.{produce_request}
use Rattle.kb_api_data.specs.declared.produce_v5.ProduceReplyV5.{ProduceReplyV5}
use Rattle.kb_api_data.specs.declared.produce.ProduceRequest.{ProduceRequest}
use Rattle.kb_api_data.specs.declared.produce.ProduceTopic.{ProduceTopic}
use Rattle.kb_api_data.specs.declared.produce_v5.ProduceTopicReplyV5.{ProduceTopicReplyV5}
use Rattle.kb_api_data.specs.declared.produce.ProducePartition.{ProducePartition}
use Rattle.kb_api_data.specs.declared.produce_v5.ProducePartitionReplyV5.{ProducePartitionReplyV5}
use Rattle.kb_store.specs.Disk.{Grew}
use Rattle.kb_tenant_state.specs.Scene.{Scene, WhereHonest}
use Rattle.kb_tenant_state.specs.Parts.{Seen}
use Rattle.kb_tenant_state.specs.Steps.{IsStep}
use Rattle.kb_tenant_state.specs.World.{World}
use Rattle.kb_tenant_state.specs.declared.topic_partition.TopicPartition.{TopicPartition}
use Rattle.kb_topics.specs.Known.{named}
use Rattle.kb_tenant.specs.Produce.{Progress, answer, is_due, progress, refusal_of, reply_bytes, entry_served, where_due}
use Rattle.kb_tenant.specs.Produce.{entry_written, produced_in, reply_written, tells_starts, topic_written}
use Rattle.kb_tenant.specs.Replies.{begun, IsAnswer, Replies}
use Rattle.kb_tenant.specs.Room.{length_due, reply_length, IsLonger}
use Rattle.kb_tenant.specs.Told.{FailedBy, HasFailed, IsAcknowledged, IsAppendWant, IsEntryTold, IsProduceTold, IsReplied, IsSpared, IsTold, IsTopicTold, IsWanting}
use Rattle.kb_tenant.specs.Turns.{AreServed}
use Rattle.kb_tenant.specs.declared.answer.Answer.{Answer}
use Rattle.kb_tenant.specs.declared.answer.Answer.TheVariants as answers
use Rattle.kb_tenant.specs.declared.produce.Terms.{Terms}
use Rattle.kb_tenant.proofs.Produced.{reply_bytes_are, topic_bytes}

-- ---- one more

module _ {S E A : Type 0} (R : S → E → S → A → Type 0) where
  -- one entry more is served behind others
  served_behind : (s t u : S) (es : List E) (e : E) (answers : List A) (a : A) → AreServed R s es t answers → R t e u a → AreServed R s (es ++ e ∷ []) u (answers ++ a ∷ [])
  served_behind s t u [] e [] a h one = (u, (subst (λ x. R x e u a) h one, refl))
  served_behind s t u [] e (b ∷ answers) a h one = absurd h
  served_behind s t u (f ∷ es) e [] a h one = absurd h
  served_behind s t u (f ∷ es) e (b ∷ answers) a h one = (h.0, (h.1.0, served_behind h.0 t u es e answers a h.1.1 one))

  pub served_next : (s t u : S) (es : List E) (i : ℕ) (e : E) (answers : List A) (a : A) → i < length es → e ≡ get_or es i e → AreServed R s (take i es) t answers → R t e u a → AreServed R s (take (i + 1) es) u (answers ++ a ∷ [])
  served_next s t u es i e answers a lt is h one =
      let longer : take i es ++ e ∷ [] ≡ take (i + 1) es = ap (λ x. take i es ++ x ∷ []) is ∙ sym (take_more es i e lt) in
      subst (λ xs. AreServed R s xs u (answers ++ a ∷ [])) longer (served_behind s t u (take i es) e answers a h one)

  pub served_all : (s t : S) (es : List E) (i : ℕ) (answers : List A) → length es ≤ i → AreServed R s (take i es) t answers → AreServed R s es t answers
  served_all s t es i answers le h = subst (λ xs. AreServed R s xs t answers) (take_all i es le) h

  pub served_length : (s t : S) (es : List E) (answers : List A) → AreServed R s es t answers → length answers ≡ length es
  served_length s t [] [] h = refl
  served_length s t [] (a ∷ answers) h = absurd h
  served_length s t (e ∷ es) [] h = absurd h
  served_length s t (e ∷ es) (a ∷ answers) h = ap suc (served_length h.0 t es answers h.1.1)

-- what is told of each entry is told so too
pub served_so : {S E A : Type 0} (R Q : S → E → S → A → Type 0) → ((s : S) (e : E) (t : S) (a : A) → R s e t a → Q s e t a) → (s t : S) (es : List E) (answers : List A) → AreServed R s es t answers → AreServed Q s es t answers
served_so R Q so s t [] [] h = h
served_so R Q so s t [] (a ∷ answers) h = absurd h
served_so R Q so s t (e ∷ es) [] h = absurd h
served_so R Q so s t (e ∷ es) (a ∷ answers) h = (h.0, (so s e h.0 a h.1.0, served_so R Q so h.0 t es answers h.1.1))

-- its answer is written behind those before it
pub written_more : {A : Type 0} (write : A → List ℕ) (out old new : List ℕ) (xs : List A) (x : A) → old ≡ out ++ flat_map write xs → new ≡ old ++ write x → new ≡ out ++ flat_map write (xs ++ x ∷ [])
written_more write out old new xs x before more =
    more ∙ ap (λ s. s ++ write x) before ∙ append_assoc out (flat_map write xs) (write x)
    ∙ ap (λ s. out ++ (flat_map write xs ++ s)) (sym (append-nil (write x)))
    ∙ ap (λ s. out ++ s) (sym (flat_map-append write xs (x ∷ [])))

-- ---- how often the store has failed

-- it had failed no more often before a step than after it
pub failures_by : (a b : Scene Seen) (n : ℕ) → IsStep a b → b.disk.failures ≤ n → a.disk.failures ≤ n
failures_by a b n step le = omega (arith, step.frame.failures, le)

pub failures_since : (a b : Scene Seen) (n : ℕ) → IsStep a b → n ≤ a.disk.failures → n ≤ b.disk.failures
failures_since a b n step le = omega (arith, step.frame.failures, le)

-- nor had it given out more file numbers
pub next_by : (a b : Scene Seen) (n : ℕ) → IsStep a b → b.next ≤ n → a.next ≤ n
next_by a b n step le = omega (arith, step.frame.others.later, le)

-- failures that grew in a while grew in a longer one
grown_in : (before a b now : ℕ) → Grew a b → before ≤ a → b ≤ now → Grew before now
grown_in before a b now grew since until = omega (arith, grew, since, until)

pub failed_in : (before now next first last early : ℕ) → before ≤ first → last ≤ now → early ≤ next → FailedBy first last early → FailedBy before now next
failed_in before now next first last early since until later failed = ⊎_elim (λ grew. inl (grown_in before first last now grew since until)) (λ over. inr (omega (arith, over, later))) failed

-- ---- one entry

wanting : (failed : Type 0) (a b : Scene Seen) (old new : List TopicPartition) (e : ProducePartition) (x : ProducePartitionReplyV5)
    → (WhereHonest a b (HasFailed a b) → failed) → IsAppendWant a b old new x.error_code × (x ≡ answer e.index (Err x.error_code)) → IsWanting failed e x
wanting failed a b old new e x cause want =
    ⊎_elim (λ store. inl (want.1 ∙ ap (λ code. answer e.index (Err code)) store.0, cause store.1)) (λ memory. inr (want.1 ∙ ap (λ code. answer e.index (Err code)) memory)) want.0.0

pub entry_told_so : (before now next : ℕ) (a b : Scene Seen) (old new : List TopicPartition) (limit : Option ℕ) (refusal : Option ℤ) (topic : Option ℕ) (e : ProducePartition) (x : ProducePartitionReplyV5)
    → IsStep a b → before ≤ a.disk.failures → b.disk.failures ≤ now → b.next ≤ next
    → IsTold a b ((progress b.state.world new, x) ≡ entry_served limit refusal topic (progress a.state.world old) e) (IsAppendWant a b old new x.error_code × (x ≡ answer e.index (Err x.error_code)))
    → WhereHonest a b (IsEntryTold (FailedBy before now next) limit refusal topic (progress a.state.world old) e (progress b.state.world new) x)
entry_told_so before now next a b old new limit refusal topic e x step since until later told honest agree =
    let cause : WhereHonest a b (HasFailed a b) → FailedBy before now next = λ failed. failed_in before now next a.disk.failures b.disk.failures b.next since until later (failed honest agree) in
    ⊎_elim (λ done. inl (done.met honest agree))
    (λ refused. inr (ap (λ w. progress w new) (refused.stays honest agree) ∙ ap (progress a.state.world) refused.want.0.1, wanting (FailedBy before now next) a b old new e x cause refused.want)) told

-- ---- a topic, and the whole

-- a topic's name, the count of its entries and what they were answered
pub topic_told_so : (failed : Type 0) (starts due : Bool) (limit : Option ℕ) (refusal : Option ℤ) (topic : Option ℕ) (p q : Progress) (t : ProduceTopic) (name : List ℕ) (entries : List ProducePartition) (n : ℕ) (out out1 out2 out3 : List ℕ)
    → name ≡ t.name → entries ≡ t.partitions → n ≡ length t.partitions → topic ≡ named t.name p.world.known.topics
    → out1 ≡ out ++ where_due due (string.written name) → out2 ≡ out1 ++ where_due due ((count w32).written n)
    → (replies : List ProducePartitionReplyV5) × ((out3 ≡ out2 ++ flat_map (λ x. where_due due (entry_written starts x)) replies) × AreServed (IsEntryTold failed limit refusal topic) p entries q replies)
    → (reply : ProduceTopicReplyV5) × ((out3 ≡ out ++ where_due due (topic_written starts reply)) × IsTopicTold failed limit refusal p t q reply)
topic_told_so failed starts due limit refusal topic p q t name entries n out out1 out2 out3 nis eis lis tis first second told =
    let instance = named t.name p.world.known.topics in
    let replies : List ProducePartitionReplyV5 = told.0 in
    let write : ProducePartitionReplyV5 → List ℕ = λ x. where_due due (entry_written starts x) in
    let told_of : AreServed (IsEntryTold failed limit refusal instance) p t.partitions q replies =
    subst (λ es. AreServed (IsEntryTold failed limit refusal instance) p es q replies) eis (subst (λ i. AreServed (IsEntryTold failed limit refusal i) p entries q replies) tis told.1.1) in
    let many : n ≡ length replies = lis ∙ sym (served_length (IsEntryTold failed limit refusal instance) p q t.partitions replies told_of) in
    let before : out2 ≡ (out ++ where_due due (string.written t.name)) ++ where_due due ((count w32).written n) =
    second ∙ ap (λ l. l ++ where_due due ((count w32).written n)) (first ∙ ap (λ m. out ++ where_due due (string.written m)) nis) in
    (record { name = t.name; partitions = replies }, (told.1.0 ∙ ap (λ l. l ++ flat_map write replies) before ∙ topic_bytes starts due t.name n replies out many, (refl, told_of)))

-- the count of the topics, what they were answered, and the throttle time
pub produce_told_so : (failed : Type 0) (starts : Bool) (limit : Option ℕ) (terms : Terms) (request : ProduceRequest) (p q : Progress) (n : ℕ) (out out1 out2 out3 : List ℕ)
    → terms.refusal ≡ refusal_of request.transactional_id request.acks → terms.due ≡ is_due request.acks → terms.has_starts ≡ starts → n ≡ length request.topics
    → out1 ≡ out ++ where_due terms.due ((count w32).written n)
    → (replies : List ProduceTopicReplyV5) × ((out2 ≡ out1 ++ flat_map (λ x. where_due terms.due (topic_written terms.has_starts x)) replies) × AreServed (IsTopicTold failed limit terms.refusal) p request.topics q replies)
    → out3 ≡ out2 ++ where_due terms.due (int32.written (pos 0))
    → (reply : ProduceReplyV5) × ((out3 ≡ out ++ reply_bytes starts request.acks reply) × IsProduceTold failed limit p request q reply)
produce_told_so failed starts limit terms request p q n out out1 out2 out3 ris dis sis lis first told last =
    let due : Bool = terms.due in
    let replies : List ProduceTopicReplyV5 = told.0 in
    let write : ProduceTopicReplyV5 → List ℕ = λ x. where_due due (topic_written terms.has_starts x) in
    let told_of : AreServed (IsTopicTold failed limit (refusal_of request.transactional_id request.acks)) p request.topics q replies = subst (λ r. AreServed (IsTopicTold failed limit r) p request.topics q replies) ris told.1.1 in
    let many : n ≡ length replies = lis ∙ sym (served_length (IsTopicTold failed limit terms.refusal) p q request.topics replies told.1.1) in
    let reply : ProduceReplyV5 = record { topics = replies; throttle_time_ms = pos 0 } in (
      reply,
      (
        last ∙ ap (λ l. l ++ where_due due (int32.written (pos 0))) (told.1.0 ∙ ap (λ l. l ++ flat_map write replies) first) ∙ reply_bytes_are terms.has_starts due n replies out many ∙ ap (λ s. out ++ where_due due (reply_written s reply)) sis ∙ ap (λ d. out ++ where_due d (reply_written starts reply)) dis,
        (told_of, refl),
      ),
    )

-- what holds where the store is honest, after one step more
pub honest_then : (a b d : Scene Seen) (P Q : Type 0) → IsStep a b → IsStep b d → WhereHonest a b P → WhereHonest b d Q → WhereHonest a d (P × Q)
honest_then a b d P Q p q first second honest agree =
    let before = q.frame.others.honest honest in
    (first before agree, second honest (p.frame.agrees before agree))

-- ---- the answer

-- the reply is sent as it stands behind what was begun
pub acknowledged_by : (failed : Type 0) (limit : Option ℕ) (starts : Bool) (id version : ℤ) (w : World) (r : ProduceRequest) (v : World) (old new : List TopicPartition) (s t : List ℕ) (answer : Answer) → s ≡ begun id → is_due r.acks ≡ true → old ≡ [] → starts ≡ tells_starts version
    → (reply : ProduceReplyV5) × ((t ≡ s ++ reply_bytes starts r.acks reply) × IsProduceTold failed limit (progress w old) r (progress v new) reply)
    → ((id : ℤ) (body : List ℕ) → t ≡ begun id ++ body → IsAnswer id (Replies body) answer) → IsAcknowledged failed limit id version w r v new answer
acknowledged_by failed limit starts id version w r v old new s t answer from due none form told made =
    by answer (made id (produced_in version reply) (told.1.0 ∙ ap (λ d. s ++ where_due d (reply_written starts reply)) due ∙ ap (λ f. s ++ reply_written f reply) form ∙ ap (λ b. b ++ produced_in version reply) from))
  where
    reply : ProduceReplyV5
    reply = told.0

    so : IsProduceTold failed limit (progress w []) r (progress v new) reply
    so = subst (λ places. IsProduceTold failed limit (progress w places) r (progress v new) reply) none told.1.1

    by : (x : Answer) → IsAnswer id (Replies (produced_in version reply)) x → IsAcknowledged failed limit id version w r v new x
    by (answers.Reply bytes) h = (reply, (h.1, so))
    by (answers.Wait deadline kept keys) h = absurd h
    by answers.NoReply h = absurd h
    by answers.Shut h = inr (reply, so)

-- what a body tells that stands behind what was begun
pub replied_by : (id : ℤ) (Told : List ℕ → Type 0) (s t body : List ℕ) (answer : Answer) → s ≡ begun id → t ≡ s ++ body → Told body
    → ((id : ℤ) (body : List ℕ) → t ≡ begun id ++ body → IsAnswer id (Replies body) answer) → IsReplied id Told answer
replied_by id Told s t body answer from more told made = by answer (made id body (more ∙ ap (λ b. b ++ body) from))
  where
    by : (x : Answer) → IsAnswer id (Replies body) x → IsReplied id Told x
    by (answers.Reply bytes) h = (body, (h.1, told))
    by (answers.Wait deadline kept keys) h = absurd h
    by answers.NoReply h = absurd h
    by answers.Shut h = tt

-- where the reply is not sent it is too long
pub spared_by : (starts : Bool) (id version : ℤ) (w : World) (body : List ℕ) (r : ProduceRequest) (v : World) (s t : List ℕ) (answer : Answer) → s ≡ begun id → is_due r.acks ≡ true → whole produce_request body ≡ Ok r → starts ≡ tells_starts version
    → IsLonger (length_due (is_due r.acks) (reply_length starts r)) s t → ((id : ℤ) (body : List ℕ) → t ≡ begun id ++ body → IsAnswer id (Replies body) answer) → IsSpared version w body v answer
spared_by starts id version w body r v s t answer from due read form longer made = by answer (made id longer.more (longer.is ∙ ap (λ b. b ++ longer.more) from))
  where
    long : length longer.more ≡ reply_length (tells_starts version) r
    long = longer.many ∙ ap (λ d. length_due d (reply_length starts r)) due ∙ ap (λ f. reply_length f r) form

    by : (x : Answer) → IsAnswer id (Replies longer.more) x → IsSpared version w body v x
    by (answers.Reply bytes) h = tt
    by (answers.Wait deadline kept keys) h = tt
    by answers.NoReply h = tt
    by answers.Shut h = inr (r, (read, omega (arith, h, long)))
