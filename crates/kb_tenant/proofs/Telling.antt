-- What an entry is answered, by what the call for it answered.
use Rattle.std.specs.Prelude.{pos}
use Rattle.kb_wire.specs.ErrorCode.{code_of}
use Rattle.kb_wire.specs.declared.error_code.ErrorCode.TheVariants as codes
use Rattle.std.proofs.Common.{◌≡◌, ◌∙◌, ⊎_elim, inl, inr, ℕ, ℤ, List, Option, Some, None, Result, Ok, Err, sym, subst, ap, refl}
use Rattle.kb_api_data.specs.declared.produce.ProducePartition.{ProducePartition}
use Rattle.kb_api_data.specs.declared.produce_v5.ProducePartitionReplyV5.{ProducePartitionReplyV5}
use Rattle.kb_tenant_state.specs.Scene.{Scene}
use Rattle.kb_tenant_state.specs.Parts.{Seen}
use Rattle.kb_tenant_state.specs.Told.{IsDone, Tells}
use Rattle.kb_tenant_state.specs.World.{place_in}
use Rattle.kb_tenant_state.specs.declared.topic_partition.TopicPartition.{TopicPartition}
use Rattle.kb_tenant.specs.Produce.{Progress, answer, beside_start, produce_answered, batch_in, known_place, entry_served, start_at, tried}
use Rattle.kb_tenant.specs.Told.{IsAppendWant, IsTold}

pub done_so : (a b : Scene Seen) (P Q : Type 0) → (P → Q) → IsDone a b P → IsDone a b Q
done_so a b P Q f is = record { counted = is.counted; met = λ honest agree. f (is.met honest agree) }

-- what follows from what is defined
pub tells_so : {T F : Type 0} (a b : Scene Seen) (P Q : Type 0) (want : F → Type 0) (r : Result T F) → (P → Q) → Tells a b P want r → Tells a b Q want r
tells_so a b P Q want (Ok x) f is = done_so a b P Q f is
tells_so a b P Q want (Err e) f is = ⊎_elim (λ own. inl (done_so a b P Q f own)) (λ wanted. inr wanted) is

-- records that are no batch
pub tried_nothing : (limit : Option ℕ) (p : Progress) (at : Option TopicPartition) (place : TopicPartition) (records : Option (List ℕ)) (code : ℤ) → at ≡ Some place → batch_in records ≡ Err code → (p, Err code) ≡ tried limit p at records
tried_nothing limit p at place records code there read = rw (there, read) refl

-- the reply for what was tried
pub answer_told : (a b : Scene Seen) (old new : List TopicPartition) (q : Progress) (topic : Option ℕ) (index : ℤ) (r : Result ℤ ℤ) (x : Progress × Result ℤ ℤ)
    → Tells a b ((q, r) ≡ x) (IsAppendWant a b old new) r
    → let z = (produce_answered topic index (q, r)).1 in IsTold a b ((q, z) ≡ produce_answered topic index x) (IsAppendWant a b old new z.error_code × (z ≡ answer index (Err z.error_code)))
answer_told a b old new q topic index (Ok base) x is = inl (done_so a b ((q, Ok base) ≡ x) ((q, (produce_answered topic index (q, Ok base)).1) ≡ produce_answered topic index x) (λ e. ap (produce_answered topic index) e) is)
answer_told a b old new q topic index (Err code) x is =
    ⊎_elim
    (λ own. inl (done_so a b ((q, Err code) ≡ x) ((q, answer index (Err code)) ≡ produce_answered topic index x) (λ e. ap (produce_answered topic index) e) own))
    (λ wanted. inr (record { want = (wanted.want, refl); counted = wanted.counted; stays = wanted.stays }))
    is

-- what is answered with no error is done
pub done_where_fine : (a b : Scene Seen) (old new : List TopicPartition) (P X : Type 0) (code : ℤ) → code ≡ pos 0 → IsTold a b P (IsAppendWant a b old new code × X) → IsDone a b P
done_where_fine a b old new P X code fine told =
    ⊎_elim (λ done. done) (λ refused. absurd (⊎_elim (λ store. storage_not (sym store.0 ∙ fine)) (λ memory. unknown_not (sym memory ∙ fine)) refused.want.0.0)) told
  where
    storage_not : code_of codes.KafkaStorageError ≡ pos 0 → ⊥
    storage_not e = absurd cc

    unknown_not : code_of codes.UnknownServerError ≡ pos 0 → ⊥
    unknown_not e = absurd cc

-- the reply for an entry of a request that is not refused as a whole
pub entry_told : (a b : Scene Seen) (old new : List TopicPartition) (p q : Progress) (limit : Option ℕ) (refusal : Option ℤ) (topic : Option ℕ) (e : ProducePartition) (reply : ProducePartitionReplyV5) (r : Result ℤ ℤ)
    → refusal ≡ None → reply ≡ answer e.index (beside_start (start_at q.world (place_in topic e.index)) r) → Tells a b ((q, r) ≡ tried limit p (known_place p.world (place_in topic e.index)) e.records) (IsAppendWant a b old new) r
    → IsTold a b ((q, reply) ≡ entry_served limit refusal topic p e) (IsAppendWant a b old new reply.error_code × (reply ≡ answer e.index (Err reply.error_code)))
entry_told a b old new p q limit refusal topic e reply r none is told =
    let x : Progress × Result ℤ ℤ = tried limit p (known_place p.world (place_in topic e.index)) e.records in
    subst (λ (o : Option ℤ). IsTold a b ((q, reply) ≡ entry_served limit o topic p e) (IsAppendWant a b old new reply.error_code × (reply ≡ answer e.index (Err reply.error_code)))) (sym none)
    (subst (λ (z : ProducePartitionReplyV5). IsTold a b ((q, z) ≡ produce_answered topic e.index x) (IsAppendWant a b old new z.error_code × (z ≡ answer e.index (Err z.error_code)))) (sym is)
    (answer_told a b old new q topic e.index r x told))
