-- A batch that is appended where its tenant may have it.
use Rattle.std.proofs.Common.{◌≡◌, ◌∙◌, ⊎_elim, inl, inr, ap, arith, refl, subst, sym, ℕ, ℤ, Bool, true, false, List, Option, Result, Ok, Err}
use Rattle.std.specs.Prelude.{length}
use Rattle.kb_tenant_state.specs.Calls.{append}
use Rattle.kb_tenant_state.specs.Counts.{counted_once}
use Rattle.kb_tenant_state.specs.Fault.{code_of as partition_code}
use Rattle.kb_tenant_state.specs.Parts.{Seen}
use Rattle.kb_tenant_state.specs.Scene.{Scene, WhereHonest}
use Rattle.kb_tenant_state.specs.Steps.{IsStep}
use Rattle.kb_tenant_state.specs.Told.{IsDone, IsRefused, IsWant, Tells}
use Rattle.kb_tenant_state.specs.World.{World}
use Rattle.kb_tenant_state.specs.declared.fault.PartitionFault.{PartitionFault}
use Rattle.kb_tenant_state.specs.declared.fault.PartitionFault.TheVariants as partition
use Rattle.kb_tenant_state.specs.declared.topic_partition.TopicPartition.{TopicPartition}
use Rattle.kb_tenant.specs.Limits.{is_past, left_of}
use Rattle.kb_tenant.specs.Produce.{Progress, appended_at, appended_unless_full, is_full, progress}
use Rattle.kb_tenant_state.specs.Stored.{stored_in}
use Rattle.kb_tenant.specs.Told.{IsAppendWant, IsCodeWant}
use Rattle.kb_tenant.proofs.Acknowledging.{failed_in}
use Rattle.kb_tenant.proofs.Telling.{done_so}

-- the code for what a partition answered, where there was a want for it
code_want : (a b : Scene Seen) → IsStep a b → (f : PartitionFault) → IsWant a b f → IsCodeWant a b (partition_code f)
code_want a b step partition.Unknown want = absurd want
code_want a b step partition.Range want = absurd want
code_want a b step partition.Full want = absurd want
code_want a b step partition.Store want =
    inl (refl, λ honest agree. failed_in a.disk.failures b.disk.failures b.next a.disk.failures b.disk.failures a.next (omega arith) (omega arith) step.frame.others.later (want honest agree))
code_want a b step partition.Memory want = inr refl

wanted : (a b : Scene Seen) (old new : List TopicPartition) (f : PartitionFault) (code : ℤ) → IsStep a b → new ≡ old → code ≡ partition_code f → IsRefused a b (IsWant a b f) → IsRefused a b (IsAppendWant a b old new code)
wanted a b old new f code step back here refused =
    record { want = (subst (IsCodeWant a b) (sym here) (code_want a b step f refused.want), back); counted = refused.counted; stays = refused.stays }

-- an append that was refused
pub append_refused : (a b : Scene Seen) (old new : List TopicPartition) (place : TopicPartition) (batch : List ℕ) (f : PartitionFault) (code : ℤ) (r : Result ℤ PartitionFault) → IsStep a b → new ≡ old → code ≡ partition_code f → r ≡ Err f
    → Tells a b ((b.state.world, r) ≡ append a.state.world place batch) (IsWant a b) r
    → let x : Result ℤ ℤ = Err code in Tells a b ((progress b.state.world new, x) ≡ appended_at (progress a.state.world old) place (append a.state.world place batch)) (IsAppendWant a b old new) x
append_refused a b old new place batch f code r step back here is told =
    ⊎_elim
    (λ done. inl (done_so a b ((b.state.world, fault) ≡ append a.state.world place batch) ((progress b.state.world new, back_to code) ≡ appended_at (progress a.state.world old) place (append a.state.world place batch))
    (λ e. ap (λ z. (progress b.state.world z, back_to code)) back ∙ ap (λ z. (progress b.state.world old, back_to z)) here ∙ ap (appended_at (progress a.state.world old) place) e) done))
    (λ refused. inr (wanted a b old new f code step back here refused))
    (subst (λ z. Tells a b ((b.state.world, z) ≡ append a.state.world place batch) (IsWant a b) z) is told)
  where
    fault : Result ℤ PartitionFault
    fault = Err f

    back_to : ℤ → Result ℤ ℤ
    back_to code = Err code

-- ---- whether the tenant may have it

-- what is asked of the count that the code has
pub full_is : (limit left : Option ℕ) (w : World) (batch : List ℕ) (size : ℕ) (r : Bool) → r ≡ is_past left size → left ≡ left_of limit (stored_in w) → size ≡ length batch → r ≡ is_full limit w batch
full_is limit left w batch size r is from many = is ∙ ap (λ o. is_past o size) from ∙ ap (is_past (left_of limit (stored_in w))) many

-- it could not be asked
pub ask_refused : (a b : Scene Seen) (full : Bool) (old new : List TopicPartition) (x : Progress × Result ℤ ℤ) (f : PartitionFault) (code : ℤ) (r : Result Bool PartitionFault) → IsStep a b → new ≡ old → code ≡ partition_code f → r ≡ Err f
    → Tells a b (r ≡ Ok full) (IsWant a b) r
    → let y : Result ℤ ℤ = Err code in Tells a b ((progress b.state.world new, y) ≡ x) (IsAppendWant a b old new) y
ask_refused a b full old new x f code r step back here is told =
    ⊎_elim
    (λ done. inl (done_so a b (fault ≡ Ok full) ((progress b.state.world new, back_to code) ≡ x) (λ e. absurd cc) done))
    (λ refused. inr (wanted a b old new f code step back here refused))
    (subst (λ z. Tells a b (z ≡ Ok full) (IsWant a b) z) is told)
  where
    fault : Result Bool PartitionFault
    fault = Err f

    back_to : ℤ → Result ℤ ℤ
    back_to code = Err code

-- the tenant may not have it
pub full_told : (a b : Scene Seen) (limit : Option ℕ) (old new : List TopicPartition) (place : TopicPartition) (batch : List ℕ) (code : ℤ) → new ≡ old
    → (let x : Result ℤ ℤ = Err code in (progress a.state.world old, x) ≡ appended_unless_full true (progress a.state.world old) place batch)
    → b.state.world ≡ a.state.world → true ≡ is_full limit a.state.world batch
    → let x : Result ℤ ℤ = Err code in (progress b.state.world new, x) ≡ appended_unless_full (is_full limit a.state.world batch) (progress a.state.world old) place batch
full_told a b limit old new place batch code back here same full =
    ap (λ (z : List TopicPartition). let x : Progress × Result ℤ ℤ = (progress b.state.world z, Err code) in x) back
    ∙ ap (λ (w : World). let x : Progress × Result ℤ ℤ = (progress w old, Err code) in x) same ∙ here ∙ ap (λ f. appended_unless_full f (progress a.state.world old) place batch) full

-- what is appended behind a step that asked
pub room_told : (a b d : Scene Seen) (limit : Option ℕ) (old new : List TopicPartition) (place : TopicPartition) (batch : List ℕ) (r : Result ℤ ℤ) → b.state.world ≡ a.state.world → false ≡ is_full limit a.state.world batch
    → (progress d.state.world new, r) ≡ appended_at (progress b.state.world old) place (append b.state.world place batch)
    → (progress d.state.world new, r) ≡ appended_unless_full (is_full limit a.state.world batch) (progress a.state.world old) place batch
room_told a b d limit old new place batch r same room told =
    told ∙ ap (λ (w : World). appended_at (progress w old) place (append w place batch)) same ∙ ap (λ f. appended_unless_full f (progress a.state.world old) place batch) room

-- ---- a step that was right, before one that is told

module _ (a b d : Scene Seen) (first : IsStep a b) (second : IsStep b d) (calm : b.state.refusals ≡ a.state.refusals) (P Q : Type 0) (so : b.disk.honest → a.agrees → P → Q) where
  done_later : IsDone b d P → IsDone a d Q
  done_later done = record {
    counted = done.counted ∙ calm;
    met = λ honest agree. let before = second.frame.others.honest honest in so before agree (done.met honest (first.frame.agrees before agree));
  }

  code_later : (code : ℤ) → IsCodeWant b d code → IsCodeWant a d code
  code_later code = ⊎_elim
      (λ store. inl (
        store.0,
        λ honest agree. let before = second.frame.others.honest honest in
            failed_in a.disk.failures d.disk.failures d.next b.disk.failures d.disk.failures d.next first.frame.failures (omega arith) (omega arith) (store.1 honest (first.frame.agrees before agree)),
      ))
      (λ memory. inr memory)

  refused_later : (old new : List TopicPartition) (code : ℤ) → WhereHonest a b (b.state.world ≡ a.state.world) → IsRefused b d (IsAppendWant b d old new code) → IsRefused a d (IsAppendWant a d old new code)
  refused_later old new code same refused = record {
    want = (code_later code refused.want.0, refused.want.1);
    counted = refused.counted ∙ ap counted_once calm;
    stays = λ honest agree. let before = second.frame.others.honest honest in refused.stays honest (first.frame.agrees before agree) ∙ same before agree;
  }

  pub told_later : (old new : List TopicPartition) (r : Result ℤ ℤ) → WhereHonest a b (b.state.world ≡ a.state.world) → Tells b d P (IsAppendWant b d old new) r → Tells a d Q (IsAppendWant a d old new) r
  told_later old new (Ok base) same told = done_later told
  told_later old new (Err code) same told = ⊎_elim (λ done. inl (done_later done)) (λ refused. inr (refused_later old new code same refused)) told
