-- What the requests of a group's members come to.
use Rattle.std.proofs.Common.{◌≡◌, ◌∙◌, ℕ, ℤ, Bool, [], refl, sym, ap, subst, inl}
use Rattle.std.specs.Prelude.{Result, Ok, Err, if◌then◌else◌}
use Rattle.kb_wire.specs.declared.fault.WireFault.{WireFault}
use Rattle.kb_wire.specs.ErrorCode.{code_of}
use Rattle.kb_wire.specs.declared.error_code.ErrorCode.{ErrorCode}
use Rattle.kb_api_group.specs.declared.join_group.JoinGroupRequest.{JoinGroupRequest}
use Rattle.kb_coordinator.specs.Calls.{after_join, is_accepted, join_code}
use Rattle.kb_coordinator.specs.Groups.{Groups, silent}
use Rattle.kb_coordinator.specs.Replies.{join_refusal}
use Rattle.kb_tenant_state.specs.World.{World}
use Rattle.kb_tenant_api.specs.Replies.{IsAnswer, Rebalances, replies}
use Rattle.kb_tenant_api.specs.Acknowledged.{AreGroupsBy}
use Rattle.kb_tenant_api.specs.Serve.{Outcome, if_read, of_join, IsOutcome, IsServed}
use Rattle.kb_tenant_api.specs.declared.answer.Answer.{Answer}
use Rattle.kb_wire.specs.declared.fault.ReadFault.{ReadFault}
use Rattle.kb_wire.specs.declared.fault.ReadFault.TheVariants as faults

-- a request whose body was read, and its topics after it
pub was_read : {A : Type 0} (id : ℤ) (w after : World) (gs new : Groups) (r : Result A WireFault) (v : A) (f : A → Outcome) (answer : Answer) → r ≡ Ok v → IsOutcome id (f v) after new [] answer → IsServed id (if_read w gs r f) after new [] (Ok answer)
was_read id w after gs new r v f answer read h = subst (λ x. IsServed id (if_read w gs x f) after new [] (Ok answer)) (sym read) h

-- a join, where the last replies were forgotten first
pub joined : (id : ℤ) (w : World) (clock n : ℕ) (gs quiet new : Groups) (r : JoinGroupRequest) (code : ErrorCode) (b : Bool) (answer : Answer) → quiet ≡ silent gs → code ≡ join_code n r quiet → new ≡ after_join clock n r quiet
    → is_accepted code ≡ b → IsAnswer id (if b then Rebalances else replies (join_refusal (code_of code) r.member_id)) answer → IsOutcome id (of_join w clock n gs r) w new [] answer
joined id w clock n gs quiet new r code b answer is coded after tested h =
    let told : join_code n r gs ≡ code = sym (coded ∙ ap (join_code n r) is) in (
      refl,
      after ∙ ap (after_join clock n r) is,
      refl,
      subst (λ c. IsAnswer id (if is_accepted c then Rebalances else replies (join_refusal (code_of c) r.member_id)) answer) (sym told)
          (subst (λ x. IsAnswer id (if x then Rebalances else replies (join_refusal (code_of code) r.member_id)) answer) (sym tested) h),
    )

-- groups that are as the request makes them, whatever is answered
pub groups_made : (old made new : Groups) (r : Result Answer ReadFault) → new ≡ made → AreGroupsBy old made r new
groups_made old made new (Ok answer) h = h
groups_made old made new (Err (faults.Wire fault)) h = h
groups_made old made new (Err faults.Memory) h = inl h
