-- What is answered to a request of a member, to a commit, to any other, and where the connection is shut, whatever was refused.
use Rattle.std.proofs.Common.{◌≡◌, ◌⊎◌, ℕ, ℤ, List, true, false, inl, inr, refl, ap, subst, sym, Result, Ok, Err, IfOk, OnErr}
use Rattle.std.specs.Ordering.{int_eq}
use Rattle.kb_wire.specs.declared.api_key.TheConstants.{OFFSET_COMMIT, JOIN_GROUP, HEARTBEAT, LEAVE_GROUP, SYNC_GROUP}
use Rattle.kb_wire.specs.declared.fault.ReadFault.{ReadFault}
use Rattle.kb_api_group.specs.declared.group_key.TheConstants.{DELETE_GROUPS, DESCRIBE_GROUPS, LIST_GROUPS}
use Rattle.kb_coordinator.specs.Groups.{Groups}
use Rattle.kb_tenant_state.specs.World.{World}
use Rattle.kb_tenant_state.specs.declared.topic_partition.TopicPartition.{TopicPartition}
use Rattle.kb_tenant.specs.Answered as tenant
use Rattle.kb_tenant.specs.declared.answer.Answer.TheVariants as plain
use Rattle.kb_tenant.specs.declared.node.Node.{Node}
use Rattle.kb_tenant_api.specs.Acknowledged.{answered, AcknowledgesCommits, AcknowledgesGroupDeletions, IsAnswerOrShut, IsOfCommits, IsOfMembers, IsPlainly, IsTruthful}
use Rattle.kb_tenant_api.specs.Replies.{IsAnswer}
use Rattle.kb_tenant_api.specs.Serve.{Outcome, served, IsServed}
use Rattle.kb_tenant_api.specs.declared.answer.Answer.{Answer}
use Rattle.kb_tenant_api.specs.declared.answer.Answer.TheVariants as answers

-- A key is not one that it differs from.
pub differs : (key other : ℤ) → int_eq key other ≡ false → int_eq other other ≡ true → key ≡ other → ⊥
differs key other apart same is = let yes : int_eq key other ≡ int_eq other other = ap (λ k. int_eq k other) is in absurd (cc)

pub is_of_none : (key : ℤ) → int_eq key JOIN_GROUP ≡ false → int_eq key HEARTBEAT ≡ false → int_eq key LEAVE_GROUP ≡ false → int_eq key SYNC_GROUP ≡ false → int_eq key DESCRIBE_GROUPS ≡ false → int_eq key LIST_GROUPS ≡ false → IsOfMembers key → ⊥
is_of_none key a b c d e f (inl join) = differs key JOIN_GROUP a refl join
is_of_none key a b c d e f (inr (inl heartbeat)) = differs key HEARTBEAT b refl heartbeat
is_of_none key a b c d e f (inr (inr (inl leave))) = differs key LEAVE_GROUP c refl leave
is_of_none key a b c d e f (inr (inr (inr (inl sync)))) = differs key SYNC_GROUP d refl sync
is_of_none key a b c d e f (inr (inr (inr (inr (inl describe))))) = differs key DESCRIBE_GROUPS e refl describe
is_of_none key a b c d e f (inr (inr (inr (inr (inr list))))) = differs key LIST_GROUPS f refl list

-- A commit is no request of a member.
pub commits_for_no_member : (key : ℤ) → key ≡ OFFSET_COMMIT → IsOfMembers key → ⊥
commits_for_no_member key is =
    is_of_none key (ap (λ k. int_eq k JOIN_GROUP) is) (ap (λ k. int_eq k HEARTBEAT) is) (ap (λ k. int_eq k LEAVE_GROUP) is) (ap (λ k. int_eq k SYNC_GROUP) is) (ap (λ k. int_eq k DESCRIBE_GROUPS) is) (ap (λ k. int_eq k LIST_GROUPS) is)

-- Nor is a deletion of groups.
pub deletes_for_no_member : (key : ℤ) → key ≡ DELETE_GROUPS → IsOfMembers key → ⊥
deletes_for_no_member key is =
    is_of_none key (ap (λ k. int_eq k JOIN_GROUP) is) (ap (λ k. int_eq k HEARTBEAT) is) (ap (λ k. int_eq k LEAVE_GROUP) is) (ap (λ k. int_eq k SYNC_GROUP) is) (ap (λ k. int_eq k DESCRIBE_GROUPS) is) (ap (λ k. int_eq k LIST_GROUPS) is)

-- A commit deletes no groups.
pub commits_delete_none : (key : ℤ) → key ≡ OFFSET_COMMIT → key ≡ DELETE_GROUPS → ⊥
commits_delete_none key is = differs key DELETE_GROUPS (ap (λ k. int_eq k DELETE_GROUPS) is) refl

pub is_no_commit : (key : ℤ) → int_eq key OFFSET_COMMIT ≡ false → int_eq key DELETE_GROUPS ≡ false → IsOfCommits key → ⊥
is_no_commit key a b (inl commit) = differs key OFFSET_COMMIT a refl commit
is_no_commit key a b (inr delete) = differs key DELETE_GROUPS b refl delete

-- a request of a member that is answered what is defined, or whose connection is shut
pub member_told : (failed full honest agree : Type 0) (node : Node) (clock n : ℕ) (key version id : ℤ) (body : List ℕ) (w : World) (gs new : Groups) (some touched : List TopicPartition) (o : Outcome) (result : Result Answer ReadFault) → IsOfMembers key
    → served node w clock gs n key version body ≡ o → IsServed id o w new some result
    → honest → agree → IsTruthful failed full node clock n key version id body w gs w new touched (answered result)
member_told failed full honest agree node clock n key version id body w gs new some touched o result member is met = λ h a. record {
  plain = λ none other. absurd (none member);
  committed = λ commit. absurd (commits_for_no_member key commit member);
  deleted = λ delete. absurd (deletes_for_no_member key delete member);
  members = λ m. by result met;
  stays = λ m. refl;
}
  where
    by : (r : Result Answer ReadFault) → IsServed id o w new some r → IsAnswerOrShut id (served node w clock gs n key version body).reaction (answered r)
    by (Ok answer) met = inl (subst (λ x. IsAnswer id x.reaction answer) (sym is) met.3)
    by (Err fault) met = inr refl

-- what is told of an answer, or of a connection that is shut
told_so : (honest agree : Type 0) (P : Answer → Type 0) (result : Result Answer ReadFault) → IfOk result (λ answer. honest → agree → P answer)
    → OnErr result (honest → agree → P (answers.Plain plain.Shut)) → honest → agree → P (answered result)
told_so honest agree P (Ok answer) told cut = told
told_so honest agree P (Err fault) told cut = cut

-- a commit that is told
pub commit_told : (failed full honest agree : Type 0) (node : Node) (clock n : ℕ) (key version id : ℤ) (body : List ℕ) (w v : World) (gs new : Groups) (touched : List TopicPartition) (result : Result Answer ReadFault) → key ≡ OFFSET_COMMIT
    → IfOk result (λ answer. honest → agree → AcknowledgesCommits (failed ⊎ full) node.limits id version gs w body v answer)
    → OnErr result (honest → agree → AcknowledgesCommits (failed ⊎ full) node.limits id version gs w body v (answers.Plain plain.Shut))
    → honest → agree → IsTruthful failed full node clock n key version id body w gs v new touched (answered result)
commit_told failed full honest agree node clock n key version id body w v gs new touched result is told cut = λ h a. record {
  plain = λ none other. absurd (other (inl is));
  committed = λ same. told_so honest agree (AcknowledgesCommits (failed ⊎ full) node.limits id version gs w body v) result told cut h a;
  deleted = λ delete. absurd (commits_delete_none key is delete);
  members = λ member. absurd (commits_for_no_member key is member);
  stays = λ member. absurd (commits_for_no_member key is member);
}

-- a deletion of groups that is told
pub delete_told : (failed full honest agree : Type 0) (node : Node) (clock n : ℕ) (key version id : ℤ) (body : List ℕ) (w v : World) (gs new : Groups) (touched : List TopicPartition) (result : Result Answer ReadFault) → key ≡ DELETE_GROUPS
    → IfOk result (λ answer. honest → agree → AcknowledgesGroupDeletions (failed ⊎ full) node.limits.request_entries id gs w body v new answer)
    → OnErr result (honest → agree → AcknowledgesGroupDeletions (failed ⊎ full) node.limits.request_entries id gs w body v new (answers.Plain plain.Shut))
    → honest → agree → IsTruthful failed full node clock n key version id body w gs v new touched (answered result)
delete_told failed full honest agree node clock n key version id body w v gs new touched result is told cut = λ h a. record {
  plain = λ none other. absurd (other (inr is));
  committed = λ commit. absurd (commits_delete_none key commit is);
  deleted = λ same. told_so honest agree (AcknowledgesGroupDeletions (failed ⊎ full) node.limits.request_entries id gs w body v new) result told cut h a;
  members = λ member. absurd (deletes_for_no_member key is member);
  stays = λ member. absurd (deletes_for_no_member key is member);
}

-- any other request, which is answered as if there were no groups
pub plainly_told : (failed full : Type 0) (node : Node) (clock n : ℕ) (key version id : ℤ) (body : List ℕ) (w v : World) (gs new : Groups) (touched : List TopicPartition) (answer : Answer) → (IsOfMembers key → ⊥) → (IsOfCommits key → ⊥)
    → IsPlainly (tenant.IsTruthful failed full node clock n key version id body w v touched) answer
    → IsTruthful failed full node clock n key version id body w gs v new touched answer
plainly_told failed full node clock n key version id body w v gs new touched answer none other told = record {
  plain = λ no_member no_commit. told;
  committed = λ is. absurd (other (inl is));
  deleted = λ is. absurd (other (inr is));
  members = λ member. absurd (none member);
  stays = λ member. absurd (none member);
}

-- That is told of what is passed on.
pub told_on : (failed full : Type 0) (node : Node) (clock n : ℕ) (key version id : ℤ) (body : List ℕ) (w v : World) (gs new : Groups) (some touched : List TopicPartition) (same answer : Answer) → touched ≡ some → answer ≡ same
    → IsTruthful failed full node clock n key version id body w gs v new some same
    → IsTruthful failed full node clock n key version id body w gs v new touched answer
told_on failed full node clock n key version id body w v gs new some touched same answer of_some is told =
    subst (λ x. IsTruthful failed full node clock n key version id body w gs v new x answer) (sym of_some)
    (subst (IsTruthful failed full node clock n key version id body w gs v new some) (sym is) told)
